use Rattle.std.proofs.lemmas.Option.{IfSome_then}
use Rattle.ingest_core.proofs.SessionCuts.{all-cut, first-not_cut}
use Rattle.ingest_core.proofs.auditing.cuts.cut_flaw.Goals as goal

pub returns : goal.returns
returns c params chunks valid filled kept =
    let book = c.args.book.now in
    let cuts = c.args.cuts.now in (
      λ none. all-cut params chunks cuts valid filled kept book c.requires.recipes c.requires.one_each (c.first_not_passed.ensures.all none),
      IfSome_then c.first_not_passed.result c.first_not_passed.ensures.first
          (first-not_cut params chunks cuts valid filled kept book c.requires.recipes c.requires.one_each),
    )
