use Rattle.std.proofs.Common.{inl, refl, sym, ◌∙◌}
use Rattle.container_pack.proofs.ShelfLemmas.{KeepsFront-same}
use Rattle.sd_base.specs.declared.file.File.TheVariants.{Book}
use Rattle.store_core.specs.Commits.{session_record}
use Rattle.store_core.proofs.CleanCommits.{commit-clean}
use Rattle.store_core.proofs.CommitLemmas.{commit-stands, committed-sound}
use Rattle.store_core.proofs.store.Store.commit.Goals as goal

pub returns-clause-stands : goal.returns-clause-stands
returns-clause-stands g c =
    let old = c.args.self.now in
    let outcome = c.commit_session-outcome.ensures in
    let entry = session_record old c.args.name.now c.args.length c.args.recipe.now in
    commit-stands g.N.Namer.name_of old _ (g.F.Shelf.files c.args.shelf.now) (g.F.Shelf.files c.commit_session-outcome.new.shelf)
    c.args.recipe.now c.args.name.now c.args.length c.commit_session-outcome.result
    (sym c.refusal_of.ensures ∙ c.in_default.is) c.requires.in_order c.requires.sums outcome.limit
    outcome.written outcome.lawful outcome.not_written
    (committed-sound c.commit_session-outcome.new.self old _ entry c.commit_session-outcome.result c.is_ok-self-inside.result
    c.self.view_is outcome.committed c.is_ok-self-inside.ensures.value)

-- an early refusal leaves the shelf as it was
pub returns-in-Some-clause-not_written : goal.returns-in-Some-clause-not_written
returns-in-Some-clause-not_written g c =
    let held = c.args.self.now.opened in
    let files = g.F.Shelf.files c.args.shelf.now in
    inl (record {
      book = KeepsFront-same (Book held.head.generation) held.book.used files files refl;
      others = λ f apart. refl;
    })

pub returns-clause-clean : goal.returns-clause-clean
returns-clause-clean g c =
    commit-clean g.N.Namer.name_of c.args.self.now (g.F.Shelf.files c.args.shelf.now)
    (g.F.Shelf.files c.commit_session-outcome.new.shelf) c.args.recipe.now c.args.name.now c.args.length
    c.commit_session-outcome.result c.requires.in_order c.requires.sums c.commit_session-outcome.ensures.written
