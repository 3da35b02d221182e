-- The input is that of `bulk`, and no read of it fails.
use Rattle.std.proofs.Common.{◌≡◌, List, ℕ, Ok, ◌∙◌, subst}
use Rattle.std.specs.Prelude.{IfSome}
use Rattle.sd_base.specs.Generator.{bulk_input}
use Rattle.sd_base.specs.OnePass.{in_store, pass_of_ingest}
use Rattle.sd_base.specs.Opening.{OpenAs}
use Rattle.sd_base.specs.declared.words.Command.TheVariants.{Ingest}
use Rattle.backup_top.specs.Steps.{MakesText, TakesByBook}
use Rattle.backup_top.proofs.Bulks.{bulk_made, never_too_long}
use Rattle.backup_top.proofs.bulk.bulk.Goals as goal

pub returns-clause-text : goal.returns-clause-text
returns-clause-text g c =
    let told = c.ingest.ensures.text in
    let reads = c.ingest.ensures.reads in
    let seed = c.args.seed in
    let blocks = c.args.blocks in
    let how = c.args.how.now in
    let input = bulk_input seed blocks in
    let same : told.0 ≡ input = ◌∙◌ {c = input} told.1 c.new-source.ensures in
    bulk_made seed blocks how _ _ _ _ _ _ c.ingest.result (reads.counts.faultless_serves tt)
    (λ is. never_too_long seed blocks _ c.requires.blocks c.new-source.ensures (reads.too_long is))
    (subst
    (λ (name : List ℕ). MakesText (λ state. in_store (pass_of_ingest name input) state) (Ok (Ingest name how)) c.ingest.result
    g.F.Shelf.files g.F.Shelf.loose g.F.Shelf.faults g.F.Shelf.faultless c.args.shelf.now c.ingest.new.shelf)
    c.name_of_bulk-name.ensures
    (subst
    (λ (bytes : List ℕ). MakesText (λ state. in_store (pass_of_ingest c.name_of_bulk-name.result bytes) state)
    (Ok (Ingest c.name_of_bulk-name.result how)) c.ingest.result
    g.F.Shelf.files g.F.Shelf.loose g.F.Shelf.faults g.F.Shelf.faultless c.args.shelf.now c.ingest.new.shelf)
    same told.2))

pub returns-clause-by_book : goal.returns-clause-by_book
returns-clause-by_book g c =
    let told = c.ingest.ensures.text in
    let input = bulk_input c.args.seed c.args.blocks in
    let same : told.0 ≡ input = ◌∙◌ {c = input} told.1 c.new-source.ensures in λ opened.
    subst
    (λ (name : List ℕ). IfSome (g.F.Shelf.files c.args.shelf.now) (λ files. OpenAs files opened
    → TakesByBook opened name input c.ingest.result))
    c.name_of_bulk-name.ensures
    (subst
    (λ (bytes : List ℕ). IfSome (g.F.Shelf.files c.args.shelf.now) (λ files. OpenAs files opened
    → TakesByBook opened c.name_of_bulk-name.result bytes c.ingest.result))
    same (told.3 opened))
