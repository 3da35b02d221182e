-- The input was taken in, or it was refused.
use Rattle.std.proofs.Common.{Err, subst, sym}
use Rattle.sd_base.specs.OnePass.{in_store, pass_of_ingest}
use Rattle.sd_base.specs.Opening.{OpenAs}
use Rattle.sd_base.specs.declared.outcome.Outcome.{Outcome}
use Rattle.sd_base.specs.declared.words.Command.TheVariants.{Ingest}
use Rattle.std.specs.Prelude.{IfSome, Ok}
use Rattle.backup_top.specs.Steps.{MakesText, TakesByBook, TakesInput}
use Rattle.backup_top.proofs.Ingests.{book_map, book_refused, book_taken, ingest_refused, ingest_taken, takes_refused, takes_taken}
use Rattle.backup_top.proofs.ingest.ingest.Goals as goal

pub returns-in-Ok-clause-text : goal.returns-in-Ok-clause-text
returns-in-Ok-clause-text g c =
    let told = c.in-Ok.ensures in
    let made = c.text_of_summary.ensures in (
      told.ingests.0,
      told.ingests.1,
      ingest_taken c.args.name.now c.args.how.now told.ingests.0 _ _ _ _ _ _ c.in-Ok.summary c.text_of_summary.result
          (record {
            into = told.ingests.2;
            leaves = told.leaves;
            causes = told.causes;
            counts = told.shelf_counts;
            unopened = told.unopened;
          })
          made.text made.refused,
      λ opened. book_map (g.F.Shelf.files c.args.shelf.now) opened _ _
          (book_taken opened c.args.name.now told.ingests.0 c.in-Ok.summary c.text_of_summary.result made.refused)
          (told.ingests.3 opened),
    )

pub returns-in-Ok-clause-reads : goal.returns-in-Ok-clause-reads
returns-in-Ok-clause-reads g c =
    let told = c.in-Ok.ensures in
    takes_taken c.args.name.now c.args.how.now _ _ _ _ _ _ c.in-Ok.summary c.text_of_summary.result
    c.text_of_summary.ensures.refused
    (record { reads = told.reads; early = told.early; counts = told.source_counts; unopened = told.unread })

pub returns-in-Err-clause-text : goal.returns-in-Err-clause-text
returns-in-Err-clause-text g c =
    let told = c.in-Err.ensures in (
      told.ingests.0,
      told.ingests.1,
      subst
          (λ (ending : Outcome). MakesText (λ state. in_store (pass_of_ingest c.args.name.now told.ingests.0) state)
          (Ok (Ingest c.args.name.now c.args.how.now)) (Err ending)
          g.F.Shelf.files g.F.Shelf.loose g.F.Shelf.faults g.F.Shelf.faultless c.args.shelf.now c.ingest.new.shelf)
          (sym c.outcome_of_ingest.ensures)
          (ingest_refused c.args.name.now c.args.how.now told.ingests.0 _ _ _ _ _ _ c.in-Err.fault
          (record {
            into = told.ingests.2;
            leaves = told.leaves;
            causes = told.causes;
            counts = told.shelf_counts;
            unopened = told.unopened;
          })),
      λ opened. subst
          (λ (ending : Outcome). IfSome (g.F.Shelf.files c.args.shelf.now)
          (λ files. OpenAs files opened → TakesByBook opened c.args.name.now told.ingests.0 (Err ending)))
          (sym c.outcome_of_ingest.ensures)
          (book_map (g.F.Shelf.files c.args.shelf.now) opened _ _
          (book_refused opened c.args.name.now told.ingests.0 c.in-Err.fault) (told.ingests.3 opened)),
    )

pub returns-in-Err-clause-reads : goal.returns-in-Err-clause-reads
returns-in-Err-clause-reads g c =
    let told = c.in-Err.ensures in
    subst
    (λ (ending : Outcome). TakesInput c.args.name.now (Err ending) (g.F.Shelf.files c.args.shelf.now)
    g.R.Source.left g.R.Source.faults g.R.Source.faultless c.args.source.now c.ingest.new.source)
    (sym c.outcome_of_ingest.ensures)
    (takes_refused c.args.name.now c.args.how.now _ _ _ _ _ _ c.in-Err.fault told.causes.only
    (record { reads = told.reads; early = told.early; counts = told.source_counts; unopened = told.unread }))
