-- What opening answers, as an outcome.
use Rattle.std.proofs.Common.{Err, subst, sym}
use Rattle.ingest_core.specs.Faults.{outcome_of_store}
use Rattle.sd_base.specs.declared.outcome.Outcome.{Outcome}
use Rattle.store_core.specs.declared.fault.StoreFault.TheVariants.{Damaged, NoStore, ShelfFault}
use Rattle.backup_top.specs.Steps.{OpensStore}
use Rattle.backup_top.proofs.Openings.{fault_is, first_told, in_error, opened_on, opening_of, refused_told, refused_with}
use Rattle.backup_top.proofs.Runs.{counted_as}
use Rattle.backup_top.proofs.opened.open_store.Goals as goal

pub returns-in-Ok : goal.returns-in-Ok
returns-in-Ok g c = record {
  on_state = λ state held. opened_on (g.F.Shelf.files c.args.shelf.now) (g.F.Shelf.files c.open.new.shelf) state c.in-Ok.store
      c.in-Ok.ensures.opened c.in-Ok.ensures.stands held;
  opened = c.in-Ok.ensures.opened;
  fresh = c.in-Ok.ensures.fresh;
  refused = tt;
  kept = record { same_files = c.in-Ok.ensures.reads.same_files; same_loose = c.in-Ok.ensures.reads.same_loose };
  counts = counted_as _ _ _ _ _ _ (λ clash. absurd cc) c.in-Ok.ensures.reads.counts;
}

pub returns-in-Err : goal.returns-in-Err
returns-in-Err g c =
    let fault = c.in-Err.fault in
    let told = g.F.Shelf.files c.args.shelf.now in
    let of = opening_of fault c.in-Err.ensures.kind c.in-Err.ensures.refused in
    let first = first_told told (outcome_of_store fault) of
    (λ is. c.in-Err.ensures.no_store (refused_with _ (fault_is fault NoStore is)))
    (λ flaw is. c.in-Err.ensures.damaged flaw (refused_with _ (fault_is fault (Damaged flaw) is))) in
    subst
    (λ (ending : Outcome). OpensStore (Err ending) g.F.Shelf.files g.F.Shelf.loose g.F.Shelf.faults g.F.Shelf.faultless
    c.args.shelf.now c.open.new.shelf)
    (sym c.outcome_of.ensures)
    (record {
      on_state = λ state held. refused_told told (g.F.Shelf.files c.open.new.shelf) state (outcome_of_store fault) of first held;
      opened = tt;
      fresh = tt;
      refused = (of, first);
      kept = record { same_files = c.in-Err.ensures.reads.same_files; same_loose = c.in-Err.ensures.reads.same_loose };
      counts = counted_as _ _ _ _ _ _ (λ is. refused_with _ (fault_is fault ShelfFault (in_error is)))
          c.in-Err.ensures.reads.counts;
    })
