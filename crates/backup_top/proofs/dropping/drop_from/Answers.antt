-- The session was dropped, or a call on the files failed, or memory ran out.
use Rattle.std.proofs.Common.{Err, ap, subst, sym, ◌∙◌}
use Rattle.sd_base.specs.Books.{BookState}
use Rattle.sd_base.specs.declared.outcome.Outcome.{Outcome}
use Rattle.std.specs.Prelude.{Ok}
use Rattle.backup_top.specs.ByRecords.{places_named}
use Rattle.backup_top.specs.Steps.{DropsFrom}
use Rattle.backup_top.proofs.Drops.{dropped_done, dropped_failed, promised}
use Rattle.backup_top.proofs.dropping.drop_from.Goals as goal

pub returns-in-Ok-drop_session : goal.returns-in-Ok-drop_session
returns-in-Ok-drop_session g c =
    let name = c.args.name.now in
    let store = c.args.store.now in
    let made = c.in-Ok-drop_session.ensures in
    let some = sym (c.in-Some.ensures ∙ ap (λ (b : BookState). places_named b.sessions name) c.book.ensures.book) in
    dropped_done name _ _ _ _ store _ _ c.in-Some.places c.in-Ok-drop_session.field-0 c.in-Ok.text some c.in-Ok.ensures
    (promised name _ _ _ _ store c.drop_session.new.self _ _ (Ok c.in-Ok-drop_session.field-0) c.in-Some.places some
    made.late made.flushed made.sealed made.stands made.clean made.counts)

pub returns-in-Err : goal.returns-in-Err
returns-in-Err g c =
    let name = c.args.name.now in
    let store = c.args.store.now in
    let fault = c.in-Err.fault in
    let made = c.in-Err.ensures in
    let some = sym (c.in-Some.ensures ∙ ap (λ (b : BookState). places_named b.sessions name) c.book.ensures.book) in
    subst
    (λ (ending : Outcome). DropsFrom store name (Err ending) g.F.Shelf.files g.F.Shelf.loose g.F.Shelf.faults
    g.F.Shelf.faultless c.args.shelf.now c.drop_session.new.shelf)
    (sym c.outcome_of.ensures)
    (dropped_failed name _ _ _ _ store _ _ fault
    (promised name _ _ _ _ store c.drop_session.new.self _ _ (Err fault) c.in-Some.places some
    made.late made.flushed made.sealed made.stands made.clean made.counts))
