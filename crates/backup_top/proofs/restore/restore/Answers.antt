-- The session was restored, it was not, or the store was not opened.
use Rattle.std.proofs.Common.{Err, subst, sym}
use Rattle.std.specs.Prelude.{Ok}
use Rattle.sd_base.specs.OnePass.{in_store, pass_of_restore}
use Rattle.sd_base.specs.States.{live_session_named, sessions_in}
use Rattle.sd_base.specs.declared.outcome.Outcome.{Outcome}
use Rattle.sd_base.specs.declared.words.Command.TheVariants.{Quiet as quiet}
use Rattle.sd_base.specs.declared.words.Quiet.TheVariants.{Restore}
use Rattle.backup_top.specs.Run.{IsCarriedOut}
use Rattle.backup_top.proofs.Restores.{restored_run, unopened_run}
use Rattle.backup_top.proofs.restore.restore.Goals as goal

pub returns-in-Ok-restore : goal.returns-in-Ok-restore
returns-in-Ok-restore g c =
    let told = c.in-Ok-restore.ensures in
    restored_run c.args.name.now _ _ _ _ _ _ _ _ _ _ c.open_store.new.shelf _ c.in-Ok.store (Ok tt) c.in-Ok.ensures
    (record {
      finds = told.no_session;
      only = told.refused;
      untouched = told.untouched;
      nothing = told.nothing;
      restored = told.restored;
      damaged = told.damaged;
      part = told.prefix;
      kind = told.kind;
      unknown = λ session place found some. (told.unknown session place found some).0;
      reads = told.reads;
      counts = told.counts;
      stands = told.stands;
    })

pub returns-in-Ok : goal.returns-in-Ok
returns-in-Ok g c =
    let told = c.in-Err-restore.ensures in
    subst
    (λ (ending : Outcome). IsCarriedOut
    (in_store (λ store. pass_of_restore (live_session_named (sessions_in store) c.args.name.now) store))
    (Ok (quiet (Restore c.args.name.now))) ending
    g.K.Sink.written g.K.Sink.faults g.K.Sink.faultless c.args.sink.now c.restore.new.sink
    g.F.Shelf.files g.F.Shelf.loose g.F.Shelf.faults g.F.Shelf.faultless c.args.shelf.now c.restore.new.shelf)
    (sym c.outcome_of.ensures)
    (restored_run c.args.name.now _ _ _ _ _ _ _ _ _ _ c.open_store.new.shelf _ c.in-Ok.store (Err c.in-Err-restore.fault)
    c.in-Ok.ensures
    (record {
      finds = told.no_session;
      only = told.refused;
      untouched = told.untouched;
      nothing = told.nothing;
      restored = told.restored;
      damaged = told.damaged;
      part = told.prefix;
      kind = told.kind;
      unknown = λ session place found some. (told.unknown session place found some).0;
      reads = told.reads;
      counts = told.counts;
      stands = told.stands;
    }))

pub returns : goal.returns
returns g c =
    unopened_run c.args.name.now _ _ _ _ c.args.sink.now _ _ _ _ _ _ c.open_store.new.shelf c.in-Err.outcome
    c.in-Err.ensures
