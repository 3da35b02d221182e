-- Each command, as its parts put it together.
use Rattle.std.proofs.Common.{Ok, refl, subst, sym}
use Rattle.sd_base.specs.OnePass.{in_store, pass_of_command, pass_of_audit, pass_of_drop, pass_of_init, pass_of_list, pass_of_refs}
use Rattle.sd_base.specs.Parameters.{bad_parameter}
use Rattle.sd_base.specs.States.{State, live_session_named, sessions_in}
use Rattle.sd_base.specs.declared.words.Command.TheVariants.{Quiet as quiet}
use Rattle.sd_base.specs.declared.words.Quiet.{Quiet}
use Rattle.backup_top.specs.Run.{IsRun}
use Rattle.backup_top.proofs.Audits.{audit_leaves}
use Rattle.backup_top.proofs.Plans.{plan_runs}
use Rattle.backup_top.proofs.Runs.{carried_out, without_source}
use Rattle.backup_top.proofs.Unread.{audit_unread, drop_unread, init_unread, list_unread, refs_unread, restore_unread}
use Rattle.backup_top.proofs.runner.run_quiet.Goals as goal

pub returns-in-Plan : goal.returns-in-Plan
returns-in-Plan g c = record {
  run = subst
      (λ (q : Quiet). IsRun (pass_of_command (quiet q)) (Ok (quiet q)) c.write_made.result
      g.R.Source.left g.R.Source.faults g.R.Source.faultless c.args.source.now c.plan.new.source
      g.K.Sink.written g.K.Sink.faults g.K.Sink.faultless c.args.sink.now c.write_made.new.sink
      g.F.Shelf.files g.F.Shelf.loose g.F.Shelf.faults g.F.Shelf.faultless c.args.shelf.now c.args.shelf.now)
      (sym c.in-Plan.is)
      (plan_runs c.in-Plan.raw c.in-Plan.workers c.in-Plan.segment c.plan.result
      _ _ _ _ _ _ _ _ _ _ _ _ _ _ _ _ c.plan.ensures c.write_made.ensures);
}

pub returns-in-Init : goal.returns-in-Init
returns-in-Init g c =
    let made = carried_out (pass_of_init (bad_parameter c.in-Init.raw) c.in-Init.raw) _ c.write_made-in-Init.result _ _ _ _ _ _ _ _ _ _ _ c.init.result (λ ending sink leaves unmade. leaves)
    c.init.ensures c.write_made-in-Init.ensures in
    record {
      run = subst
          (λ (q : Quiet). IsRun (pass_of_command (quiet q)) (Ok (quiet q)) c.write_made-in-Init.result
          g.R.Source.left g.R.Source.faults g.R.Source.faultless c.args.source.now c.args.source.now
          g.K.Sink.written g.K.Sink.faults g.K.Sink.faultless c.args.sink.now c.write_made-in-Init.new.sink
          g.F.Shelf.files g.F.Shelf.loose g.F.Shelf.faults g.F.Shelf.faultless c.args.shelf.now c.init.new.shelf)
          (sym c.in-Init.is)
          (without_source (pass_of_init (bad_parameter c.in-Init.raw) c.in-Init.raw) _ _ _ _ _ _ _ _ _ _ _ _ _ _ _ _ _ (init_unread c.in-Init.raw _ made.among) refl (λ opened input. tt) made);
    }

pub returns-in-List : goal.returns-in-List
returns-in-List g c =
    let made = carried_out (in_store pass_of_list) _ c.write_made-in-List.result _ _ _ _ _ _ _ _ _ _ _ c.list.result (λ ending sink leaves unmade. leaves)
    c.list.ensures c.write_made-in-List.ensures in
    record {
      run = subst
          (λ (q : Quiet). IsRun (pass_of_command (quiet q)) (Ok (quiet q)) c.write_made-in-List.result
          g.R.Source.left g.R.Source.faults g.R.Source.faultless c.args.source.now c.args.source.now
          g.K.Sink.written g.K.Sink.faults g.K.Sink.faultless c.args.sink.now c.write_made-in-List.new.sink
          g.F.Shelf.files g.F.Shelf.loose g.F.Shelf.faults g.F.Shelf.faultless c.args.shelf.now c.list.new.shelf)
          (sym c.in-List.is)
          (without_source (in_store pass_of_list) _ _ _ _ _ _ _ _ _ _ _ _ _ _ _ _ _ (list_unread _ made.among) refl (λ opened input. tt) made);
    }

pub returns-in-Restore : goal.returns-in-Restore
returns-in-Restore g c =
    let made = c.restore.ensures in
    record {
      run = subst
          (λ (q : Quiet). IsRun (pass_of_command (quiet q)) (Ok (quiet q)) c.restore.result
          g.R.Source.left g.R.Source.faults g.R.Source.faultless c.args.source.now c.args.source.now
          g.K.Sink.written g.K.Sink.faults g.K.Sink.faultless c.args.sink.now c.restore.new.sink
          g.F.Shelf.files g.F.Shelf.loose g.F.Shelf.faults g.F.Shelf.faultless c.args.shelf.now c.restore.new.shelf)
          (sym c.in-Restore.is)
          (without_source _ _ _ _ _ _ _ _ _ _ _ _ _ _ _ _ _ _ (restore_unread c.in-Restore.name _ made.among) refl (λ opened input. tt) made);
    }

pub returns-in-Drop : goal.returns-in-Drop
returns-in-Drop g c =
    let name = c.in-Drop.name in
    let pass = in_store (λ (state : State). pass_of_drop name (live_session_named (sessions_in state) name) state) in
    let made = carried_out pass _ c.write_made-in-Drop.result _ _ _ _ _ _ _ _ _ _ _ c.drop_session.result (λ ending sink leaves unmade. leaves)
    c.drop_session.ensures c.write_made-in-Drop.ensures in
    record {
      run = subst
          (λ (q : Quiet). IsRun (pass_of_command (quiet q)) (Ok (quiet q)) c.write_made-in-Drop.result
          g.R.Source.left g.R.Source.faults g.R.Source.faultless c.args.source.now c.args.source.now
          g.K.Sink.written g.K.Sink.faults g.K.Sink.faultless c.args.sink.now c.write_made-in-Drop.new.sink
          g.F.Shelf.files g.F.Shelf.loose g.F.Shelf.faults g.F.Shelf.faultless c.args.shelf.now c.drop_session.new.shelf)
          (sym c.in-Drop.is)
          (without_source pass _ _ _ _ _ _ _ _ _ _ _ _ _ _ _ _ _ (drop_unread name _ made.among) refl (λ opened input. tt) made);
    }

pub returns-in-Refs : goal.returns-in-Refs
returns-in-Refs g c =
    let made = carried_out (in_store pass_of_refs) _ c.write_made-in-Refs.result _ _ _ _ _ _ _ _ _ _ _ c.refs.result (λ ending sink leaves unmade. leaves)
    c.refs.ensures c.write_made-in-Refs.ensures in
    record {
      run = subst
          (λ (q : Quiet). IsRun (pass_of_command (quiet q)) (Ok (quiet q)) c.write_made-in-Refs.result
          g.R.Source.left g.R.Source.faults g.R.Source.faultless c.args.source.now c.args.source.now
          g.K.Sink.written g.K.Sink.faults g.K.Sink.faultless c.args.sink.now c.write_made-in-Refs.new.sink
          g.F.Shelf.files g.F.Shelf.loose g.F.Shelf.faults g.F.Shelf.faultless c.args.shelf.now c.refs.new.shelf)
          (sym c.in-Refs.is)
          (without_source (in_store pass_of_refs) _ _ _ _ _ _ _ _ _ _ _ _ _ _ _ _ _ (refs_unread _ made.among) refl (λ opened input. tt) made);
    }

pub returns-in-Audit : goal.returns-in-Audit
returns-in-Audit g c =
    let made = carried_out (in_store pass_of_audit) _ c.write_made-in-Audit.result _ _ _ _ _ _ _ _ _ _ _ c.audit.result (audit_leaves c.audit.result (g.F.Shelf.files c.args.shelf.now) c.args.sink.now c.audit.ensures.verdict)
    c.audit.ensures c.write_made-in-Audit.ensures in
    record {
      run = subst
          (λ (q : Quiet). IsRun (pass_of_command (quiet q)) (Ok (quiet q)) c.write_made-in-Audit.result
          g.R.Source.left g.R.Source.faults g.R.Source.faultless c.args.source.now c.args.source.now
          g.K.Sink.written g.K.Sink.faults g.K.Sink.faultless c.args.sink.now c.write_made-in-Audit.new.sink
          g.F.Shelf.files g.F.Shelf.loose g.F.Shelf.faults g.F.Shelf.faultless c.args.shelf.now c.audit.new.shelf)
          (sym c.in-Audit.is)
          (without_source (in_store pass_of_audit) _ _ _ _ _ _ _ _ _ _ _ _ _ _ _ _ _ (audit_unread _ made.among) refl (λ opened input. tt) made);
    }
