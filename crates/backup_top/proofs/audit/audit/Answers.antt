-- The text of an audit, or why it is refused.
use Rattle.std.proofs.Common.{Err, Ok, subst, sym}
use Rattle.sd_base.specs.OnePass.{in_store, pass_of_audit}
use Rattle.sd_base.specs.declared.outcome.Outcome.{Outcome}
use Rattle.sd_base.specs.declared.words.Command.TheVariants.{Quiet as quiet}
use Rattle.sd_base.specs.declared.words.Quiet.TheVariants.{Audit}
use Rattle.backup_top.specs.Steps.{MakesText}
use Rattle.backup_top.proofs.Audits.{audit_made, audit_refused}
use Rattle.backup_top.proofs.audit.audit.Goals as goal

pub returns-in-Ok : goal.returns-in-Ok
returns-in-Ok g c =
    audit_made _ _ _ _ _ _ c.in-Ok.audited c.text_of_counts.result c.in-Ok.ensures.audits c.in-Ok.ensures.reads
    c.text_of_counts.ensures.text c.text_of_counts.ensures.refused

pub returns-in-Err : goal.returns-in-Err
returns-in-Err g c = subst
    (λ (ending : Outcome). MakesText (in_store pass_of_audit) (Ok (quiet Audit)) (Err ending)
    g.F.Shelf.files g.F.Shelf.loose g.F.Shelf.faults g.F.Shelf.faultless c.args.shelf.now c.audit.new.shelf)
    (sym c.outcome_of.ensures)
    (audit_refused _ _ _ _ _ _ c.in-Err.fault c.in-Err.ensures.refused c.in-Err.ensures.audits c.in-Err.ensures.reads)
