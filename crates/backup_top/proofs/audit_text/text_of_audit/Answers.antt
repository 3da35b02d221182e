use Rattle.backup_top.proofs.Runs.{fails-with}
use Rattle.backup_top.proofs.audit_text.text_of_audit.Goals as goal

pub returns-in_err-write : goal.returns-in_err-write
returns-in_err-write c = rw (fails-with c.from_residual.result c.from_residual.ensures.0).1 tt

pub returns-in_err-writeln : goal.returns-in_err-writeln
returns-in_err-writeln c = rw (fails-with c.from_residual-in_err-writeln.result c.from_residual-in_err-writeln.ensures.0).1 tt
