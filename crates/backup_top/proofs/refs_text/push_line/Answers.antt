use Rattle.backup_top.proofs.Runs.{fails-with}
use Rattle.backup_top.proofs.refs_text.push_line.Goals as goal

pub returns-in_err-push_number : goal.returns-in_err-push_number
returns-in_err-push_number c = rw (fails-with c.from_residual.result c.from_residual.ensures.0).1 tt

pub returns-in_err-push_number-2 : goal.returns-in_err-push_number-2
returns-in_err-push_number-2 c = rw (fails-with c.from_residual-in_err-push_number-2.result c.from_residual-in_err-push_number-2.ensures.0).1 tt

pub returns-in_err-push_number-3 : goal.returns-in_err-push_number-3
returns-in_err-push_number-3 c = rw (fails-with c.from_residual-in_err-push_number-3.result c.from_residual-in_err-push_number-3.ensures.0).1 tt
