use Rattle.backup_top.proofs.Runs.{fails-with}
use Rattle.backup_top.proofs.line_fields.push_name.Goals as goal

pub returns-in_err-push_str : goal.returns-in_err-push_str
returns-in_err-push_str c = rw (fails-with c.from_residual.result c.from_residual.ensures.0).1 tt

pub returns-in_err-push : goal.returns-in_err-push
returns-in_err-push c = rw (fails-with c.from_residual-in_err-push.result c.from_residual-in_err-push.ensures.0).1 tt
