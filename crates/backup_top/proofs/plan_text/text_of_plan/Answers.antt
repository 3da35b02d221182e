use Rattle.backup_top.proofs.Runs.{fails-with}
use Rattle.backup_top.proofs.plan_text.text_of_plan.Goals as goal

pub returns-in_err-text : goal.returns-in_err-text
returns-in_err-text c = rw (fails-with c.from_residual.result c.from_residual.ensures.0).1 tt

pub returns-in_err-push_line : goal.returns-in_err-push_line
returns-in_err-push_line c = rw (fails-with c.from_residual-in_err-push_line.result c.from_residual-in_err-push_line.ensures.0).1 tt
