use Rattle.backup_top.proofs.Runs.{fails-with}
use Rattle.backup_top.proofs.list_text.text_of_list.Goals as goal

pub returns-in_err-push_session : goal.returns-in_err-push_session
returns-in_err-push_session c = rw (fails-with c.from_residual.result c.from_residual.ensures.0).1 tt
