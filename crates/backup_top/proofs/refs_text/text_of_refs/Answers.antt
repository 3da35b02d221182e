use Rattle.backup_top.proofs.Runs.{fails-with}
use Rattle.backup_top.proofs.refs_text.text_of_refs.Goals as goal

pub returns-in_err-lines : goal.returns-in_err-lines
returns-in_err-lines c = rw (fails-with c.from_residual.result c.from_residual.ensures.0).1 tt

pub returns-in_err-push_chunk : goal.returns-in_err-push_chunk
returns-in_err-push_chunk c = rw (fails-with c.from_residual-in_err-push_chunk.result c.from_residual-in_err-push_chunk.ensures.0).1 tt
