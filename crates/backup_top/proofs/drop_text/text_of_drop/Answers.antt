use Rattle.backup_top.proofs.Runs.{fails-with}
use Rattle.backup_top.proofs.drop_text.text_of_drop.Goals as goal

pub returns-in_err-writeln : goal.returns-in_err-writeln
returns-in_err-writeln c = rw (fails-with c.from_residual.result c.from_residual.ensures.0).1 tt
