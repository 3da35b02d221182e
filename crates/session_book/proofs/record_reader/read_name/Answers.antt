use Rattle.std.proofs.Common.{arith, rules}
use Rattle.std.proofs.lemmas.Grind.{common_steps}
use Rattle.session_book.specs.Reading.{name_at}
use Rattle.session_book.proofs.record_reader.read_name.Goals as goal

pub returns-in-Ok : goal.returns-in-Ok
unfolding name_at
returns-in-Ok c = grind (arith, common_steps)

pub returns-in-Err : goal.returns-in-Err
unfolding name_at
returns-in-Err c = grind (arith, common_steps)

pub returns-in-empty : goal.returns-in-empty
unfolding name_at
returns-in-empty c = search rules

pub returns-in_err-bytes-in-len1-up : goal.returns-in_err-bytes-in-len1-up
unfolding name_at
returns-in_err-bytes-in-len1-up c = search rules
