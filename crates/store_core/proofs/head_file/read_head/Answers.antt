use Rattle.std.proofs.Common.{rules}
use Rattle.store_core.proofs.head_file.read_head.Goals as goal

pub returns-in-Some : goal.returns-in-Some
returns-in-Some g c = search rules

pub returns-in_default : goal.returns-in_default
returns-in_default g c = search rules

pub returns-in_err-size : goal.returns-in_err-size
returns-in_err-size g c = search rules

pub returns-in_err-params : goal.returns-in_err-params
returns-in_err-params g c = search rules

pub returns-then-size-from : goal.returns-then-size-from
returns-then-size-from g c = search rules
