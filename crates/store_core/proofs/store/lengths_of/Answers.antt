use Rattle.std.proofs.Common.{rules}
use Rattle.store_core.proofs.store.lengths_of.Goals as goal

pub returns-in_err-push : goal.returns-in_err-push
returns-in_err-push c = search rules

pub returns-in_err-lengths : goal.returns-in_err-lengths
returns-in_err-lengths c = search rules
