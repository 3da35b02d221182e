use Rattle.std.proofs.Common.{rules}
use Rattle.store_core.proofs.containers.check_containers.Goals as goal

pub returns : goal.returns
returns g c = search rules

pub returns-in_err-sizes : goal.returns-in_err-sizes
returns-in_err-sizes g c = search rules

pub returns-in_err-found : goal.returns-in_err-found
returns-in_err-found g c = search rules
