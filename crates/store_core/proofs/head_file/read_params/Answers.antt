use Rattle.std.proofs.Common.{rules}
use Rattle.store_core.proofs.head_file.read_params.Goals as goal

pub returns-in_err-count : goal.returns-in_err-count
returns-in_err-count g c = search rules
