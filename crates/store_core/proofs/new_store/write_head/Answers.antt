use Rattle.std.proofs.Common.{rules}
use Rattle.store_core.proofs.new_store.write_head.Goals as goal

pub returns : goal.returns
returns g c = search rules

pub returns-in_err-write_settings : goal.returns-in_err-write_settings
returns-in_err-write_settings g c = search rules
