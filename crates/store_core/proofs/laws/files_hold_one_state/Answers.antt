use Rattle.store_core.proofs.OneState.{one_state}
use Rattle.store_core.proofs.laws.files_hold_one_state.Goals as goal

pub returns : goal.returns
returns c = λ name_of files first second names here there held other. one_state name_of names files first second here there held other
