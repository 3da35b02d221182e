use Rattle.sd_base.specs.StateBooks.{book_of_state}
use Rattle.sd_base.proofs.HeldStates.{held_state_opens}
use Rattle.store_core.proofs.Verdicts.{open_undamaged}
use Rattle.store_core.proofs.laws.held_states_are_undamaged.Goals as goal

pub returns : goal.returns
returns c = λ name_of files state damage names lawful held.
    open_undamaged files (record { head = record { params = state.params; generation = state.generation }; book = book_of_state name_of state }) damage
    (held_state_opens name_of names files state lawful held)
