use Rattle.std.proofs.Common.{[], ap, ◌∙◌}
use Rattle.sd_base.specs.Rows.{live_book_rows}
use Rattle.sd_base.specs.States.{sessions_in, stored_chunks}
use Rattle.sd_base.proofs.HeldStates.{held_state_opens, sessions-book}
use Rattle.sd_base.proofs.References.{reference_rows-book, references-book}
use Rattle.sd_base.proofs.StateBooks.{rows-book}
use Rattle.sd_base.proofs.state_laws.held_states_open.Goals as goal

pub returns-clause-opened : goal.returns-clause-opened
returns-clause-opened c = λ name_of files state names. held_state_opens name_of names files state

pub returns-clause-rows : goal.returns-clause-rows
returns-clause-rows c = λ name_of state.
    ap (live_book_rows 0) (sessions-book name_of state) ∙ rows-book name_of (stored_chunks state) [] 0 (sessions_in state)

pub returns-clause-references : goal.returns-clause-references
returns-clause-references c = references-book

pub returns-clause-reference_rows : goal.returns-clause-reference_rows
returns-clause-reference_rows c = reference_rows-book
