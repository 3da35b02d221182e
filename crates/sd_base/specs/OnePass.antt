-- The outcome of a run, its text and the state of the store after it, from its words, the state
-- before it and its input alone. No worker, segment, size of a read or order of steps enters. All
-- rules here are this project's own.
use Rattle.std.specs.Prelude.{ℕ, nat_le, nat_lt, List, [], length, Option, Some, None, is_some, Result, Ok, Err, if◌then◌else◌}
use Rattle.sd_base.specs.Audits.{audit_text, counts_of_state}
use Rattle.sd_base.specs.Cutting.{chunks_of}
use Rattle.sd_base.specs.Generator.{bulk_input, bulk_name}
use Rattle.sd_base.specs.Parameters.{bad_parameter}
use Rattle.sd_base.specs.Rows.{reference_rows_of_state, rows_of_state}
use Rattle.sd_base.specs.States.{State, bytes_of_number, dropped, followed_by_event, live_session_named, new_state, placed_chunks, places_of_number, sessions_in, stored_chunks, with_session}
use Rattle.sd_base.specs.Texts.{dropped_text, ingest_text, list_text, plan_text, ready_text, refs_text}
use Rattle.sd_base.specs.Words.{command_of}
use Rattle.sd_base.specs.declared.limits.TheConstants.{MAX_CHUNKS, MAX_INPUT, MAX_PLACES, MAX_SESSIONS}
use Rattle.sd_base.specs.declared.params.BadParams.{BadParams as BadParameter}
use Rattle.sd_base.specs.declared.raw_params.RawParams.{RawParams}
use Rattle.sd_base.specs.declared.words.BadWords.{BadWords as Refusal}
use Rattle.sd_base.specs.declared.words.Quiet.TheVariants.{Plan, Init, List as ListSessions, Restore, Drop, Refs, Audit}
use Rattle.sd_base.specs.declared.words.Command.{Command}
use Rattle.sd_base.specs.declared.words.Command.TheVariants.{Quiet, Ingest, Bulk}
use Rattle.sd_base.specs.declared.outcome.Outcome.{Outcome}
use Rattle.sd_base.specs.declared.outcome.Outcome.TheVariants.{Done, BadWords, BadParams, NoStore, StoreThere, NameTaken, NoSession, InputTooLong, TooManySessions, TooManyPlaces, TooManyChunks}

-- how a run ends, what it prints, and the state after it; `None` is no store
pub record Pass : Type 0 where
  pub outcome : Outcome
  pub text : List ℕ
  pub after : Option State

-- a run that ends so, prints nothing and leaves the state as it is
abbrev pub refusal : Option State → Outcome → Pass
refusal state outcome = record { outcome = outcome; text = []; after = state }

-- a run that is done, leaves this state and prints this text
abbrev pub success : Option State → List ℕ → Pass
success after text = record { outcome = Done; text = text; after = after }

-- a run that is refused so, or otherwise this one
abbrev pub unless_refused : Option Outcome → Option State → Pass → Pass
unless_refused None state pass = pass
unless_refused (Some outcome) state pass = refusal state outcome

-- `plan` with valid parameters on an input
abbrev pub pass_of_valid_plan : RawParams → Option State → List ℕ → Pass
pass_of_valid_plan params state input =
    if nat_lt MAX_INPUT (length input) then refusal state InputTooLong
    else success state (plan_text (chunks_of params input))

-- `plan`, from the first of its parameters that is out of its range, if one is
abbrev pub pass_of_plan : Option BadParameter → RawParams → Option State → List ℕ → Pass
pass_of_plan None params state input = pass_of_valid_plan params state input
pass_of_plan (Some kind) params state input = refusal state (BadParams kind)

-- `init` with valid parameters
abbrev pub pass_of_valid_init : RawParams → Option State → Pass
pass_of_valid_init params None = success (Some (new_state params)) ready_text
pass_of_valid_init params (Some state) = refusal (Some state) StoreThere

-- `init`, from the first of its parameters that is out of its range, if one is
abbrev pub pass_of_init : Option BadParameter → RawParams → Option State → Pass
pass_of_init None params state = pass_of_valid_init params state
pass_of_init (Some kind) params state = refusal state (BadParams kind)

-- a command that needs a store: what it does there, if there is one
abbrev pub in_store : (State → Pass) → Option State → Pass
in_store pass None = refusal None NoStore
in_store pass (Some state) = pass state

-- why an input is not taken in under a name, if it is not
abbrev pub refusal_of_ingest : State → List ℕ → List ℕ → Option Outcome
refusal_of_ingest state name input =
    if is_some (live_session_named (sessions_in state) name) then Some NameTaken
    else if nat_le MAX_SESSIONS (length (sessions_in state)) then Some TooManySessions
    else if nat_lt MAX_INPUT (length input) then Some InputTooLong
    else if nat_lt MAX_PLACES (length (placed_chunks (with_session state name input).events)) then Some TooManyPlaces
    else if nat_lt MAX_CHUNKS (length (stored_chunks (with_session state name input))) then Some TooManyChunks
    else None

-- `ingest` in a store
abbrev pub pass_of_ingest : List ℕ → List ℕ → State → Pass
pass_of_ingest name input state =
    unless_refused (refusal_of_ingest state name input) (Some state)
    (success (Some (with_session state name input))
    (ingest_text (placed_chunks state.events) name (chunks_of state.params input)))

-- `list` in a store
abbrev pub pass_of_list : State → Pass
pass_of_list state = success (Some state) (list_text (rows_of_state state))

-- `restore` in a store, from the number of the live session of its name, if there is one
abbrev pub pass_of_restore : Option ℕ → State → Pass
pass_of_restore None state = refusal (Some state) NoSession
pass_of_restore (Some k) state = success (Some state) (bytes_of_number state k)

-- `drop` in a store, from the number of the live session of its name, if there is one
abbrev pub pass_of_drop : List ℕ → Option ℕ → State → Pass
pass_of_drop name None state = refusal (Some state) NoSession
pass_of_drop name (Some k) state =
    success (Some (followed_by_event state (dropped k))) (dropped_text name (places_of_number state k))

-- `refs` in a store
abbrev pub pass_of_refs : State → Pass
pass_of_refs state = success (Some state) (refs_text (reference_rows_of_state state))

-- `audit` in a store
abbrev pub pass_of_audit : State → Pass
pass_of_audit state = success (Some state) (audit_text (counts_of_state state))

-- A command on a state and an input. `bulk` makes its own input, and takes it in as `ingest` does.
abbrev pub pass_of_command : Command → Option State → List ℕ → Pass
pass_of_command (Quiet (Plan params _ _)) state input = pass_of_plan (bad_parameter params) params state input
pass_of_command (Quiet (Init params)) state input = pass_of_init (bad_parameter params) params state
pass_of_command (Ingest name _) state input = in_store (pass_of_ingest name input) state
pass_of_command (Bulk seed blocks _) state input =
    in_store (pass_of_ingest (bulk_name seed blocks) (bulk_input seed blocks)) state
pass_of_command (Quiet ListSessions) state input = in_store pass_of_list state
pass_of_command (Quiet (Restore name)) state input =
    in_store (λ store. pass_of_restore (live_session_named (sessions_in store) name) store) state
pass_of_command (Quiet (Drop name)) state input =
    in_store (λ store. pass_of_drop name (live_session_named (sessions_in store) name) store) state
pass_of_command (Quiet Refs) state input = in_store pass_of_refs state
pass_of_command (Quiet Audit) state input = in_store pass_of_audit state

-- what the words name, on a state and an input
abbrev pub pass_of : Result Command Refusal → Option State → List ℕ → Pass
pass_of (Ok command) state input = pass_of_command command state input
pass_of (Err bad) state input = refusal state (BadWords bad)

-- the run of these words on this state and this input
abbrev pub one_pass : List (List ℕ) → Option State → List ℕ → Pass
one_pass words state input = pass_of (command_of words) state input
