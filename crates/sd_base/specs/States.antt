-- The states of a store: what was done to it, as a finite list of events. A state has its chunks as
-- bytes: no name of a chunk enters, and no file.
use Rattle.std.specs.Prelude.{◌≡◌, ℕ, zero, suc, ◌+◌, ◌^◌, ◌<◌, ◌≤◌, ◌&&◌, Bool, true, false, IsTrue, if◌then◌else◌, List, [], ◌∷◌, ◌++◌, length, map, Option, None, unwrap_or, option_map}
use Rattle.std.specs.List.{All, concat, fold, position, slice_get}
use Rattle.std.specs.Str.{bytes_eq}
use Rattle.sd_base.specs.Cutting.{chunks_of}
use Rattle.sd_base.specs.Distinct.{distinct, first_index}
use Rattle.sd_base.specs.Names.{IsName}
use Rattle.sd_base.specs.Parameters.{IsValid}
use Rattle.sd_base.specs.declared.limits.TheConstants.{MAX_CHUNKS, MAX_GENERATION, MAX_PLACES, MAX_SESSIONS}
use Rattle.sd_base.specs.declared.raw_params.RawParams.{RawParams}

-- what was done to a store: these chunks were taken in under a name, or the session of a number was
-- dropped. Sessions are numbered from 0 in the order in which they were taken in.
pub data Event : Type 0 where
  ingested : List ℕ → List (List ℕ) → Event
  dropped : ℕ → Event

-- a state: the parameters of cutting, the generation of the files, and the events in order
pub record State : Type 0 where
  pub params : RawParams
  pub generation : ℕ
  pub events : List Event

-- a session of a state: its name, its chunks in the order of its bytes, and whether no later event
-- drops it
pub record StoredSession : Type 0 where
  pub name : List ℕ
  pub chunks : List (List ℕ)
  pub live : Bool

-- the sessions with one of them dropped
abbrev pub with_drop : List StoredSession → ℕ → List StoredSession
with_drop [] k = []
with_drop (session ∷ sessions) zero = record session { live = false } ∷ sessions
with_drop (session ∷ sessions) (suc k) = session ∷ with_drop sessions k

-- the sessions after one more event
abbrev pub with_event : List StoredSession → Event → List StoredSession
with_event sessions (ingested name chunks) = sessions ++ record { name = name; chunks = chunks; live = true } ∷ []
with_event sessions (dropped k) = with_drop sessions k

-- the sessions of events
abbrev pub sessions_after : List Event → List StoredSession
sessions_after events = fold with_event [] events

-- the sessions of a state, dropped ones too
abbrev pub sessions_in : State → List StoredSession
sessions_in state = sessions_after state.events

-- the chunks of all ingests in order, one for each place, dropped sessions too
abbrev pub placed_chunks : List Event → List (List ℕ)
placed_chunks [] = []
placed_chunks (ingested name chunks ∷ events) = chunks ++ placed_chunks events
placed_chunks (dropped k ∷ events) = placed_chunks events

-- the chunks that a store keeps: each once, in order of first occurrence. Chunk i is their item i.
abbrev pub stored_chunks : State → List (List ℕ)
stored_chunks state = distinct (placed_chunks state.events)

-- the chunks of a session by their numbers
abbrev pub recipe_of : State → StoredSession → List ℕ
recipe_of state session = map (first_index (stored_chunks state)) session.chunks

-- the bytes of a session
abbrev pub bytes_of_session : StoredSession → List ℕ
bytes_of_session session = concat session.chunks

-- whether the session of a number is there and is live
abbrev pub is_live_in : List StoredSession → ℕ → Bool
is_live_in sessions k = unwrap_or (option_map (λ session. session.live) (slice_get sessions k)) false

-- the live session of a name
abbrev pub live_session_named : List StoredSession → List ℕ → Option ℕ
live_session_named sessions name = position (λ session. session.live && bytes_eq session.name name) sessions

-- the numbers of the live sessions, rising, if the first of these sessions has number k
abbrev pub live_numbers : ℕ → List StoredSession → List ℕ
live_numbers k [] = []
live_numbers k (session ∷ sessions) = if session.live then k ∷ live_numbers (k + 1) sessions else live_numbers (k + 1) sessions

-- the numbers of the live sessions of a state, rising
abbrev pub live_sessions : State → List ℕ
live_sessions state = live_numbers 0 (sessions_in state)

-- an event that may follow these sessions: an ingest under a name that no live session has, or a
-- drop of a live session
abbrev pub MayHappen : List StoredSession → Event → Type 0
MayHappen sessions (ingested name chunks) = IsName name × (live_session_named sessions name ≡ None)
MayHappen sessions (dropped k) = IsTrue (is_live_in sessions k)

-- each event may follow those before it
abbrev pub MayAllHappen : List StoredSession → List Event → Type 0
MayAllHappen sessions [] = Unit {0}
MayAllHappen sessions (event ∷ events) = MayHappen sessions event × MayAllHappen (with_event sessions event) events

-- the chunks are the cutting of their bytes
abbrev pub IsCutting : RawParams → List (List ℕ) → Type 0
IsCutting params chunks = chunks ≡ chunks_of params (concat chunks)

-- a state that a store may be in
pub record IsLawful (state : State) : Type 0 where
  pub params : IsValid state.params
  pub generation : state.generation ≤ MAX_GENERATION
  pub events : MayAllHappen [] state.events
  pub cut : All (λ session. IsCutting state.params session.chunks) (sessions_in state)
  pub bytes : All (λ session. length (bytes_of_session session) < 2 ^ 32) (sessions_in state)
  pub sessions : length (sessions_in state) ≤ MAX_SESSIONS
  pub places : length (placed_chunks state.events) ≤ MAX_PLACES
  pub chunks : length (stored_chunks state) ≤ MAX_CHUNKS

-- the state of a store that was made with these parameters
abbrev pub new_state : RawParams → State
new_state params = record { params = params; generation = 0; events = [] }

-- the bytes of session k, or none if there is no such session
abbrev pub bytes_of_number : State → ℕ → List ℕ
bytes_of_number state k = unwrap_or (option_map bytes_of_session (slice_get (sessions_in state) k)) []

-- the number of places of session k, or 0 if there is no such session
abbrev pub places_of_number : State → ℕ → ℕ
places_of_number state k = unwrap_or (option_map (λ session. length session.chunks) (slice_get (sessions_in state) k)) 0

-- the state after one more event
abbrev pub followed_by_event : State → Event → State
followed_by_event state event = record state { events = state.events ++ event ∷ [] }

-- the state after an input was taken in under a name
abbrev pub with_session : State → List ℕ → List ℕ → State
with_session state name input = followed_by_event state (ingested name (chunks_of state.params input))
