-- The reference counts of a state are those of its book.
use Rattle.std.proofs.Common.{◌≡◌, ℕ, ◌+◌, List, [], ◌∷◌, ◌++◌, length, map, refl, ap, ◌∙◌}
use Rattle.std.specs.Prelude.{nat_lt, if◌then◌else◌, Some, None}
use Rattle.std.specs.List.{flat_map}
use Rattle.std.proofs.lemmas.List.{length-map}
use Rattle.sha2.specs.Sha256.{sha256}
use Rattle.sd_base.specs.Books.{chunks_in, sessions_of}
use Rattle.sd_base.specs.Distinct.{distinct, first_index}
use Rattle.sd_base.specs.References.{live_book_places, live_places, occurrences, references_in_book, references_in_state}
use Rattle.sd_base.specs.Rows.{book_chunk_rows, chunk_rows, reference_rows_of_book, reference_rows_of_state, row_of_chunk}
use Rattle.sd_base.specs.StateBooks.{book_of_state, book_sessions}
use Rattle.sd_base.specs.States.{State, StoredSession, sessions_in, stored_chunks}
use Rattle.sd_base.specs.Stores.{named, records_of}
use Rattle.sd_base.proofs.HeldStates.{chunks-placed, sessions-book}
use Rattle.sd_base.proofs.StateBooks.{chunks-book}

-- the places of the live ones of these sessions, by the numbers that stored chunks have
abbrev places_of_live : List (List ℕ) → List StoredSession → List ℕ
places_of_live stored sessions = flat_map (λ session. if session.live then map (first_index stored) session.chunks else []) sessions

live_places-sessions : (name_of : List ℕ → List ℕ) (stored before : List (List ℕ)) (sessions : List StoredSession) →
    live_book_places (book_sessions name_of stored before sessions) ≡ places_of_live stored sessions
live_places-sessions name_of stored before [] = refl
live_places-sessions name_of stored before (session ∷ sessions) =
    ap (λ later. (if session.live then map (first_index stored) session.chunks else []) ++ later)
    (live_places-sessions name_of stored (before ++ session.chunks) sessions)

-- the sessions of the book have the live places of the state
pub live_places-book : (name_of : List ℕ → List ℕ) (state : State) →
    live_book_places (sessions_of (records_of name_of state)) ≡ live_places state
live_places-book name_of state =
    ap live_book_places (sessions-book name_of state) ∙ live_places-sessions name_of (stored_chunks state) [] (sessions_in state)

-- and its stored chunks, by length and name
pub stored-book : (name_of : List ℕ → List ℕ) (state : State) →
    chunks_in (sessions_of (records_of name_of state)) ≡ map (named name_of) (stored_chunks state)
stored-book name_of state =
    ap chunks_in (sessions-book name_of state)
    ∙ chunks-book name_of (stored_chunks state) [] (sessions_in state)
    ∙ ap (λ placed. map (named name_of) (distinct placed)) (chunks-placed state)

pub references-book : (name_of : List ℕ → List ℕ) (state : State) (i : ℕ) →
    references_in_book (book_of_state name_of state).sessions i ≡ references_in_state state i
references-book name_of state i =
    ap (λ places. if nat_lt i (length (chunks_in (sessions_of (records_of name_of state)))) then Some (occurrences i places) else None)
    (live_places-book name_of state)
    ∙ ap (λ n. if nat_lt i n then Some (occurrences i (live_places state)) else None)
    (ap length (stored-book name_of state) ∙ length-map (stored_chunks state) (named name_of))

rows-named : (places : List ℕ) (k : ℕ) (chunks : List (List ℕ)) →
    book_chunk_rows places k (map (named sha256) chunks) ≡ chunk_rows places k chunks
rows-named places k [] = refl
rows-named places k (chunk ∷ chunks) = ap (λ rows. row_of_chunk places k chunk ∷ rows) (rows-named places (k + 1) chunks)

pub reference_rows-book : (state : State) → reference_rows_of_book (book_of_state sha256 state) ≡ reference_rows_of_state state
reference_rows-book state =
    ap (λ places. book_chunk_rows places 0 (chunks_in (sessions_of (records_of sha256 state)))) (live_places-book sha256 state)
    ∙ ap (book_chunk_rows (live_places state) 0) (stored-book sha256 state)
    ∙ rows-named (live_places state) 0 (stored_chunks state)
