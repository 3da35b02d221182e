-- The book of a state: what the records of its events say.
use Rattle.std.specs.Prelude.{ℕ, List, [], ◌∷◌, ◌++◌}
use Rattle.sd_base.specs.Books.{BookState, book_after}
use Rattle.sd_base.specs.States.{State, StoredSession}
use Rattle.sd_base.specs.Stores.{ingest_record, records_of}
use Rattle.sd_base.specs.declared.record.Session.{Session}

-- a session as the book has it: `stored` are the chunks of the whole state, `before` those of all
-- earlier sessions
abbrev pub book_session : (List ℕ → List ℕ) → List (List ℕ) → List (List ℕ) → StoredSession → Session
book_session name_of stored before session =
    record { entry = ingest_record name_of stored before session.name session.chunks; live = session.live }

-- sessions as the book has them, after sessions of these chunks
abbrev pub book_sessions : (List ℕ → List ℕ) → List (List ℕ) → List (List ℕ) → List StoredSession → List Session
book_sessions name_of stored before [] = []
book_sessions name_of stored before (session ∷ sessions) =
    book_session name_of stored before session ∷ book_sessions name_of stored (before ++ session.chunks) sessions

-- the book of a state
abbrev pub book_of_state : (List ℕ → List ℕ) → State → BookState
book_of_state name_of state = book_after state.params.max (records_of name_of state)
