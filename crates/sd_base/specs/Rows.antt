-- The rows of `list` and of `refs`: from a state, or from the committed records of a store, whatever
-- its files hold. The name of a chunk is its SHA-256 (FIPS 180-4), or what the records keep.
use Rattle.std.specs.Prelude.{ℕ, ◌+◌, List, [], ◌∷◌, length, if◌then◌else◌}
use Rattle.sha2.specs.Sha256.{sha256}
use Rattle.sd_base.specs.Books.{BookState, chunks_in}
use Rattle.sd_base.specs.References.{live_book_places, live_places, occurrences}
use Rattle.sd_base.specs.States.{State, StoredSession, sessions_in, stored_chunks, bytes_of_session}
use Rattle.sd_base.specs.Texts.{ReferenceRow, SessionRow}
use Rattle.sd_base.specs.declared.record.NewChunk.{NewChunk}
use Rattle.sd_base.specs.declared.record.Session.{Session}

-- session k of a state
abbrev pub row_of_session : ℕ → StoredSession → SessionRow
row_of_session k session = record {
  number = k;
  name = session.name;
  bytes = length (bytes_of_session session);
  places = length session.chunks;
}

-- the live ones of these sessions, if the first of them has number k
abbrev pub live_rows : ℕ → List StoredSession → List SessionRow
live_rows k [] = []
live_rows k (session ∷ sessions) =
    if session.live then row_of_session k session ∷ live_rows (k + 1) sessions else live_rows (k + 1) sessions

-- the rows of a state
abbrev pub rows_of_state : State → List SessionRow
rows_of_state state = live_rows 0 (sessions_in state)

-- session k of a book
abbrev pub row_of_book_session : ℕ → Session → SessionRow
row_of_book_session k session = record {
  number = k;
  name = session.entry.name;
  bytes = session.entry.length;
  places = length session.entry.recipe;
}

-- the live ones of these sessions of a book, if the first of them has number k
abbrev pub live_book_rows : ℕ → List Session → List SessionRow
live_book_rows k [] = []
live_book_rows k (session ∷ sessions) =
    if session.live then row_of_book_session k session ∷ live_book_rows (k + 1) sessions else live_book_rows (k + 1) sessions

-- the rows of a book
abbrev pub rows_of_book : BookState → List SessionRow
rows_of_book book = live_book_rows 0 book.sessions

-- chunk k of a state, if live sessions have these places
abbrev pub row_of_chunk : List ℕ → ℕ → List ℕ → ReferenceRow
row_of_chunk places k chunk = record {
  number = k;
  count = occurrences k places;
  length = length chunk;
  name = sha256 chunk;
}

-- these chunks, if the first of them has number k
abbrev pub chunk_rows : List ℕ → ℕ → List (List ℕ) → List ReferenceRow
chunk_rows places k [] = []
chunk_rows places k (chunk ∷ chunks) = row_of_chunk places k chunk ∷ chunk_rows places (k + 1) chunks

-- the rows of `refs` of a state
abbrev pub reference_rows_of_state : State → List ReferenceRow
reference_rows_of_state state = chunk_rows (live_places state) 0 (stored_chunks state)

-- chunk k of a book, if live sessions have these places
abbrev pub row_of_book_chunk : List ℕ → ℕ → NewChunk → ReferenceRow
row_of_book_chunk places k chunk = record {
  number = k;
  count = occurrences k places;
  length = chunk.length;
  name = chunk.name;
}

-- these chunks of a book, if the first of them has number k
abbrev pub book_chunk_rows : List ℕ → ℕ → List NewChunk → List ReferenceRow
book_chunk_rows places k [] = []
book_chunk_rows places k (chunk ∷ chunks) = row_of_book_chunk places k chunk ∷ book_chunk_rows places (k + 1) chunks

-- the rows of `refs` of a book
abbrev pub reference_rows_of_book : BookState → List ReferenceRow
reference_rows_of_book book = book_chunk_rows (live_book_places book.sessions) 0 (chunks_in book.sessions)
