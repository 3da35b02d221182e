-- What a `Book` keeps in memory, and what keeps it within the limits. The public contracts do not
-- speak of it.
use Rattle.std.specs.Prelude.{◌≡◌, ◌↔◌, ℕ, zero, suc, ◌+◌, ◌*◌, ◌<◌, ◌≤◌, if◌then◌else◌, List, [], ◌∷◌, length, count_by, Option, Some, None}
use Rattle.std.specs.BTreeMap.{BTreeMap, get}
use Rattle.std.specs.Cmp.Lexicographic.{slice_cmp}
use Rattle.std.specs.Ordering.{nat_cmp}
use Rattle.std.specs.declared.cmp.Ordering.{Ordering}
use Rattle.sd_base.specs.Books.{BookState, chunks_in, places_in}
use Rattle.sd_base.specs.declared.limits.TheConstants.{MAX_CHUNKS, MAX_PLACES, MAX_SESSIONS}
use Rattle.sd_base.specs.declared.record.Session.{Session}
use Rattle.sd_base.specs.declared.record.IngestRecord.{IngestRecord}
use Rattle.session_book.specs.declared.book.Book.TheInside.{Inside}
use Rattle.session_book.specs.declared.lengths.TheConstants.{DROP_LEN, SESSION_ROOM}

-- the name of the session of a number, if it is live
abbrev pub live_name : List Session → ℕ → Option (List ℕ)
live_name [] k = None
live_name (session ∷ sessions) zero = if session.live then Some session.entry.name else None
live_name (session ∷ sessions) (suc k) = live_name sessions k

-- the order of names in the index
abbrev pub name_cmp : List ℕ → List ℕ → Ordering
name_cmp = slice_cmp nat_cmp

-- an index has the number of each live session at its name, and nothing else
abbrev pub IsByName : BTreeMap (List ℕ) ℕ → List Session → Type 0
IsByName index sessions = (name : List ℕ) (k : ℕ) → (get name_cmp index name ≡ Some k) ↔ (live_name sessions k ≡ Some name)

pub record IsBook (book : Inside) : Type 0 where
  pub by_name : IsByName book.by_name book.sessions.items
  pub chunks : book.chunks.items ≡ chunks_in book.sessions.items
  pub places : book.places ≡ places_in book.sessions.items
  pub session_limit : length book.sessions.items ≤ MAX_SESSIONS
  pub place_limit : book.places ≤ MAX_PLACES
  pub chunk_limit : length book.chunks.items ≤ MAX_CHUNKS
  pub short : book.used + DROP_LEN * count_by (λ session. session.live) book.sessions.items ≤ SESSION_ROOM * length book.sessions.items

abbrev pub state_of : Inside → BookState
state_of book = record { sessions = book.sessions.items; used = book.used; max = book.max }

-- one more ingest keeps the sessions within the limits
pub record HasRoom (sessions : List Session) (entry : IngestRecord) : Type 0 where
  pub session_limit : length sessions < MAX_SESSIONS
  pub place_limit : places_in sessions + length entry.recipe ≤ MAX_PLACES
  pub chunk_limit : length (chunks_in sessions) + length entry.fresh ≤ MAX_CHUNKS
