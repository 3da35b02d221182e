-- What the records of a store's book say: its sessions in the order of their ingests, and its
-- chunks in order of first occurrence.
use Rattle.std.specs.Prelude.{◌≡◌, ◌⊎◌, ℕ, zero, suc, ◌+◌, ◌<◌, ◌≤◌, ◌==◌, ◌&&◌, nat_le, Bool, true, false, IsTrue, if◌then◌else◌, List, [], ◌∷◌, ◌++◌, length, take, slice_index_or, Option, Some, None, unwrap_or, option_map}
use Rattle.std.specs.List.{All, flat_map, fold, sum_by, position, slice_get}
use Rattle.std.specs.Str.{bytes_eq}
use Rattle.sd_base.specs.Records.{spelling_of, IsRecord, BeginsWith}
use Rattle.sd_base.specs.declared.damage.Damage.{Damage}
use Rattle.sd_base.specs.declared.damage.Damage.TheVariants.{Recipe, Record as BadRecord}
use Rattle.sd_base.specs.declared.limits.TheConstants.{MAX_CHUNKS, MAX_PLACES, MAX_SESSIONS}
use Rattle.sd_base.specs.declared.record.NewChunk.{NewChunk}
use Rattle.sd_base.specs.declared.record.IngestRecord.{IngestRecord}
use Rattle.sd_base.specs.declared.record.Session.{Session}
use Rattle.sd_base.specs.declared.record.Record.{Record}
use Rattle.sd_base.specs.declared.record.Record.TheVariants.{Ingest, Drop}

-- the sessions with one of them dropped
abbrev pub without : ℕ → List Session → List Session
without k [] = []
without zero (session ∷ sessions) = record { entry = session.entry; live = false } ∷ sessions
without (suc k) (session ∷ sessions) = session ∷ without k sessions

-- the sessions after one more record
abbrev pub followed_by : List Session → Record → List Session
followed_by sessions (Ingest entry) = sessions ++ record { entry = entry; live = true } ∷ []
followed_by sessions (Drop k) = without k sessions

-- the sessions of records
abbrev pub sessions_of : List Record → List Session
sessions_of records = fold followed_by [] records

-- the chunks of sessions, dropped ones too, in order of first occurrence
abbrev pub chunks_in : List Session → List NewChunk
chunks_in sessions = flat_map (λ session. session.entry.fresh) sessions

-- the number of places of sessions, dropped ones too
abbrev pub places_in : List Session → ℕ
places_in sessions = sum_by (λ session. length session.entry.recipe) sessions

-- whether the session of a number is live: false if there is none
abbrev pub is_live : List Session → ℕ → Bool
is_live sessions k = unwrap_or (option_map (λ session. session.live) (slice_get sessions k)) false

-- the live session of a name
abbrev pub live_session : List Session → List ℕ → Option ℕ
live_session sessions name = position (λ session. session.live && bytes_eq session.entry.name name) sessions

-- an ingest may follow these sessions: no new chunk is longer than a maximum, no live session has
-- the name, and the book stays within its limits
pub record MayIngest (max : ℕ) (sessions : List Session) (entry : IngestRecord) : Type 0 where
  pub short_chunks : All (λ chunk. chunk.length ≤ max) entry.fresh
  pub free_name : live_session sessions entry.name ≡ None
  pub session_limit : length sessions < MAX_SESSIONS
  pub place_limit : places_in sessions + length entry.recipe ≤ MAX_PLACES
  pub chunk_limit : length (chunks_in sessions) + length entry.fresh ≤ MAX_CHUNKS

-- a record may follow these sessions; a drop, if its session is live
abbrev pub MayFollow : ℕ → List Session → Record → Type 0
MayFollow max sessions (Ingest entry) = MayIngest max sessions entry
MayFollow max sessions (Drop k) = IsTrue (is_live sessions k)

-- records of the grammar, each of which may follow those before it
abbrev pub AreRecords : ℕ → List Session → List Record → Type 0
AreRecords max sessions [] = Unit {0}
AreRecords max sessions (entry ∷ records) =
    IsRecord entry × (MayFollow max sessions entry × AreRecords max (followed_by sessions entry) records)

-- the bytes of a book
abbrev pub book_of : List Record → List ℕ
book_of records = flat_map spelling_of records

-- the bytes begin with these records, and each may follow those before it
pub record HoldsRecords (max : ℕ) (bytes : List ℕ) (records : List Record) : Type 0 where
  pub lawful : AreRecords max [] records
  pub rest : List ℕ
  pub spelled : bytes ≡ book_of records ++ rest

-- k records stand at the front of the bytes, and none that may follow them stands there next
pub record IsFirstBadRecord (max : ℕ) (bytes : List ℕ) (k : ℕ) : Type 0 where
  pub before : List Record
  pub count : length before ≡ k
  pub holds : HoldsRecords max bytes before
  pub none : (entry : Record) (n : ℕ) → BeginsWith holds.rest entry n → MayFollow max (sessions_of before) entry → ⊥

-- the bytes of the chunks that a recipe names
abbrev pub bytes_named : List NewChunk → List ℕ → ℕ
bytes_named chunks recipe = sum_by (λ n. (slice_index_or chunks n (record { length = 0; name = [] })).length) recipe

abbrev pub or_else : Option ℕ → Option ℕ → Option ℕ
or_else None other = other
or_else (Some place) other = Some place

-- the place at which a recipe fails among the chunks of the book up to and with its record: the
-- first entry that names no chunk; otherwise its end, if the lengths do not sum to the length of
-- the input
abbrev pub recipe_flaw : List NewChunk → IngestRecord → Option ℕ
recipe_flaw chunks entry =
    or_else (position (λ n. nat_le (length chunks) n) entry.recipe)
    (if bytes_named chunks entry.recipe == entry.length then None else Some (length entry.recipe))

abbrev pub flaw_at : ℕ → Option ℕ → Option Damage → Option Damage
flaw_at session None later = later
flaw_at session (Some place) later = Some (Recipe session place)

-- the first recipe that fails, of sessions from number k on, after the chunks of those before them
abbrev pub recipe_damage : List NewChunk → ℕ → List Session → Option Damage
recipe_damage chunks k [] = None
recipe_damage chunks k (session ∷ sessions) =
    flaw_at k (recipe_flaw (chunks ++ session.entry.fresh) session.entry)
    (recipe_damage (chunks ++ session.entry.fresh) (k + 1) sessions)

-- a book: its sessions, the length of its records, and the longest chunk that it may hold
pub record BookState : Type 0 where
  pub sessions : List Session
  pub used : ℕ
  pub max : ℕ

-- the book with one more record
abbrev pub with_record : BookState → Record → BookState
with_record book entry = record {
  sessions = followed_by book.sessions entry;
  used = book.used + length (spelling_of entry);
  max = book.max;
}

-- the book of records
abbrev pub book_after : ℕ → List Record → BookState
book_after max records = record { sessions = sessions_of records; used = length (book_of records); max = max }

-- the book of the n records that bytes begin with; no recipe fails
pub record IsReplay (max : ℕ) (bytes : List ℕ) (n : ℕ) (book : BookState) : Type 0 where
  pub records : List Record
  pub count : length records ≡ n
  pub holds : HoldsRecords max bytes records
  pub recipes : recipe_damage [] 0 (sessions_of records) ≡ None
  pub equals : book ≡ book_after max records

-- the first bad record of n
pub record IsRecordDamage (max : ℕ) (bytes : List ℕ) (n : ℕ) (damage : Damage) : Type 0 where
  pub k : ℕ
  pub within : k < n
  pub first : IsFirstBadRecord max bytes k
  pub equals : damage ≡ BadRecord k

-- the first recipe that fails; none of the n records is bad
pub record IsRecipeDamage (max : ℕ) (bytes : List ℕ) (n : ℕ) (damage : Damage) : Type 0 where
  pub records : List Record
  pub count : length records ≡ n
  pub holds : HoldsRecords max bytes records
  pub first : recipe_damage [] 0 (sessions_of records) ≡ Some damage

-- what is first wrong with bytes that must begin with n records
abbrev pub IsBookDamage : ℕ → List ℕ → ℕ → Damage → Type 0
IsBookDamage max bytes n damage = IsRecordDamage max bytes n damage ⊎ IsRecipeDamage max bytes n damage

-- if the old book is the replay of some bytes, then the new one is the replay of its records with
-- this one after them, if no recipe of the new one fails
abbrev pub IsReplayedOn : BookState → Record → BookState → Type 0
IsReplayedOn old entry new =
    (bytes rest : List ℕ) (n : ℕ) → IsReplay old.max bytes n old → recipe_damage [] 0 new.sessions ≡ None →
    IsReplay old.max (take old.used bytes ++ (spelling_of entry ++ rest)) (n + 1) new

-- a book with one more record, which may follow, is a replay
abbrev pub AddingIsReplaying : Type 0
AddingIsReplaying =
    (book : BookState) (entry : Record) → IsRecord entry → MayFollow book.max book.sessions entry →
    IsReplayedOn book entry (with_record book entry)
