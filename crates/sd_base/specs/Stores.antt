-- When the files of a store hold a state. Files are a function from a file to its bytes: a file
-- that is not there is empty.
use Rattle.std.specs.Prelude.{◌≡◌, ℕ, ◌+◌, ◌<◌, ◌==◌, if◌then◌else◌, List, [], ◌∷◌, ◌++◌, length, map, take, replicate, slice_index_or, Option, Some, None}
use Rattle.std.specs.List.{concat}
use Rattle.sd_base.specs.Books.{book_of}
use Rattle.sd_base.specs.Distinct.{first_index, new_chunks}
use Rattle.sd_base.specs.Packing.{packing}
use Rattle.sd_base.specs.Settings.{settings_of}
use Rattle.sd_base.specs.States.{Event, ingested, dropped, State, placed_chunks, stored_chunks}
use Rattle.sd_base.specs.declared.file.File.{File}
use Rattle.sd_base.specs.declared.file.File.TheVariants.{Head, Seal, Book, Container}
use Rattle.sd_base.specs.declared.limits.TheConstants.{COMMIT_BYTE, OPEN_HEAD_LEN, SETTINGS_LEN}
use Rattle.sd_base.specs.declared.record.IngestRecord.{IngestRecord}
use Rattle.sd_base.specs.declared.record.NewChunk.{NewChunk}
use Rattle.sd_base.specs.declared.record.Record.{Record}
use Rattle.sd_base.specs.declared.record.Record.TheVariants.{Ingest, Drop}
use Rattle.sd_base.specs.declared.record.TheConstants.{DIGEST_LEN}

-- a function that names each chunk by as many bytes as a name of a chunk has
abbrev pub GivesNames : (List ℕ → List ℕ) → Type 0
GivesNames name_of = (bytes : List ℕ) → length (name_of bytes) ≡ DIGEST_LEN

-- a chunk by its length and its name
abbrev pub named : (List ℕ → List ℕ) → List ℕ → NewChunk
named name_of chunk = record { length = length chunk; name = name_of chunk }

-- the record of an ingest: `stored` are the chunks of the whole state, `before` those of all
-- earlier ingests
abbrev pub ingest_record : (List ℕ → List ℕ) → List (List ℕ) → List (List ℕ) → List ℕ → List (List ℕ) → IngestRecord
ingest_record name_of stored before name chunks = record {
  name = name;
  length = length (concat chunks);
  fresh = map (named name_of) (new_chunks before chunks);
  recipe = map (first_index stored) chunks;
}

-- the record of an event after the ingests of these chunks
abbrev pub record_of : (List ℕ → List ℕ) → List (List ℕ) → List (List ℕ) → Event → Record
record_of name_of stored before (ingested name chunks) = Ingest (ingest_record name_of stored before name chunks)
record_of name_of stored before (dropped k) = Drop k

-- the records of events after the ingests of these chunks
abbrev pub records_from : (List ℕ → List ℕ) → List (List ℕ) → List (List ℕ) → List Event → List Record
records_from name_of stored before [] = []
records_from name_of stored before (event ∷ events) =
    record_of name_of stored before event ∷ records_from name_of stored (before ++ placed_chunks (event ∷ [])) events

-- the records of a state, one for each event
abbrev pub records_of : (List ℕ → List ℕ) → State → List Record
records_of name_of state = records_from name_of (stored_chunks state) [] state.events

-- these bytes stand at the front of the others
abbrev pub IsFrontOf : List ℕ → List ℕ → Type 0
IsFrontOf front bytes = (tail : List ℕ) × (bytes ≡ front ++ tail)

-- The files hold a state, with chunks named by `name_of`. Bytes after the committed ones do not
-- matter, nor do other files.
pub record HoldState (name_of : List ℕ → List ℕ) (files : File → List ℕ) (state : State) : Type 0 where
  pub settings : take SETTINGS_LEN (files Head) ≡ settings_of state.params
  pub generation : length (files Head) ≡ OPEN_HEAD_LEN + state.generation
  pub seal : length (files (Seal state.generation)) ≡ length state.events
  pub book : IsFrontOf (book_of (records_of name_of state)) (files (Book state.generation))
  pub containers : (k : ℕ) → k < length (packing (stored_chunks state)) →
      IsFrontOf (slice_index_or (packing (stored_chunks state)) k []) (files (Container state.generation k))

-- there is no store: the head is too short to open one
abbrev pub HoldNoStore : (File → List ℕ) → Type 0
HoldNoStore files = length (files Head) < OPEN_HEAD_LEN

-- the files hold a state, or there is no store
abbrev pub Hold : (List ℕ → List ℕ) → (File → List ℕ) → Option State → Type 0
Hold name_of files None = HoldNoStore files
Hold name_of files (Some state) = HoldState name_of files state

-- the files of a state and nothing else, as the tool writes them
abbrev pub files_of : (List ℕ → List ℕ) → State → File → List ℕ
files_of name_of state Head = settings_of state.params ++ replicate (1 + state.generation) COMMIT_BYTE
files_of name_of state (Seal g) = if g == state.generation then replicate (length state.events) COMMIT_BYTE else []
files_of name_of state (Book g) = if g == state.generation then book_of (records_of name_of state) else []
files_of name_of state (Container g k) =
    if g == state.generation then slice_index_or (packing (stored_chunks state)) k [] else []

-- A file has its committed bytes and no more: none, if it is no part of the state. Of the head and
-- of a seal the number of bytes counts alone.
abbrev pub IsCommittedAlone : (List ℕ → List ℕ) → State → File → List ℕ → Type 0
IsCommittedAlone name_of state Head bytes = length bytes ≡ length (files_of name_of state Head)
IsCommittedAlone name_of state (Seal g) bytes = length bytes ≡ length (files_of name_of state (Seal g))
IsCommittedAlone name_of state (Book g) bytes = bytes ≡ files_of name_of state (Book g)
IsCommittedAlone name_of state (Container g k) bytes = bytes ≡ files_of name_of state (Container g k)

-- the files hold a state, and nothing else
pub record HoldStateAlone (name_of : List ℕ → List ℕ) (files : File → List ℕ) (state : State) : Type 0 where
  pub holds : HoldState name_of files state
  pub alone : (file : File) → IsCommittedAlone name_of state file (files file)

-- The files are clean: they hold a state and nothing else, or there is no store and each is empty.
abbrev pub AreClean : (List ℕ → List ℕ) → (File → List ℕ) → Option State → Type 0
AreClean name_of files None = (file : File) → files file ≡ []
AreClean name_of files (Some state) = HoldStateAlone name_of files state
