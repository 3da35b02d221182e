-- What a commit does to the files of a store, and when it is refused before it writes.
use Rattle.std.specs.Prelude.{◌≡◌, ◌≢◌, ◌⊎◌, ℕ, ◌+◌, ◌<◌, ◌≤◌, nat_le, nat_lt, Bool, true, false, if◌then◌else◌, is_some, List, [], ◌∷◌, ◌++◌, length, map, take, Option, Some, None, option_map, Result, Err}
use Rattle.container_pack.specs.Containers.{KeepsFront}
use Rattle.edge_traits.specs.Shelf.{content}
use Rattle.sd_base.specs.Books.{BookState, chunks_in, live_session, places_in, with_record}
use Rattle.sd_base.specs.Records.{spelling_of}
use Rattle.sd_base.specs.StateLaws.{chunk_at}
use Rattle.sd_base.specs.States.{State, followed_by_event, ingested, stored_chunks}
use Rattle.sd_base.specs.declared.file.File.{File}
use Rattle.sd_base.specs.declared.file.File.TheVariants.{Book, Container, Seal}
use Rattle.sd_base.specs.declared.limits.TheConstants.{COMMIT_BYTE, MAX_PLACES, MAX_SESSIONS}
use Rattle.sd_base.specs.declared.record.IngestRecord.{IngestRecord}
use Rattle.sd_base.specs.declared.record.Record.TheVariants.{Ingest}
use Rattle.store_core.specs.StoreStates.{StoreState, chunks_of_store, spot_of_chunk}
use Rattle.store_core.specs.declared.fault.StoreFault.{StoreFault}
use Rattle.store_core.specs.declared.fault.StoreFault.TheVariants.{NameTaken, OutOfMemory, ShelfFault, TooManyPlaces, TooManySessions}

-- why a session of this name and so many places may not be added to a book, if it may not
abbrev pub early_refusal : BookState → List ℕ → ℕ → Option StoreFault
early_refusal book name places =
    if is_some (live_session book.sessions name) then Some NameTaken
    else if nat_le MAX_SESSIONS (length book.sessions) then Some TooManySessions
    else if nat_lt MAX_PLACES (places_in book.sessions + places) then Some TooManyPlaces
    else None

-- the shelf failed, or memory ran out
abbrev pub OnlyFails : {T : Type 0} → Result T StoreFault → Type 0
OnlyFails result = (result ≡ Err ShelfFault) ⊎ (result ≡ Err OutOfMemory)

-- the record of a session that is committed: the offered chunks are its new ones
abbrev pub session_record : StoreState → List ℕ → ℕ → List ℕ → IngestRecord
session_record store name size recipe =
    record { name = name; length = size; fresh = store.offered; recipe = recipe }

-- the store after a commit
abbrev pub committed_store : StoreState → IngestRecord → StoreState
committed_store store entry = record {
  opened = record store.opened { book = with_record store.opened.book (Ingest entry) };
  offered = [];
  sound = true;
}

module _ (generation used : ℕ) (bytes : List ℕ) where
  -- the book has its first `used` bytes and then these alone, the seal has one byte more, and no
  -- other file has changed
  pub record CommitsRecord (before after : Option (File → List ℕ)) : Type 0 where
    pub book : content after (Book generation) ≡ option_map (λ had. take used had ++ bytes) (content before (Book generation))
    pub seal : content after (Seal generation) ≡ option_map (λ had. had ++ COMMIT_BYTE ∷ []) (content before (Seal generation))
    pub others : (f : File) → f ≢ Book generation → f ≢ Seal generation → content after f ≡ content before f

-- the files change as a commit of this ingest to a store changes them
abbrev pub CommitsIngest : StoreState → IngestRecord → Option (File → List ℕ) → Option (File → List ℕ) → Type 0
CommitsIngest store entry before after =
    CommitsRecord store.opened.head.generation store.opened.book.used (spelling_of (Ingest entry)) before after

-- the first `used` bytes of the book are as they were, and no other file has changed
pub record CommitsNothing (generation used : ℕ) (before after : Option (File → List ℕ)) : Type 0 where
  pub book : KeepsFront (Book generation) used before after
  pub others : (f : File) → f ≢ Book generation → content after f ≡ content before f

-- a chunk that was offered since the last commit lies in container k
pub record HasOffered (store : StoreState) (k : ℕ) : Type 0 where
  pub number : ℕ
  pub offered : length (chunks_in store.opened.book.sessions) ≤ number
  pub within : number < length (chunks_of_store store)
  pub container : k ≡ (spot_of_chunk store number).container

-- the book and these containers are not loose
pub record AreFlushed (generation : ℕ) (IsIn : ℕ → Type 0) (loose : File → Bool) : Type 0 where
  pub book : loose (Book generation) ≡ false
  pub containers : (k : ℕ) → IsIn k → loose (Container generation k) ≡ false

-- the chunks that a recipe names, of those that a state stores and those offered
abbrev pub recipe_chunks : State → List (List ℕ) → List ℕ → List (List ℕ)
recipe_chunks state offered recipe = map (chunk_at (stored_chunks state ++ offered)) recipe

-- the state after the chunks that a recipe names were taken in under a name
abbrev pub committed_state : State → List (List ℕ) → List ℕ → List ℕ → State
committed_state state offered name recipe =
    followed_by_event state (ingested name (recipe_chunks state offered recipe))
