-- A store as its callers see it, and what it stands on: the files of its shelf.
use Rattle.std.specs.Prelude.{◌≡◌, ℕ, Bool, List, [], ◌++◌, map, take, drop, slice_index_or, Some}
use Rattle.container_pack.specs.Containers.{ContainersBegin}
use Rattle.container_pack.specs.Spots.{spots_of}
use Rattle.container_pack.specs.declared.spot.Spot.{Spot}
use Rattle.sd_base.specs.Books.{chunks_in}
use Rattle.sd_base.specs.Distinct.{AreDifferent}
use Rattle.sd_base.specs.Opening.{Opened}
use Rattle.sd_base.specs.Packing.{packing}
use Rattle.sd_base.specs.StateBooks.{book_of_state}
use Rattle.sd_base.specs.States.{IsLawful, State, stored_chunks}
use Rattle.sd_base.specs.Stores.{HoldState, named}
use Rattle.sd_base.specs.declared.file.File.{File}
use Rattle.sd_base.specs.declared.file.File.TheVariants.{Container}
use Rattle.sd_base.specs.declared.record.NewChunk.{NewChunk}
use Rattle.store_core.specs.StoreFields.{lengths_of}

-- a store: what it opened as, with what was committed since; the chunks that were offered since the
-- last commit; and whether `offer`, `commit` and `drop_session` may be called
pub record StoreState : Type 0 where
  pub opened : Opened
  pub offered : List NewChunk
  pub sound : Bool

-- the chunks of a store by their lengths and names: the committed ones, and then those offered
abbrev pub chunks_of_store : StoreState → List NewChunk
chunks_of_store store = chunks_in store.opened.book.sessions ++ store.offered

-- chunk i; if there is none, one of length 0 with an empty name
abbrev pub kept_chunk : StoreState → ℕ → NewChunk
kept_chunk store i = slice_index_or (chunks_of_store store) i (record { length = 0; name = [] })

-- where chunk i lies; if there is none, offset 0 of container 0
abbrev pub spot_of_chunk : StoreState → ℕ → Spot
spot_of_chunk store i =
    slice_index_or (spots_of (lengths_of (chunks_of_store store))) i (record { container = 0; offset = 0 })

-- the bytes of chunk i as they are read: fewer than its length if its container ends too early
abbrev pub chunk_as_read : (File → List ℕ) → StoreState → ℕ → List ℕ
chunk_as_read files store i =
    let spot = spot_of_chunk store i in
    take (kept_chunk store i).length (drop spot.offset (files (Container store.opened.head.generation spot.container)))

-- A store over these files stands for a state, with these chunks offered. The state is lawful, and
-- the store has its parameters, generation and book. The chunks that were offered to the store are
-- these. The files hold the state. The containers begin with the packing of its chunks followed by
-- those offered, and no two of these chunks are equal.
pub record StandsFor (name_of : List ℕ → List ℕ) (store : StoreState) (files : File → List ℕ)
    (state : State) (offered : List (List ℕ)) : Type 0 where
  pub lawful : IsLawful state
  pub opened : store.opened ≡ record {
    head = record { params = state.params; generation = state.generation };
    book = book_of_state name_of state;
  }
  pub offers : store.offered ≡ map (named name_of) offered
  pub different : AreDifferent (stored_chunks state ++ offered)
  pub held : HoldState name_of files state
  pub begin : ContainersBegin (Some files) state.generation (packing (stored_chunks state ++ offered))
