-- What becomes of a chunk that is offered to a store.
use Rattle.std.specs.Prelude.{◌≡◌, ◌≢◌, ◌⊎◌, ℕ, ◌<◌, false, List, [], ◌∷◌, ◌++◌, length, Option, IfSome, Result, Err}
use Rattle.sd_base.specs.Distinct.{first_index, is_among, new_chunks}
use Rattle.sd_base.specs.States.{State, stored_chunks}
use Rattle.sd_base.specs.declared.damage.Damage.{Damage}
use Rattle.sd_base.specs.declared.damage.Damage.TheVariants.{Chunk as BadChunk}
use Rattle.sd_base.specs.declared.file.File.{File}
use Rattle.sd_base.specs.declared.record.NewChunk.{NewChunk}
use Rattle.sd_base.specs.declared.limits.TheConstants.{MAX_CHUNKS}
use Rattle.store_core.specs.Commits.{OnlyFails}
use Rattle.store_core.specs.StoreStates.{StandsFor, StoreState, chunks_of_store, chunk_as_read, kept_chunk}
use Rattle.store_core.specs.declared.fault.StoreFault.{StoreFault}
use Rattle.store_core.specs.declared.fault.StoreFault.TheVariants.{Damaged, OutOfMemory, ShelfFault, TooManyChunks}

-- the store with one more chunk offered
abbrev pub with_offer : StoreState → NewChunk → StoreState
with_offer store chunk = record store { offered = store.offered ++ chunk ∷ [] }

-- A chunk was offered and has number i: one of this length and name was there and the store has not
-- changed, or the chunk was added with the next number.
abbrev pub OffersAt : StoreState → NewChunk → ℕ → StoreState → Type 0
OffersAt old chunk i new =
    ((i < length (chunks_of_store old)) × (kept_chunk old i ≡ chunk) × (new ≡ old))
    ⊎ ((i ≡ length (chunks_of_store old)) × (i < MAX_CHUNKS) × (new ≡ with_offer old chunk))

-- A chunk was offered to a store that stands for a state with some chunks offered. Its number is
-- its first index among the stored and offered chunks, or their number if it is new. The store
-- stands for the state, with the chunk offered too if it is new.
abbrev pub IsOffered : (List ℕ → List ℕ) → State → List (List ℕ) → List ℕ → ℕ → StoreState
    → Option (File → List ℕ) → Type 0
IsOffered name_of state offered chunk i store files =
    (i ≡ first_index (stored_chunks state ++ offered) chunk)
    × IfSome files (λ bytes_of. StandsFor name_of store bytes_of state
    (offered ++ new_chunks (stored_chunks state ++ offered) (chunk ∷ [])))

-- how an offer may be refused
abbrev pub OnlyOffers : {T : Type 0} → Result T StoreFault → Type 0
OnlyOffers result =
    ((damage : Damage) × (result ≡ Err (Damaged damage))) ⊎ (result ≡ Err TooManyChunks)
    ⊎ (result ≡ Err ShelfFault) ⊎ (result ≡ Err OutOfMemory)

-- How an offer to a store that stands for a state with some chunks offered may be refused: the
-- chunk is new and there are as many chunks as there may be, the shelf failed, or memory ran out.
abbrev pub IsRefused : {T : Type 0} → State → List (List ℕ) → List ℕ → Result T StoreFault → Type 0
IsRefused state offered chunk result =
    ((result ≡ Err TooManyChunks) × (length (stored_chunks state ++ offered) ≡ MAX_CHUNKS)
    × (is_among (stored_chunks state ++ offered) chunk ≡ false))
    ⊎ OnlyFails result

-- The damage is of a chunk that the store keeps under this name. It has this name and another one.
pub record IsNamedDamage (store : StoreState) (name : List ℕ) (damage : Damage) : Type 0 where
  pub number : ℕ
  pub found : List ℕ
  pub within : number < length (chunks_of_store store)
  pub kept : (kept_chunk store number).name ≡ name
  pub differs : found ≢ name
  pub equals : damage ≡ BadChunk number name found

-- The bytes of chunk i, as read, have another name than the one that the store keeps. The damage
-- has both names.
pub record IsReadDamaged (name_of : List ℕ → List ℕ) (files : File → List ℕ) (store : StoreState) (i : ℕ)
    (damage : Damage) : Type 0 where
  pub differs : name_of (chunk_as_read files store i) ≢ (kept_chunk store i).name
  pub equals : damage ≡ BadChunk i (kept_chunk store i).name (name_of (chunk_as_read files store i))

module _ (name_of : List ℕ → List ℕ) (files : File → List ℕ) (store : StoreState) (chunk : List ℕ) where
  -- chunk i of the store has the name and the length of this one and, as read, its bytes
  pub record IsSame (i : ℕ) : Type 0 where
    pub within : i < length (chunks_of_store store)
    pub name : (kept_chunk store i).name ≡ name_of chunk
    pub size : (kept_chunk store i).length ≡ length chunk
    pub bytes : chunk_as_read files store i ≡ chunk

  -- if chunk i is kept under the name of this one, its bytes, as read, have the name
  abbrev pub IsIntactIfNamed : ℕ → Type 0
  IsIntactIfNamed i =
      (kept_chunk store i).name ≡ name_of chunk → name_of (chunk_as_read files store i) ≡ name_of chunk

  -- no chunk below number i is the same
  abbrev pub NoneBefore : ℕ → Type 0
  NoneBefore i = (j : ℕ) → j < i → IsSame j → ⊥

  -- each chunk below number i that is kept under the name is intact
  abbrev pub IntactBefore : ℕ → Type 0
  IntactBefore i = (j : ℕ) → j < i → IsIntactIfNamed j

  -- no chunk below number i is the same, and each that is kept under the name is intact
  pub record IsNewBelow (i : ℕ) : Type 0 where
    pub none : NoneBefore i
    pub intact : IntactBefore i

  -- Chunk i is the least that is the same. Each chunk before it that is kept under the name is
  -- intact.
  pub record IsLeastSame (i : ℕ) : Type 0 where
    pub same : IsSame i
    pub least : NoneBefore i
    pub intact : IntactBefore i

  -- A chunk is kept under the name of the offered chunk, but its bytes, as read, have another name.
  -- It is the first such chunk, and no chunk before it is the same.
  pub record IsFoundDamaged (damage : Damage) : Type 0 where
    pub number : ℕ
    pub within : number < length (chunks_of_store store)
    pub name : (kept_chunk store number).name ≡ name_of chunk
    pub damaged : IsReadDamaged name_of files store number damage
    pub before : NoneBefore number
    pub intact : IntactBefore number
