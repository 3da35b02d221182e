-- What an audit finds in the files of a store that open: its first flaw, or that it has none. Flaws
-- are sought in this order: containers without their mark, chunks without their name, equal chunks,
-- chunks out of the order in which they first occur, and sessions that are not cut by the
-- parameters. All sessions of the book are looked at, dropped ones too. All rules here are this
-- project's own.
use Rattle.std.specs.Prelude.{◌≡◌, ◌≢◌, ◌⊎◌, ℕ, suc, ◌+◌, ◌-◌, ◌<◌, ◌≤◌, ◌==◌, Bool, List, [], length, map, take, slice_index_or, Option, Some, None}
use Rattle.std.specs.Int.{w64, from_be_bytes}
use Rattle.std.specs.List.{count_by, list_any, range_with_len}
use Rattle.sd_base.specs.Books.{BookState, chunks_in}
use Rattle.sd_base.specs.Cuttings.{IsOfTheCutting}
use Rattle.sd_base.specs.Distinct.{first_index}
use Rattle.sd_base.specs.Firsts.{HoldsBelow, HoldsAtPlaces, IsFirstFailing, IsFirstFailingPlace}
use Rattle.sd_base.specs.Opening.{Opened, chunk_lengths, needed_sizes}
use Rattle.sd_base.specs.Packing.{header_of, packing}
use Rattle.sd_base.specs.Stores.{IsFrontOf}
use Rattle.sd_base.specs.declared.damage.Damage.{Damage}
use Rattle.sd_base.specs.declared.damage.Damage.TheVariants.{Mark, Chunk, Twin, Order, Cut}
use Rattle.sd_base.specs.declared.file.File.{File}
use Rattle.sd_base.specs.declared.file.File.TheVariants.{Container}
use Rattle.sd_base.specs.declared.limits.TheConstants.{CONTAINER_HEADER}
use Rattle.sd_base.specs.declared.raw_params.RawParams.{RawParams}
use Rattle.sd_base.specs.declared.record.NewChunk.{NewChunk}

-- chunk i of a book; if there is none, one of length 0 with an empty name
abbrev pub kept_in_book : BookState → ℕ → NewChunk
kept_in_book book i = slice_index_or (chunks_in book.sessions) i (record { length = 0; name = [] })

-- the recipe of session k of a book, or no places if there is none
abbrev pub recipe_in_book : BookState → ℕ → List ℕ
recipe_in_book book k = slice_index_or (map (λ session. session.entry.recipe) book.sessions) k []

-- the number of chunks of the first k sessions of a book
abbrev pub chunks_before : BookState → ℕ → ℕ
chunks_before book k = length (chunks_in (take k book.sessions))

-- whether entries of a recipe name chunk n
abbrev pub names_chunk : List ℕ → ℕ → Bool
names_chunk entries n = list_any (λ entry. entry == n) entries

module _ (files : File → List ℕ) (opened : Opened) where
  -- container k begins with its header
  abbrev pub HasMark : ℕ → Type 0
  HasMark k = take CONTAINER_HEADER (files (Container opened.head.generation k)) ≡ header_of k

  -- the containers have these chunks: the chunks have the lengths that the book keeps, and each
  -- container of their packing is at the front of its file
  pub record HaveChunks (chunks : List (List ℕ)) : Type 0 where
    pub lengths : map length chunks ≡ chunk_lengths opened.book
    pub containers : (k : ℕ) → k < length (packing chunks) →
        IsFrontOf (slice_index_or (packing chunks) k []) (files (Container opened.head.generation k))

  -- the first container without its mark, and the number that its first bytes make
  pub record IsMarkFlaw (damage : Damage) : Type 0 where
    pub number : ℕ
    pub first : IsFirstFailing (length (needed_sizes opened.book)) HasMark number
    pub equals : damage ≡ Mark number
        (from_be_bytes w64 (take CONTAINER_HEADER (files (Container opened.head.generation number))))

-- chunk i of these has the name that the book keeps
abbrev pub IsNamed : (List ℕ → List ℕ) → BookState → List (List ℕ) → ℕ → Type 0
IsNamed name_of book chunks i = name_of (slice_index_or chunks i []) ≡ (kept_in_book book i).name

-- no chunk before chunk i of these has its bytes
abbrev pub IsNew : List (List ℕ) → ℕ → Type 0
IsNew chunks i = (j : ℕ) → j < i → slice_index_or chunks j [] ≢ slice_index_or chunks i []

-- how many chunks have occurred before a place of session k: those of earlier sessions, and those
-- new ones that the recipe names at an earlier place
abbrev pub occurred_before : BookState → ℕ → ℕ → ℕ
occurred_before book k place =
    let earlier = chunks_before book k in
    let new_numbers = range_with_len earlier (chunks_before book (suc k) - earlier) in
    earlier + count_by (λ n. names_chunk (take place (recipe_in_book book k)) n) new_numbers

-- The entry at the place is not above the number of chunks that have occurred before it. At the end
-- of the recipe, all chunks up to and with this session have occurred.
abbrev pub IsInOrder : BookState → ℕ → ℕ → Type 0
IsInOrder book k place =
    slice_index_or (recipe_in_book book k) place (chunks_before book (suc k)) ≤ occurred_before book k place

-- the places of session k at which chunks are in order: those of its recipe, and its end
abbrev pub places_and_end : BookState → ℕ → ℕ
places_and_end book k = suc (length (recipe_in_book book k))

-- the places of session k
abbrev pub places_of_session : BookState → ℕ → ℕ
places_of_session book k = length (recipe_in_book book k)

-- the chunks of session k, one for each place
abbrev pub chunks_of_session : BookState → List (List ℕ) → ℕ → List (List ℕ)
chunks_of_session book chunks k = map (λ n. slice_index_or chunks n []) (recipe_in_book book k)

-- the chunk at the place is the one that the cutting of the session's bytes has there
abbrev pub IsCutAt : RawParams → BookState → List (List ℕ) → ℕ → ℕ → Type 0
IsCutAt params book chunks k place = IsOfTheCutting params (chunks_of_session book chunks k) place

-- each of these chunks has its name
abbrev pub AreNamed : (List ℕ → List ℕ) → BookState → List (List ℕ) → Type 0
AreNamed name_of book chunks = HoldsBelow (length chunks) (IsNamed name_of book chunks)

-- no two of these chunks are equal
abbrev pub AreNew : List (List ℕ) → Type 0
AreNew chunks = HoldsBelow (length chunks) (IsNew chunks)

-- each recipe is in order, and so is its end, which counts as one place more
abbrev pub AreInOrder : BookState → Type 0
AreInOrder book = HoldsAtPlaces (length book.sessions) (places_and_end book) (IsInOrder book)

-- each session is the cutting of its bytes
abbrev pub AreCut : RawParams → BookState → List (List ℕ) → Type 0
AreCut params book chunks = HoldsAtPlaces (length book.sessions) (places_of_session book) (IsCutAt params book chunks)

module _ (name_of : List ℕ → List ℕ) (opened : Opened) (chunks : List (List ℕ)) where
  -- the first chunk without its name
  pub record IsChunkFlaw (damage : Damage) : Type 0 where
    pub number : ℕ
    pub first : IsFirstFailing (length chunks) (IsNamed name_of opened.book chunks) number
    pub equals : damage ≡ Chunk number (kept_in_book opened.book number).name (name_of (slice_index_or chunks number []))

  -- the first chunk that has the bytes of an earlier one, and the first of those
  pub record IsTwinFlaw (damage : Damage) : Type 0 where
    pub named : AreNamed name_of opened.book chunks
    pub number : ℕ
    pub first : IsFirstFailing (length chunks) (IsNew chunks) number
    pub equals : damage ≡ Twin (first_index chunks (slice_index_or chunks number [])) number

  -- the first place that is out of order
  pub record IsOrderFlaw (damage : Damage) : Type 0 where
    pub named : AreNamed name_of opened.book chunks
    pub different : AreNew chunks
    pub session : ℕ
    pub place : ℕ
    pub first : IsFirstFailingPlace (length opened.book.sessions) (places_and_end opened.book) (IsInOrder opened.book) session place
    pub equals : damage ≡ Order session place

  -- the first place whose chunk is not the one of the cutting
  pub record IsCutFlaw (damage : Damage) : Type 0 where
    pub named : AreNamed name_of opened.book chunks
    pub different : AreNew chunks
    pub in_order : AreInOrder opened.book
    pub session : ℕ
    pub place : ℕ
    pub first : IsFirstFailingPlace (length opened.book.sessions) (places_of_session opened.book) (IsCutAt opened.head.params opened.book chunks) session place
    pub equals : damage ≡ Cut session place

  -- the first flaw of these chunks and of their sessions
  abbrev pub IsFlawAmong : Damage → Type 0
  IsFlawAmong damage = IsChunkFlaw damage ⊎ IsTwinFlaw damage ⊎ IsOrderFlaw damage ⊎ IsCutFlaw damage

  -- these chunks and their sessions have no flaw
  pub record AreFlawless : Type 0 where
    pub named : AreNamed name_of opened.book chunks
    pub different : AreNew chunks
    pub in_order : AreInOrder opened.book
    pub cut : AreCut opened.head.params opened.book chunks

-- This is the first flaw of files that open so, or they have none. If each container has its mark,
-- then the containers have the chunks of one list, and of no other.
abbrev pub IsFlawOf : (List ℕ → List ℕ) → (File → List ℕ) → Opened → Option Damage → Type 0
IsFlawOf name_of files opened None = (chunks : List (List ℕ)) × (HaveChunks files opened chunks) × AreFlawless name_of opened chunks
IsFlawOf name_of files opened (Some damage) =
    IsMarkFlaw files opened damage
    ⊎ ((chunks : List (List ℕ)) × (HaveChunks files opened chunks) × IsFlawAmong name_of opened chunks damage)
