-- The verdict of opening the files of a store: that there is no store (`HoldNoStore`), what is first
-- found wrong, or what they open as. What is wrong is tried in this order: the head, the records of the
-- book, their recipes, the sizes of the containers.
use Rattle.std.specs.Prelude.{◌≡◌, ◌⊎◌, ℕ, ◌+◌, ◌<◌, ◌≤◌, List, length, map, take, slice_index_or}
use Rattle.sd_base.specs.Books.{BookState, IsBookDamage, IsReplay, chunks_in}
use Rattle.sd_base.specs.Packing.{container_sizes}
use Rattle.sd_base.specs.Parameters.{IsValid}
use Rattle.sd_base.specs.Settings.{settings_of}
use Rattle.sd_base.specs.declared.damage.Damage.{Damage}
use Rattle.sd_base.specs.declared.damage.Damage.TheVariants.{Head as BadHead, Container as ShortContainer}
use Rattle.sd_base.specs.declared.file.File.{File}
use Rattle.sd_base.specs.declared.file.File.TheVariants.{Head, Seal, Book, Container}
use Rattle.sd_base.specs.declared.limits.TheConstants.{MAX_GENERATION, OPEN_HEAD_LEN, SETTINGS_LEN}
use Rattle.sd_base.specs.declared.raw_params.RawParams.{RawParams}

-- the lengths of the chunks of a book, in order of their numbers
abbrev pub chunk_lengths : BookState → List ℕ
chunk_lengths book = map (λ chunk. chunk.length) (chunks_in book.sessions)

-- the sizes that the containers of a book need
abbrev pub needed_sizes : BookState → List ℕ
needed_sizes book = container_sizes (chunk_lengths book)

-- what the head of a store says: the parameters of cutting and the generation of its files
pub record HeadState : Type 0 where
  pub params : RawParams
  pub generation : ℕ

-- what a store opens as: its head, and the book of its committed records
pub record Opened : Type 0 where
  pub head : HeadState
  pub book : BookState

module _ (files : File → List ℕ) where
  -- the head file is that of a store
  pub record HasHead (head : HeadState) : Type 0 where
    pub valid : IsValid head.params
    pub settings : take SETTINGS_LEN (files Head) ≡ settings_of head.params
    pub size : length (files Head) ≡ OPEN_HEAD_LEN + head.generation
    pub within_limit : head.generation ≤ MAX_GENERATION

  -- the book of the committed records, one for each byte of the seal
  abbrev pub IsCommittedBook : Opened → Type 0
  IsCommittedBook opened =
      IsReplay opened.head.params.max (files (Book opened.head.generation))
      (length (files (Seal opened.head.generation))) opened.book

  -- container k has at least the bytes that the book needs of it
  abbrev pub HasContainer : Opened → ℕ → Type 0
  HasContainer opened k =
      slice_index_or (needed_sizes opened.book) k 0 ≤ length (files (Container opened.head.generation k))

  -- the files open so
  pub record OpenAs (opened : Opened) : Type 0 where
    pub head : HasHead opened.head
    pub committed : IsCommittedBook opened
    pub containers : (k : ℕ) → k < length (needed_sizes opened.book) → HasContainer opened k

  -- a head of at least 33 bytes that is not that of a store
  pub record IsHeadDamage (damage : Damage) : Type 0 where
    pub long_enough : OPEN_HEAD_LEN ≤ length (files Head)
    pub none : (head : HeadState) → HasHead head → ⊥
    pub equals : damage ≡ BadHead

  -- the first damage of the committed records, or otherwise of their recipes
  pub record IsCommittedDamage (damage : Damage) : Type 0 where
    pub head : HeadState
    pub has_head : HasHead head
    pub first : IsBookDamage head.params.max (files (Book head.generation)) (length (files (Seal head.generation))) damage

  -- the first container that is too short
  pub record IsContainerDamage (damage : Damage) : Type 0 where
    pub opened : Opened
    pub number : ℕ
    pub head : HasHead opened.head
    pub committed : IsCommittedBook opened
    pub within : number < length (needed_sizes opened.book)
    pub before : (k : ℕ) → k < number → HasContainer opened k
    pub short : length (files (Container opened.head.generation number)) < slice_index_or (needed_sizes opened.book) number 0
    pub equals : damage ≡ ShortContainer number (slice_index_or (needed_sizes opened.book) number 0)
        (length (files (Container opened.head.generation number)))

  -- what opening first finds wrong
  abbrev pub IsOpeningDamage : Damage → Type 0
  IsOpeningDamage damage = IsHeadDamage damage ⊎ IsCommittedDamage damage ⊎ IsContainerDamage damage
