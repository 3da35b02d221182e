-- The chunks of a store as an audit reads them, a batch at a time, and their names against those that
-- the book keeps.
use Rattle.std.specs.Prelude.{◌≡◌, ℕ, ◌+◌, ◌<◌, List, [], ◌∷◌, length, map, take, drop, slice_index_or}
use Rattle.std.specs.List.{sum_by}
use Rattle.container_pack.specs.declared.spot.Spot.{Spot}
use Rattle.sd_base.specs.Cutting.{chunks_between}
use Rattle.sd_base.specs.Firsts.{HoldsBelow, IsFirstFailing}
use Rattle.sd_base.specs.declared.damage.Damage.{Damage}
use Rattle.sd_base.specs.declared.damage.Damage.TheVariants.{Chunk}
use Rattle.sd_base.specs.declared.file.File.{File}
use Rattle.sd_base.specs.declared.file.File.TheVariants.{Container}
use Rattle.sd_base.specs.declared.record.NewChunk.{NewChunk}

-- the lengths of chunks, and how many bytes they have in all
abbrev pub lengths_kept : List NewChunk → List ℕ
lengths_kept kept = map (λ chunk. chunk.length) kept

abbrev pub bytes_kept : List NewChunk → ℕ
bytes_kept kept = sum_by (λ chunk. chunk.length) kept

-- where chunks end that follow one another from an offset on
abbrev pub ends_from : ℕ → List NewChunk → List ℕ
ends_from offset [] = []
ends_from offset (chunk ∷ chunks) = (offset + chunk.length) ∷ ends_from (offset + chunk.length) chunks

-- the names of the chunks of a text that end at these positions
abbrev pub names_in : (List ℕ → List ℕ) → List ℕ → List ℕ → List (List ℕ)
names_in name_of text ends = map name_of (chunks_between text 0 ends)

-- chunk i of these, and its spot
abbrev pub kept_at : List NewChunk → ℕ → NewChunk
kept_at kept i = slice_index_or kept i (record { length = 0; name = [] })

abbrev pub spot_at : List Spot → ℕ → Spot
spot_at spots i = slice_index_or spots i (record { container = 0; offset = 0 })

-- the files of a generation have these chunks at these spots, and the chunks have the lengths that are
-- kept
pub record AreStored (files : File → List ℕ) (generation : ℕ) (spots : List Spot) (kept : List NewChunk)
    (stored : List (List ℕ)) : Type 0 where
  pub lengths : map length stored ≡ lengths_kept kept
  pub bytes : (i : ℕ) → i < length kept →
      take (kept_at kept i).length (drop (spot_at spots i).offset (files (Container generation (spot_at spots i).container)))
      ≡ slice_index_or stored i []

module _ (kept : List NewChunk) (names : List (List ℕ)) where
  -- name i is the one that is kept
  abbrev pub IsKeptName : ℕ → Type 0
  IsKeptName i = slice_index_or names i [] ≡ (kept_at kept i).name

  -- these are the names that are kept
  abbrev pub AreKeptNames : Type 0
  AreKeptNames = HoldsBelow (length kept) IsKeptName

  -- the damage has the first name that is not the one that is kept; the chunks have their numbers from
  -- this one on
  pub record IsMisnamed (number : ℕ) (damage : Damage) : Type 0 where
    pub place : ℕ
    pub first : IsFirstFailing (length kept) IsKeptName place
    pub equals : damage ≡ Chunk (number + place) (kept_at kept place).name (slice_index_or names place [])
