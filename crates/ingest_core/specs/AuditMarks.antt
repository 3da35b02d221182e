-- The marks of containers as an audit reads them: what the bytes of one container say.
use Rattle.std.specs.Prelude.{◌≡◌, ◌≤◌, ℕ, List, length, take}
use Rattle.std.specs.Int.{w64, from_be_bytes}
use Rattle.sd_base.specs.Packing.{header_of}
use Rattle.sd_base.specs.declared.damage.Damage.{Damage}
use Rattle.sd_base.specs.declared.damage.Damage.TheVariants.{Mark}
use Rattle.sd_base.specs.declared.limits.TheConstants.{CONTAINER_HEADER}

-- if the bytes are as many as a header has, they begin with that of container k
abbrev pub IsMarked : ℕ → List ℕ → Type 0
IsMarked k bytes = CONTAINER_HEADER ≤ length bytes → take CONTAINER_HEADER bytes ≡ header_of k

-- the bytes do not begin with the header of container k, and the damage has the number that their
-- first ones make
pub record IsUnmarked (k : ℕ) (damage : Damage) (bytes : List ℕ) : Type 0 where
  pub fails : take CONTAINER_HEADER bytes ≡ header_of k → ⊥
  pub equals : damage ≡ Mark k (from_be_bytes w64 (take CONTAINER_HEADER bytes))

-- if the bytes are as many as a header has, they are those of an unmarked container
abbrev pub MayBeUnmarked : ℕ → Damage → List ℕ → Type 0
MayBeUnmarked k damage bytes = CONTAINER_HEADER ≤ length bytes → IsUnmarked k damage bytes
