-- What the look of an audit for equal chunks finds.
use Rattle.std.specs.Prelude.{◌≡◌, ◌≢◌, ℕ, ◌<◌, Bool, IsTrue, List, [], length, take, slice_index_or, Option, Some, None}
use Rattle.std.specs.Int.{w64, from_be_bytes}
use Rattle.ingest_core.specs.AuditChunks.{kept_at}
use Rattle.sd_base.specs.Distinct.{first_index}
use Rattle.sd_base.specs.Firsts.{IsFirstFailing}
use Rattle.sd_base.specs.Flaws.{IsNew}
use Rattle.sd_base.specs.declared.damage.Damage.{Damage}
use Rattle.sd_base.specs.declared.damage.Damage.TheVariants.{Twin}
use Rattle.sd_base.specs.declared.record.NewChunk.{NewChunk}

-- the first eight bytes of a name, as a number
abbrev pub short_name : List ℕ → ℕ
short_name name = from_be_bytes w64 (take 8 name)

-- the short names of the first n chunks are among those seen
abbrev pub HasSeen : (ℕ → Bool) → List NewChunk → ℕ → Type 0
HasSeen seen kept n = (i : ℕ) → i < n → IsTrue (seen (short_name (kept_at kept i).name))

-- no chunk before chunk i has its name
abbrev pub HasOwnName : List NewChunk → ℕ → Type 0
HasOwnName kept i = (j : ℕ) → j < i → (kept_at kept j).name ≢ (kept_at kept i).name

-- the least number of an earlier chunk that has the bytes of chunk i, if there is one
abbrev pub IsEarlierTwin : List (List ℕ) → ℕ → Option ℕ → Type 0
IsEarlierTwin stored i None = IsNew stored i
IsEarlierTwin stored i (Some first) = (first < i) × (first ≡ first_index stored (slice_index_or stored i []))

-- the first of these chunks that has the bytes of an earlier one, and the first of those
pub record IsFirstTwin (stored : List (List ℕ)) (damage : Damage) : Type 0 where
  pub place : ℕ
  pub first : IsFirstFailing (length stored) (IsNew stored) place
  pub equals : damage ≡ Twin (first_index stored (slice_index_or stored place [])) place
