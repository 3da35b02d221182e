-- When a list of chunks is the cutting of its bytes, chunk by chunk. Each test looks at the bytes
-- of one chunk, at positions from the minimum on: the whole window before such a position lies in
-- the chunk.
use Rattle.std.specs.Prelude.{◌≡◌, ◌⊎◌, ℕ, ◌+◌, ◌<◌, ◌≤◌, List, [], length, slice_index_or}
use Rattle.std.specs.List.{concat}
use Rattle.sd_base.specs.Cutting.{IsCandidate, chunks_of}
use Rattle.sd_base.specs.declared.raw_params.RawParams.{RawParams}

-- no cut lies in a chunk: it is not longer than the maximum, and no position before its end at
-- which it might end is a candidate
pub record HasNoCutInside (params : RawParams) (chunk : List ℕ) : Type 0 where
  pub within : length chunk ≤ params.max
  pub none : (p : ℕ) → params.min ≤ p → p < length chunk → IsCandidate params chunk p → ⊥

-- another chunk may follow a chunk: it ends at a candidate at which it might end, or it has the
-- maximum length
abbrev pub MayBeFollowed : RawParams → List ℕ → Type 0
MayBeFollowed params chunk =
    ((params.min ≤ length chunk) × IsCandidate params chunk (length chunk)) ⊎ (length chunk ≡ params.max)

-- chunk i has no cut inside, and another may follow it if one does
pub record FollowsTheRule (params : RawParams) (chunks : List (List ℕ)) (i : ℕ) : Type 0 where
  pub uncut : HasNoCutInside params (slice_index_or chunks i [])
  pub followed : i + 1 < length chunks → MayBeFollowed params (slice_index_or chunks i [])

-- chunk i is the one that the cutting of the chunks' bytes has there
abbrev pub IsOfTheCutting : RawParams → List (List ℕ) → ℕ → Type 0
IsOfTheCutting params chunks i =
    slice_index_or chunks i [] ≡ slice_index_or (chunks_of params (concat chunks)) i []
