-- The leader of a chunk: the first chunk of a list with the same bytes. No name enters. All rules
-- here are this project's own.
use Rattle.std.specs.Prelude.{◌≡◌, ℕ, List, [], ◌∷◌, codes, map, slice_index_or}
use Rattle.std.proofs.Common.{refl}
use Rattle.sd_base.specs.Cutting.{chunks_between}
use Rattle.sd_base.specs.Distinct.{first_index}

-- the leader of chunk i: the least index of a chunk with its bytes
abbrev pub leader_of : List (List ℕ) → ℕ → ℕ
leader_of chunks i = first_index chunks (slice_index_or chunks i [])

-- the leader of each chunk
abbrev pub leaders_of : List (List ℕ) → List ℕ
leaders_of chunks = map (first_index chunks) chunks

-- the leaders of the chunks `x`, `x`, `y`, `x`
pub leaders_of-xxyx : leaders_of (chunks_between (codes "xxyx") 0 (1 ∷ 2 ∷ 3 ∷ 4 ∷ []))
    ≡ 0 ∷ 0 ∷ 2 ∷ 0 ∷ []
leaders_of-xxyx = refl
