-- The leader of a chunk is the least with its bytes.
use Rattle.std.proofs.Common.{◌≡◌, inl, inr, ℕ, true, false, ◌<◌, ◌≤◌, List, [], length, slice_index_or, refl, ap, sym, ◌∙◌, arith}
use Rattle.std.specs.Str.{bytes_eq}
use Rattle.std.proofs.lemmas.Bool.{cases_lt}
use Rattle.std.proofs.lemmas.List.Sums.{fails_before_first, passes_at_first}
use Rattle.std.proofs.lemmas.Slice.Eq.{bytes_eq-Decides}
use Rattle.sd_base.specs.Distinct.{first_index}
use Rattle.shard_plan.specs.Leaders.{leader_of}
use Rattle.shard_plan.specs.Runs.{IsLeader}

-- a leader is not after its chunk
pub leader_first : (chunks : List (List ℕ)) (n : ℕ) → n < length chunks → leader_of chunks n ≤ n
leader_first chunks n inside =
    let chunk = slice_index_or chunks n [] in
    elim (cases_lt n (leader_of chunks n)) [
      | inl above ↦
          let clash : false ≡ true =
          sym (fails_before_first (bytes_eq chunk) chunks n [] above) ∙ (bytes_eq-Decides chunk chunk).1 refl
          in absurd cc
      | inr within ↦ within
    ]

-- a leader has the bytes of its chunk
pub leader_same : (chunks : List (List ℕ)) (n : ℕ) → n < length chunks
    → slice_index_or chunks (leader_of chunks n) [] ≡ slice_index_or chunks n []
leader_same chunks n inside =
    let chunk = slice_index_or chunks n [] in
    let there : leader_of chunks n < length chunks = omega (arith, inside, leader_first chunks n inside) in
    sym ((bytes_eq-Decides chunk (slice_index_or chunks (leader_of chunks n) [])).0 (passes_at_first (bytes_eq chunk) chunks [] there))

-- chunks of equal bytes have one leader
pub one_leader : (chunks : List (List ℕ)) (i j : ℕ) → slice_index_or chunks i [] ≡ slice_index_or chunks j []
    → leader_of chunks i ≡ leader_of chunks j
one_leader chunks i j same = ap (λ chunk. first_index chunks chunk) same

-- a leader is its own leader
pub leader_is_leader : (chunks : List (List ℕ)) (n : ℕ) → n < length chunks → IsLeader chunks (leader_of chunks n)
leader_is_leader chunks n inside =
    (omega (arith, inside, leader_first chunks n inside), one_leader chunks (leader_of chunks n) n (leader_same chunks n inside))
