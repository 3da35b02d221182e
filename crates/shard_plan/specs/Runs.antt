-- Pairs of a key of an item's name and the item's number, sorted, and the leaders of a run of equal
-- keys. All rules here are this project's own.
use Rattle.std.specs.Prelude.{◌≡◌, ◌≢◌, ℕ, suc, ◌<◌, ◌≤◌, List, [], All, Contains, IsSorted, drop, length, slice_index_or}
use Rattle.std.specs.Int.{w64, from_be_bytes}
use Rattle.std.specs.Ordering.{nat_cmp, ordering_then}
use Rattle.std.specs.declared.cmp.Ordering.{Ordering}
use Rattle.shard_plan.specs.Leaders.{leader_of}

-- the key of a name: its last eight bytes, the high byte first
abbrev pub key_of : List ℕ → ℕ
key_of name = from_be_bytes w64 (drop 24 name)

-- the order of pairs: by the key, and then by the number
abbrev pub pair_cmp : ℕ × ℕ → ℕ × ℕ → Ordering
pair_cmp x y = ordering_then (nat_cmp x.0 y.0) (nat_cmp x.1 y.1)

-- the key and the number at a place
abbrev pub key_at : List (ℕ × ℕ) → ℕ → ℕ
key_at pairs p = (slice_index_or pairs p (0, 0)).0

abbrev pub number_at : List (ℕ × ℕ) → ℕ → ℕ
number_at pairs p = (slice_index_or pairs p (0, 0)).1

-- a pair has the key of the name of its number
abbrev pub IsKeyed : List (List ℕ) → ℕ × ℕ → Type 0
IsKeyed names pair = (pair.1 < length names) × (key_of (slice_index_or names pair.1 []) ≡ pair.0)

-- the pair of each name, in the order of the numbers
pub record AreNumbered (names : List (List ℕ)) (pairs : List (ℕ × ℕ)) : Type 0 where
  pub one_each : length pairs ≡ length names
  pub each : (k : ℕ) → k < length names → slice_index_or pairs k (0, 0) ≡ (key_of (slice_index_or names k []), k)

-- the pair of each name, sorted
pub record AreSortedPairs (names : List (List ℕ)) (pairs : List (ℕ × ℕ)) : Type 0 where
  pub keyed : All (IsKeyed names) pairs
  pub there : (k : ℕ) → k < length names → Contains pairs (key_of (slice_index_or names k []), k)
  pub in_order : IsSorted pair_cmp pairs

-- the pair before a place, if there is one, has another key
abbrev pub BeginsRun : List (ℕ × ℕ) → ℕ → Type 0
BeginsRun pairs p = (q : ℕ) → suc q ≡ p → key_at pairs q ≢ key_at pairs p

-- a number of an item that is its own leader
abbrev pub IsLeader : List (List ℕ) → ℕ → Type 0
IsLeader chunks l = (l < length chunks) × (leader_of chunks l ≡ l)

-- the leader of each pair before a place is in the run, if a pair from that place on has its key
abbrev pub HasLeaders : List (List ℕ) → List (ℕ × ℕ) → List ℕ → ℕ → Type 0
HasLeaders chunks pairs run p = (q r : ℕ) → q < p → p ≤ r → r < length pairs
    → key_at pairs q ≡ key_at pairs r → Contains run (leader_of chunks (number_at pairs q))
