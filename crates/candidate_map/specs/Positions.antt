-- A set of positions below some number of bits, seen as one boolean a position, from position 0 on:
-- the bit map that the first stage of SS-CDC (SYSTOR 2019) fills and its second stage walks.
use Rattle.std.specs.Prelude.{ℕ, ◌≤◌, ◌<◌, Bool, false, IsTrue, List, length, slice_index_or}

-- whether a position is in the set; none at or above the number of bits is
abbrev pub has : List Bool → ℕ → Bool
has positions p = slice_index_or positions p false

abbrev pub Has : List Bool → ℕ → Type 0
Has positions p = IsTrue (has positions p)

-- the least position of the set that is at or above p
pub record IsFirstFrom (positions : List Bool) (p first : ℕ) : Type 0 where
  pub from : p ≤ first
  pub member : Has positions first
  pub within : first < length positions
  pub least : (q : ℕ) → p ≤ q → Has positions q → first ≤ q

-- the set has no position at or above p
abbrev pub NoneFrom : List Bool → ℕ → Type 0
NoneFrom positions p = (q : ℕ) → p ≤ q → ¬ Has positions q
