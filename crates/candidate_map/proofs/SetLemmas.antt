-- A set of positions after a change, for callers of a map.
use Rattle.std.proofs.Common.{◌≡◌, ℕ, ◌<◌, Bool, false, List, length, replicate, sym, ◌∙◌, inl, inr, arith}
use Rattle.std.proofs.lemmas.Bool.{cases_lt, false≢true}
use Rattle.std.proofs.lemmas.List.{get_or_past, get_or-replicate, length-replicate}
use Rattle.candidate_map.specs.Positions.{has, Has}

-- a position of the set lies below the number of bits
pub Has_within : (positions : List Bool) (p : ℕ) → Has positions p → p < length positions
Has_within positions p member =
    elim (cases_lt p (length positions)) [
      | inl below ↦ below
      | inr past ↦ absurd (false≢true (sym (get_or_past positions p false past) ∙ member))
    ]

-- the empty set has no position
pub has-replicate : (bits p : ℕ) → has (replicate bits false) p ≡ false
has-replicate bits p =
    elim (cases_lt p bits) [
      | inl below ↦ get_or-replicate bits p false false below
      | inr past ↦ get_or_past (replicate bits false) p false (omega (arith, length-replicate bits false))
    ]
