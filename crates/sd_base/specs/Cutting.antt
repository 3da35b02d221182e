-- Where an input is cut. Position p of an input lies after its first p bytes. The test of a
-- window's low-order bits, the minimum and the maximum are those of LBFS (SOSP 2001, section 3.1).
-- That windows do not restart at a cut, and the rule of the next cut, are this project's own.
use Rattle.std.specs.Prelude.{◌≡◌, ◌⊎◌, ℕ, zero, suc, ◌+◌, ◌-◌, ◌%◌, ◌^◌, ◌<◌, ◌≤◌, ◌==◌, ◌&&◌, nat_lt, nat_le, min, Bool, if◌then◌else◌, IsTrue, List, [], ◌∷◌, length, slice_range, unwrap_or}
use Rattle.std.specs.List.{find, range_with_len}
use Rattle.sd_base.specs.Polynomial.{fingerprint}
use Rattle.sd_base.specs.declared.limits.TheConstants.{WINDOW}
use Rattle.sd_base.specs.declared.raw_params.RawParams.{RawParams}

-- whether the low-order bits of a window's fingerprint are the target
abbrev pub is_match : RawParams → List ℕ → Bool
is_match params window = fingerprint params.polynomial window % 2 ^ params.bits == params.target

-- whether a position is a candidate: it has a whole window before it, and that window is a match
abbrev pub is_candidate : RawParams → List ℕ → ℕ → Bool
is_candidate params input p =
    nat_le WINDOW p && nat_le p (length input) && is_match params (slice_range input (p - WINDOW) p)

abbrev pub IsCandidate : RawParams → List ℕ → ℕ → Type 0
IsCandidate params input p = IsTrue (is_candidate params input p)

-- the furthest position that a chunk from s can reach
abbrev pub furthest : RawParams → List ℕ → ℕ → ℕ
furthest params input s = min (s + params.max) (length input)

-- the positions from low up to and with high
abbrev pub inclusive_range : ℕ → ℕ → List ℕ
inclusive_range low high = range_with_len low (suc high - low)

-- the next cut from s: the first candidate from s + min up to the furthest position, or the
-- furthest position if there is none
unfoldable pub next_cut : RawParams → List ℕ → ℕ → ℕ
next_cut params input s =
    unwrap_or (find (is_candidate params input) (inclusive_range (s + params.min) (furthest params input s)))
    (furthest params input s)

-- a candidate at which a chunk from s may end
pub record MayEndAt (params : RawParams) (input : List ℕ) (s p : ℕ) : Type 0 where
  pub candidate : IsCandidate params input p
  pub long_enough : s + params.min ≤ p
  pub within : p ≤ furthest params input s

-- The same rule with no search in it: no candidate at which the chunk may end is below the cut, and
-- the cut is such a candidate or the furthest position.
pub record IsNextCut (params : RawParams) (input : List ℕ) (s cut : ℕ) : Type 0 where
  pub least : (p : ℕ) → MayEndAt params input s p → cut ≤ p
  pub ends : MayEndAt params input s cut ⊎ (cut ≡ furthest params input s)
  pub within : cut ≤ furthest params input s

-- at most n cuts, from s on: each is the next from the one before it, up to the end of the input
unfoldable pub cuts_within : ℕ → RawParams → List ℕ → ℕ → List ℕ
cuts_within zero params input s = []
cuts_within (suc n) params input s =
    if nat_lt s (length input)
    then next_cut params input s ∷ cuts_within n params input (next_cut params input s)
    else []

-- the cuts of an input: under valid parameters no chunk is empty, so there are at most as many cuts
-- as bytes
abbrev pub cuts_of : RawParams → List ℕ → List ℕ
cuts_of params input = cuts_within (length input) params input 0

-- the chunks of an input between cuts, the first from position s
abbrev pub chunks_between : List ℕ → ℕ → List ℕ → List (List ℕ)
chunks_between input s [] = []
chunks_between input s (cut ∷ cuts) = slice_range input s cut ∷ chunks_between input cut cuts

-- the content-defined chunks of an input
abbrev pub chunks_of : RawParams → List ℕ → List (List ℕ)
chunks_of params input = chunks_between input 0 (cuts_of params input)

-- the cuts rise from position s, each above the one before it, and none is above high
abbrev pub RiseWithin : ℕ → ℕ → List ℕ → Type 0
RiseWithin s high [] = Unit {0}
RiseWithin s high (cut ∷ cuts) = (s < cut) × (cut ≤ high) × RiseWithin cut high cuts
