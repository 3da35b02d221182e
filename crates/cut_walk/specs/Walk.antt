-- The rule of the next cut, read from a set of positions: the second stage of SS-CDC (SYSTOR 2019),
-- with the minimum and the maximum of LBFS (SOSP 2001, section 3.1). The first `known` bytes of an
-- input are known, and `at_end` says that there are no more of them. The wording is this project's
-- own.
use Rattle.std.specs.Prelude.{◌≡◌, ℕ, ◌+◌, ◌≤◌, ◌<◌, min, Bool, true, List, [], ◌∷◌, MatchBool}
use Rattle.sd_base.specs.declared.raw_params.RawParams.{RawParams}
use Rattle.candidate_map.specs.Positions.{Has}

module _ (params : RawParams) (positions : List Bool) (known : ℕ) where
  -- a position of the set at which a chunk from s may end
  pub record MayEndOn (s p : ℕ) : Type 0 where
    pub member : Has positions p
    pub long_enough : s + params.min ≤ p
    pub within : p ≤ min (s + params.max) known

  -- The next cut from s is not decided by what is known: the longest chunk reaches further, and the
  -- chunk may end at no position of the set.
  pub record IsUndecided (s : ℕ) : Type 0 where
    pub reaches_on : known < s + params.max
    pub none : (p : ℕ) → s + params.min ≤ p → p ≤ known → ¬ Has positions p

  module _ (at_end : Bool) where
    -- why a chunk from s ends at a cut: it may end at this position of the set, it is as long as a
    -- chunk may be, or the input ends
    pub data Ends (s cut : ℕ) : Type 0 where
      at_position : MayEndOn s cut → Ends s cut
      at_longest : cut ≡ s + params.max → Ends s cut
      at_input_end : at_end ≡ true → cut ≡ known → Ends s cut

    -- the next cut from s: the chunk may end at no position below it
    pub record IsCutOn (s cut : ℕ) : Type 0 where
      pub after : s < cut
      pub within : cut ≤ min (s + params.max) known
      pub least : (p : ℕ) → MayEndOn s p → cut ≤ p
      pub ends : Ends s cut

    -- each cut of a list is the next from the one before it, and the first is the next from s
    abbrev pub AreCutsOn : ℕ → List ℕ → Type 0
    AreCutsOn s [] = Unit {0}
    AreCutsOn s (cut ∷ cuts) = IsCutOn s cut × AreCutsOn cut cuts

    -- no cut follows from s: the input ends there, or the next cut is not decided
    abbrev pub StopsAt : ℕ → Type 0
    StopsAt s = MatchBool at_end (s ≡ known) (IsUndecided s)

-- the last of these cuts of a walk from s, or s if there is none
abbrev pub last_cut : ℕ → List ℕ → ℕ
last_cut s [] = s
last_cut s (cut ∷ cuts) = last_cut cut cuts
