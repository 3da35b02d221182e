-- Laws of cuttings, chunk by chunk.
use Rattle.std.specs.Prelude.{◌≡◌, ◌↔◌, ℕ, ◌+◌, ◌≤◌, List, ◌++◌, length}
use Rattle.std.specs.List.{All}
use Rattle.sd_base.specs.Cutting.{is_candidate}
use Rattle.sd_base.specs.Cuttings.{FollowsTheRule, IsOfTheCutting}
use Rattle.sd_base.specs.Firsts.{HoldsBelow, IsFirstFailing}
use Rattle.sd_base.specs.Parameters.{IsValid}
use Rattle.sd_base.specs.States.{IsCutting}
use Rattle.sd_base.specs.declared.limits.TheConstants.{WINDOW}
use Rattle.sd_base.specs.declared.raw_params.RawParams.{RawParams}

-- no chunk is empty
abbrev pub AreFilled : List (List ℕ) → Type 0
AreFilled chunks = All (λ chunk. 1 ≤ length chunk) chunks

-- chunks are the cutting of their bytes exactly if each follows the rule
abbrev pub CuttingsFollowTheRule : Type 0
CuttingsFollowTheRule =
    (params : RawParams) (chunks : List (List ℕ)) → IsValid params → AreFilled chunks →
    IsCutting params chunks ↔ HoldsBelow (length chunks) (FollowsTheRule params chunks)

-- the first chunk that is not the one of the cutting is the first that breaks the rule
abbrev pub TheFirstToBreakTheRuleDiffers : Type 0
TheFirstToBreakTheRuleDiffers =
    (params : RawParams) (chunks : List (List ℕ)) (i : ℕ) → IsValid params → AreFilled chunks →
    IsFirstFailing (length chunks) (IsOfTheCutting params chunks) i
    ↔ IsFirstFailing (length chunks) (FollowsTheRule params chunks) i

-- a position with a whole window before it in a chunk is a candidate of the chunk exactly if it is
-- one of any input that the chunk is a part of
abbrev pub CandidatesAreOfTheChunk : Type 0
CandidatesAreOfTheChunk =
    (params : RawParams) (before chunk after : List ℕ) (p : ℕ) → WINDOW ≤ p → p ≤ length chunk →
    is_candidate params (before ++ (chunk ++ after)) (length before + p) ≡ is_candidate params chunk p
