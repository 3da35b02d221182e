-- Maps that hold the candidates of an input that goes on.
use Rattle.std.proofs.Common.{ℕ, ◌≤◌, ◌∙◌, sym, Bool, List, ◌++◌, length, arith}
use Rattle.sd_base.specs.declared.raw_params.RawParams.{RawParams}
use Rattle.sd_base.proofs.Fronts.{is_candidate-append}
use Rattle.candidate_map.specs.Candidates.{HoldsCandidates}

-- the candidates of a prefix are those of the whole input, as far as the prefix reaches
pub HoldsCandidates-append : (params : RawParams) (front rest : List ℕ) (positions : List Bool) (known : ℕ)
    → known ≤ length front
    → HoldsCandidates params front positions known
    → HoldsCandidates params (front ++ rest) positions known
HoldsCandidates-append params front rest positions known within holds =
    record { same = λ p near. holds.same p near ∙ sym (is_candidate-append params front rest p (omega arith)) }
