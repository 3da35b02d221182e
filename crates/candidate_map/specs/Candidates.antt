-- A set of positions that is the candidates of an input, as far as the input is known.
use Rattle.std.specs.Prelude.{◌≡◌, ℕ, ◌≤◌, Bool, List}
use Rattle.sd_base.specs.Cutting.{is_candidate}
use Rattle.sd_base.specs.declared.raw_params.RawParams.{RawParams}
use Rattle.candidate_map.specs.Positions.{has}

-- up to position `known` the set has exactly the candidates of the input
pub record HoldsCandidates (params : RawParams) (input : List ℕ) (positions : List Bool)
    (known : ℕ) : Type 0 where
  pub same : (p : ℕ) → p ≤ known → has positions p ≡ is_candidate params input p
