-- What a scan adds to a set of positions: the first stage of SS-CDC (SYSTOR 2019).
use Rattle.std.specs.Prelude.{◌≡◌, ℕ, ◌+◌, ◌-◌, ◌/◌, ◌%◌, ◌||◌, ◌&&◌, nat_lt, nat_le, Bool, List, length}
use Rattle.candidate_map.specs.Positions.{has}
use Rattle.sd_base.specs.Cutting.{is_candidate}
use Rattle.sd_base.specs.declared.raw_params.RawParams.{RawParams}

-- whether a position is a candidate above `from` and up to and including `to`
abbrev pub is_candidate_within : RawParams → List ℕ → ℕ → ℕ → ℕ → Bool
is_candidate_within params text from to p = nat_lt from p && nat_le p to && is_candidate params text p

-- exactly these candidates were added to the set
pub record AddsCandidates (params : RawParams) (text : List ℕ) (from to : ℕ)
    (before after : List Bool) : Type 0 where
  pub bits : length after ≡ length before
  pub added : (p : ℕ) → has after p ≡ (has before p || is_candidate_within params text from to p)

-- the segment in which a position above 0 lies: the segments follow one another from position 1 on,
-- and each but the last has `segment` positions
abbrev pub segment_of : ℕ → ℕ → ℕ
segment_of segment p = (p - 1) / segment

-- whether a position is a candidate that a worker from `low` up to but not including `high` finds:
-- the segments go to the workers in turn
abbrev pub is_candidate_of : RawParams → List ℕ → ℕ → ℕ → ℕ → ℕ → ℕ → Bool
is_candidate_of params text segment workers low high p =
    nat_le low (segment_of segment p % workers) && nat_lt (segment_of segment p % workers) high
    && is_candidate params text p

-- the set has exactly the candidates of these workers
pub record HoldsShares (params : RawParams) (text : List ℕ) (segment workers low high : ℕ)
    (positions : List Bool) : Type 0 where
  pub bits : length positions ≡ length text + 1
  pub same : (p : ℕ) → has positions p ≡ is_candidate_of params text segment workers low high p
