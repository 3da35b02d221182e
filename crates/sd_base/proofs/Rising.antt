-- The cuts of an input rise, and none is after its end.
use Rattle.std.proofs.Common.{ℕ, zero, suc, ◌+◌, ◌<◌, ◌≤◌, min, List, length, inl, inr, arith}
use Rattle.std.proofs.lemmas.Bool.{cases_lt}
use Rattle.sd_base.specs.Cutting.{next_cut, cuts_within, cuts_of, RiseWithin}
use Rattle.sd_base.proofs.Cutting.{lt-next_cut, next_cut-le, cuts_within_more, cuts_within_all}
use Rattle.sd_base.specs.declared.raw_params.RawParams.{RawParams}

module _ (params : RawParams) (input : List ℕ) (some : 1 ≤ params.min) (ordered : params.min ≤ params.max) where
  -- the cuts from a position on rise
  pub RiseWithin-cuts_within : (n s : ℕ) → RiseWithin s (length input) (cuts_within n params input s)
  unfolding cuts_within
  RiseWithin-cuts_within zero s = tt
  RiseWithin-cuts_within (suc n) s =
      elim (cases_lt s (length input)) [
        | inl inside ↦
            let on : s < next_cut params input s = lt-next_cut params input s inside some ordered in
            let up : next_cut params input s ≤ min (s + params.max) (length input) = next_cut-le params input s in
            rw (cuts_within_more params input s n inside) (on, omega arith, RiseWithin-cuts_within n (next_cut params input s))
        | inr past ↦ rw (cuts_within_all params input s (suc n) past) tt
      ]

  -- all cuts rise
  pub RiseWithin-cuts_of : RiseWithin 0 (length input) (cuts_of params input)
  RiseWithin-cuts_of = RiseWithin-cuts_within (length input) 0
