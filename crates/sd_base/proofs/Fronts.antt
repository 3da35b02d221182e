-- The candidates of the front of an input do not depend on what follows the front.
use Rattle.std.proofs.Common.{◌≡◌, ℕ, ◌-◌, ◌≤◌, Bool, ◌&&◌, nat_le, List, ◌++◌, length, take, drop, slice_range, sym, ap, ◌∙◌, length-append, length-drop, arith}
use Rattle.std.proofs.lemmas.Bool.{le-leb}
use Rattle.std.proofs.lemmas.List.{take-append-le, drop-append-le}
use Rattle.sd_base.specs.Cutting.{is_match, is_candidate}
use Rattle.sd_base.specs.declared.limits.TheConstants.{WINDOW}
use Rattle.sd_base.specs.declared.raw_params.RawParams.{RawParams}

-- a range of a front
pub slice_range-append :
    (front rest : List ℕ) (a b : ℕ) → a ≤ b → b ≤ length front →
    slice_range (front ++ rest) a b ≡ slice_range front a b
slice_range-append front rest a b ordered inside =
    ap (λ (r : List ℕ). take (b - a) r) (drop-append-le a front rest (omega arith))
    ∙ take-append-le (b - a) (drop a front) rest (omega (arith, length-drop a front))

module _ (params : RawParams) (front rest : List ℕ) where
  -- a position within the front is a candidate of the whole input if it is one of the front, and
  -- not otherwise
  pub is_candidate-append :
      (p : ℕ) → p ≤ length front → is_candidate params (front ++ rest) p ≡ is_candidate params front p
  is_candidate-append p inside =
      let further : p ≤ length (front ++ rest) = omega (arith, length-append front rest) in
      ap (λ (within : Bool). nat_le WINDOW p && within && is_match params (slice_range (front ++ rest) (p - WINDOW) p)) (le-leb p (length (front ++ rest)) further ∙ sym (le-leb p (length front) inside))
      ∙ ap (λ (window : List ℕ). nat_le WINDOW p && nat_le p (length front) && is_match params window) (slice_range-append front rest (p - WINDOW) p (omega arith) inside)
