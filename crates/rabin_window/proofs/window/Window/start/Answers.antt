use Rattle.std.proofs.Common.{◌^◌, ◌<◌, sym, ap₂, ◌∙◌, subst, arith}
use Rattle.sd_base.specs.Polynomial.{degree, fingerprint}
use Rattle.rabin_window.proofs.Ring.{oldest_first-zero}
use Rattle.rabin_window.proofs.window.Window.start.Goals as goal

pub invariant_of-result : goal.invariant_of-result
invariant_of-result c =
    let same = c.polynomial.ensures.polynomial in
    let bytes = oldest_first-zero _ ∙ c.copy_from_slice.ensures.after in
    record {
      in_ring = omega arith;
      fingerprinted = c.fingerprint.ensures.fingerprint ∙ ap₂ fingerprint (sym same) (sym bytes);
      reduced = subst (λ q. c.fingerprint.result < 2 ^ degree q) (sym same) c.fingerprint.ensures.reduced;
    }

pub returns-clause-bytes : goal.returns-clause-bytes
returns-clause-bytes c = oldest_first-zero _ ∙ c.copy_from_slice.ensures.after
