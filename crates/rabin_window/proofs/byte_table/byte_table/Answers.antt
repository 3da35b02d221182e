use Rattle.std.proofs.Common.{ℕ, ◌-◌, get_or, arith, ap, ◌∙◌}
use Rattle.std.specs.Prelude.{bit_xor}
use Rattle.std.proofs.lemmas.List.{length-replicate, length-set}
use Rattle.std.proofs.lemmas.Nat.{one_shl}
use Rattle.sd_base.specs.Polynomial.{degree}
use Rattle.rabin_window.proofs.Linear.{highest_of_byte, linear-start, linear-more}
use Rattle.rabin_window.proofs.byte_table.byte_table.Goals as goal

pub loop-byte-init : goal.loop-byte-init
loop-byte-init c = record {
  some = omega arith;
  whole = length-replicate {A = ℕ} 256 0;
  entries = λ f linear powers b below. linear-start f linear b below;
}

pub overflow_sub-table : goal.overflow_sub-table
overflow_sub-table c =
    let at = highest_of_byte c.loop-byte.byte c.loop-byte.invariant.some c.loop-byte-test.true in
    omega (arith, at.0, one_shl (degree c.loop-byte.byte) 64 (omega (arith, at.2)))

pub bounds-powers-highest : goal.bounds-powers-highest
bounds-powers-highest c =
    let at = highest_of_byte c.loop-byte.byte c.loop-byte.invariant.some c.loop-byte-test.true in at.2

pub loop-byte-preserved : goal.loop-byte-preserved
loop-byte-preserved c =
    let b = c.loop-byte.byte in
    let at = highest_of_byte b c.loop-byte.invariant.some c.loop-byte-test.true in
    let shifted = one_shl (degree b) 64 (omega (arith, at.2)) in
    let power = get_or c.args.powers.now (degree b) 0 in
    record {
      some = omega arith;
      whole = length-set c.loop-byte.table b _ ∙ c.loop-byte.invariant.whole;
      entries = λ f linear powers.
          linear-more f linear c.loop-byte.table b _ power c.loop-byte.invariant.some c.loop-byte-test.true (omega (arith, c.loop-byte.invariant.whole))
          (ap (λ n. bit_xor (get_or c.loop-byte.table (b - n) 0) power) shifted) (powers (degree b) at.2)
          (c.loop-byte.invariant.entries f linear powers);
    }
