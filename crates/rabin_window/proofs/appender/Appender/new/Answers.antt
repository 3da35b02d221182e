use Rattle.std.proofs.Common.{◌-◌, ◌≤◌, arith, ap}
use Rattle.std.proofs.lemmas.Nat.{one_shl}
use Rattle.sd_base.specs.Polynomial.{degree}
use Rattle.rabin_window.proofs.Degree.{degree_at_least, degree_place}
use Rattle.rabin_window.proofs.appender.Appender.new.Goals as goal

pub overflow_sub-shift : goal.overflow_sub-shift
overflow_sub-shift c =
    let divisor = c.new-divisor.result in
    omega (arith, divisor.degree_is, degree_at_least divisor.polynomial divisor.valid.0 divisor.valid.1)

pub appending_table-requires : goal.appending_table-requires
appending_table-requires c =
    let divisor = c.new-divisor.result in
    let enough : 16 ≤ degree divisor.polynomial = degree_at_least divisor.polynomial divisor.valid.0 divisor.valid.1 in
    record { highest_byte = omega (arith, divisor.degree_is) }

pub invariant_of-result : goal.invariant_of-result
invariant_of-result c =
    let divisor = c.new-divisor.result in
    let enough : 16 ≤ degree divisor.polynomial = degree_at_least divisor.polynomial divisor.valid.0 divisor.valid.1 in
    let place = degree_place divisor.polynomial (omega arith) divisor.valid.1 in
    record {
      valid = divisor.valid;
      tabled = record {
        highest_byte = omega (arith, divisor.degree_is);
        masked = ap (λ x. x - 1) (one_shl (divisor.highest - 8) 64 (omega (arith, divisor.degree_is)));
        appends = c.appending_table.ensures.entries;
      };
    }
