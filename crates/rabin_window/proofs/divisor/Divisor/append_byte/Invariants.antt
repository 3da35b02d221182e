use Rattle.std.proofs.Common.{◌≡◌, ◌^◌, ◌<◌, take}
use Rattle.std.specs.List.{fold}
use Rattle.sd_base.specs.Polynomial.{degree, append_bit}
use Rattle.rabin_window.specs.Division.{byte_bits}
use Rattle.rabin_window.proofs.divisor.Divisor.append_byte.Given as goal

abbrev pub invariant-loop-i : goal.invariant-loop-i
invariant-loop-i l = record {
  so_far : l.divided ≡ fold (append_bit l.self.polynomial) l.remainder (take l.i (byte_bits l.byte));
  reduced : l.divided < 2 ^ degree l.self.polynomial;
}
