use Rattle.std.proofs.Common.{◌≡◌, ◌^◌, ◌<◌, take}
use Rattle.std.specs.List.{fold}
use Rattle.sd_base.specs.Polynomial.{degree}
use Rattle.rabin_window.specs.Division.{append_byte}
use Rattle.rabin_window.proofs.appender.Appender.remainder.Given as goal

abbrev pub invariant-loop-byte : goal.invariant-loop-byte
invariant-loop-byte l = record {
  so_far : l.divided ≡ fold (append_byte l.self.polynomial) 0 (take l.byte-index l.bytes);
  reduced : l.divided < 2 ^ degree l.self.polynomial;
}
