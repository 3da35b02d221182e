use Rattle.std.proofs.Common.{◌<◌, ◌≤◌, length, sym, ap, ap₂, ◌∙◌, arith}
use Rattle.std.specs.List.{fold}
use Rattle.std.proofs.lemmas.List.{take_all}
use Rattle.std.proofs.lemmas.List.Sums.{fold_more}
use Rattle.sd_base.specs.Polynomial.{append_bit}
use Rattle.rabin_window.specs.Division.{byte_bits, append_byte}
use Rattle.rabin_window.proofs.Bits.{length-byte_bits, byte_bits_at}
use Rattle.rabin_window.proofs.divisor.Divisor.append_byte.Goals as goal

pub loop-i-preserved : goal.loop-i-preserved
loop-i-preserved c =
    let step = append_bit c.args.self.polynomial in
    let bits = byte_bits c.args.byte in
    let i = c.loop-i.i in
    let here : i < 8 = omega arith in
    let within : i < length bits = omega (arith, length-byte_bits c.args.byte) in
    record {
      so_far = c.append_bit-divided.ensures.divided ∙ ap₂ step c.loop-i.invariant.so_far (c.from.ensures ∙ sym (byte_bits_at c.args.byte i here))
          ∙ sym (fold_more step c.args.remainder bits i 0 within);
      reduced = c.append_bit-divided.ensures.reduced;
    }

pub returns-clause-divided : goal.returns-clause-divided
unfolding append_byte
returns-clause-divided c =
    let bits = byte_bits c.args.byte in
    let all : length bits ≤ c.loop-i.i = omega (arith, length-byte_bits c.args.byte) in
    c.loop-i.invariant.so_far ∙ ap (fold (append_bit c.args.self.polynomial) c.args.remainder) (take_all c.loop-i.i bits all)
