use Rattle.std.proofs.Common.{sym, ap, ◌∙◌}
use Rattle.std.specs.List.{fold}
use Rattle.std.proofs.lemmas.List.{take_all}
use Rattle.rabin_window.specs.Division.{append_byte}
use Rattle.rabin_window.proofs.Fold.{fingerprint_by_bytes}
use Rattle.rabin_window.proofs.appender.Appender.remainder.Goals as goal

pub returns-clause-divided : goal.returns-clause-divided
returns-clause-divided c =
    let p = c.args.self.now.polynomial in
    let bytes = c.args.bytes.now in
    c.loop-byte.invariant.so_far ∙ ap (fold (append_byte p) 0) (take_all c.loop-byte.byte-index bytes c.loop-byte-test.false)
    ∙ sym (fingerprint_by_bytes p bytes)
