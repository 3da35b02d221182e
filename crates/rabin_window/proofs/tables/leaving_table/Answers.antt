use Rattle.std.proofs.Common.{◌≡◌, ◌<◌, ◌*◌, ◌^◌, ◌%◌, length, arith, ap, ◌∙◌, set, replicate}
use Rattle.std.proofs.lemmas.Nat.{one_shl}
use Rattle.rabin_window.specs.Tables.{leaving_entry}
use Rattle.rabin_window.proofs.Entries.{entry_more}
use Rattle.rabin_window.proofs.Fold.{fingerprint_by_bytes}
use Rattle.rabin_window.proofs.Linear.{leaving_entry-linear}
use Rattle.rabin_window.proofs.tables.leaving_table.Goals as goal

pub loop-i-preserved : goal.loop-i-preserved
unfolding leaving_entry
loop-i-preserved c =
    let p = c.args.appender.now.polynomial in
    let i = c.loop-i.i in
    let few : i < 8 = omega (arith, c.loop-i-test.true) in
    let within : i < length c.loop-i.power-items = omega arith in
    let first : 1 * 2 ^ i % 2 ^ 8 ≡ 2 ^ i = one_shl i 8 few in
    entry_more (λ j. leaving_entry p (2 ^ j)) c.loop-i.power-items i _ within
    (c.remainder.ensures.divided ∙ fingerprint_by_bytes p (set (replicate 48 0) 0 (1 * 2 ^ i % 2 ^ 8)) ∙ ap (leaving_entry p) first)
    c.loop-i.invariant

pub returns : goal.returns
returns c = record {
  entries = c.byte_table.ensures.entries (leaving_entry c.args.appender.now.polynomial)
      (leaving_entry-linear c.args.appender.now.polynomial c.args.appender.now.valid)
      (λ i few. c.loop-i.invariant i (omega arith));
}
