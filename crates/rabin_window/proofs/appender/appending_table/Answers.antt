use Rattle.std.proofs.Common.{◌<◌, length, arith, ◌∙◌}
use Rattle.rabin_window.specs.Tables.{appending_entry}
use Rattle.rabin_window.proofs.Entries.{entry_more}
use Rattle.rabin_window.proofs.Roll.{shifted_below, shifted_entry}
use Rattle.rabin_window.proofs.appender.appending_table.Goals as goal

pub append_byte-requires : goal.append_byte-requires
append_byte-requires c =
    record { reduced = shifted_below c.args.divisor.polynomial c.args.shift c.loop-byte.byte c.requires.highest_byte (omega arith) (omega arith) c.loop-byte-test.true }

pub loop-byte-preserved : goal.loop-byte-preserved
loop-byte-preserved c =
    let p = c.args.divisor.polynomial in
    let byte = c.loop-byte.byte in
    let within : byte < length c.loop-byte.entry-items = omega arith in
    entry_more (appending_entry p) c.loop-byte.entry-items byte _ within (c.append_byte.ensures.divided ∙ shifted_entry p c.args.shift byte c.requires.highest_byte (omega arith) (omega arith) c.loop-byte-test.true)
    c.loop-byte.invariant
