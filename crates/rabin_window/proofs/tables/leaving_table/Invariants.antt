use Rattle.std.proofs.Common.{◌≡◌, ℕ, ◌<◌, ◌^◌, get_or}
use Rattle.rabin_window.specs.Tables.{leaving_entry}
use Rattle.rabin_window.proofs.tables.leaving_table.Given as goal

abbrev pub invariant-loop-i : goal.invariant-loop-i
invariant-loop-i l = (i : ℕ) → i < l.i → get_or l.power-items i 0 ≡ leaving_entry l.appender.polynomial (2 ^ i)
