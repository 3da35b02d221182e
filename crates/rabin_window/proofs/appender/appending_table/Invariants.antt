use Rattle.std.proofs.Common.{◌≡◌, ℕ, ◌<◌, get_or}
use Rattle.rabin_window.specs.Tables.{appending_entry}
use Rattle.rabin_window.proofs.appender.appending_table.Given as goal

abbrev pub invariant-loop-byte : goal.invariant-loop-byte
invariant-loop-byte l = (b : ℕ) → b < l.byte → get_or l.entry-items b 0 ≡ appending_entry l.divisor.polynomial b
