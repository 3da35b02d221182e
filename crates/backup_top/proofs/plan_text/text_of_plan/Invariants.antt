use Rattle.std.proofs.Common.{◌≡◌, ◌++◌, drop, string_bytes}
use Rattle.backup_top.specs.Lines.{printed_lines}
use Rattle.backup_top.proofs.plan_text.text_of_plan.Given as goal

abbrev pub invariant-loop-line : goal.invariant-loop-line
invariant-loop-line l =
    string_bytes l.text ++ printed_lines (drop l.line-index l.lines) ≡ printed_lines l.lines
