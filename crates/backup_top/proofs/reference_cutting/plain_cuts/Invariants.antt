use Rattle.std.proofs.Common.{◌≡◌, ◌-◌, ◌≤◌, ◌++◌, length}
use Rattle.sd_base.specs.Cutting.{cuts_of, cuts_within}
use Rattle.sd_base.specs.Params.{numbers_of}
use Rattle.backup_top.proofs.reference_cutting.plain_cuts.Given as goal

-- the cuts so far and those from the last of them on are all
abbrev pub invariant-loop-start : goal.invariant-loop-start
invariant-loop-start l = record {
  within : l.start ≤ length l.input;
  so_far : cuts_of (numbers_of l.params) l.input
      ≡ l.cuts.items ++ cuts_within (length l.input - l.start) (numbers_of l.params) l.input l.start;
}

abbrev pub decreases-loop-start : goal.decreases-loop-start
decreases-loop-start l = length l.input - l.start
