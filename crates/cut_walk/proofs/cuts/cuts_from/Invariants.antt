use Rattle.std.proofs.Common.{◌≡◌, ◌-◌, ◌≤◌}
use Rattle.sd_base.specs.Params.{numbers_of}
use Rattle.cut_walk.specs.Walk.{AreCutsOn, last_cut}
use Rattle.cut_walk.proofs.cuts.cuts_from.Given as goal

-- the cuts so far; the walk is at the last of them
abbrev pub invariant-loop-from : goal.invariant-loop-from
invariant-loop-from l = record {
  inside : l.from ≤ l.known;
  at_last : last_cut l.start l.cuts.items ≡ l.from;
  cuts : AreCutsOn (numbers_of l.params) l.map l.known l.at_end l.start l.cuts.items;
}

abbrev pub decreases-loop-from : goal.decreases-loop-from
decreases-loop-from l = l.known - l.from
