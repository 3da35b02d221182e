use Rattle.std.proofs.Common.{◌≡◌, ◌-◌, ◌≤◌, take, vec_len}
use Rattle.edge_traits.specs.Source.{Consumes}
use Rattle.edge_traits.proofs.source_reader.read_all.Given as goal

abbrev pub invariant-loop-taken : goal.invariant-loop-taken
invariant-loop-taken g l = record {
  within : l.taken ≤ vec_len l.buffer;
  bounded : vec_len l.buffer ≤ l.most;
  taken : Consumes (g.R.Source.left l.initial.source) (g.R.Source.left l.source) (take l.taken l.buffer.items);
  never_falls : g.R.Source.faults l.initial.source ≤ g.R.Source.faults l.source;
  faultless_counts_none : g.R.Source.faultless l.initial.source → g.R.Source.faults l.source ≡ g.R.Source.faults l.initial.source;
  stays_faultless : g.R.Source.faultless l.initial.source → g.R.Source.faultless l.source;
}

abbrev pub decreases-loop-taken : goal.decreases-loop-taken
decreases-loop-taken g l = l.most - l.taken
