use Rattle.std.proofs.Common.{◌≡◌, ◌-◌, ◌≤◌, length, take}
use Rattle.edge_traits.specs.Sink.{Appends}
use Rattle.edge_traits.proofs.sink_writer.write_all.Given as goal

abbrev pub invariant-loop-done : goal.invariant-loop-done
invariant-loop-done g l = record {
  within : l.done ≤ length l.bytes;
  written : Appends (g.K.Sink.written l.initial.sink) (g.K.Sink.written l.sink) (take l.done l.bytes);
  no_call : l.done ≡ 0 → l.sink ≡ l.initial.sink;
  never_falls : g.K.Sink.faults l.initial.sink ≤ g.K.Sink.faults l.sink;
  faultless_counts_none : g.K.Sink.faultless l.initial.sink → g.K.Sink.faults l.sink ≡ g.K.Sink.faults l.initial.sink;
  stays_faultless : g.K.Sink.faultless l.initial.sink → g.K.Sink.faultless l.sink;
}

abbrev pub decreases-loop-done : goal.decreases-loop-done
decreases-loop-done g l = length l.bytes - l.done
