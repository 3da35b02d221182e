use Rattle.std.proofs.Common.{rules}
use Rattle.edge_traits.proofs.Streams.{appends_more}
use Rattle.edge_traits.proofs.sink_writer.write_all.Goals as goal

pub loop-done-preserved : goal.loop-done-preserved
loop-done-preserved g c = record {
  within = search rules;
  written = appends_more _ _ _ _ _ _ c.loop-done.invariant.written c.in_ok-done.ensures.appended;
  no_call = search rules;
  never_falls = search rules;
  faultless_counts_none = search rules;
  stays_faultless = search rules;
}
