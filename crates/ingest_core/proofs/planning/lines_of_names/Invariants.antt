use Rattle.std.specs.Prelude.{drop}
use Rattle.ingest_core.proofs.PlanLemmas.{AreLines}
use Rattle.ingest_core.proofs.planning.lines_of_names.Given as goal

abbrev pub invariant-loop-cut : goal.invariant-loop-cut
invariant-loop-cut l = record {
  lines : AreLines l.cuts l.names l.offset (drop l.cut-index l.cuts) l.lines.items;
}
