use Rattle.std.proofs.Common.{List, arith, refl, subst, sym}
use Rattle.ingest_core.specs.declared.line.Line.{Line}
use Rattle.ingest_core.proofs.PlanLemmas.{AreLines}
use Rattle.ingest_core.proofs.planning.lines_of_names.Goals as goal

pub loop-cut-init : goal.loop-cut-init
loop-cut-init c = record {
  lines = subst (λ (lines : List Line). AreLines c.args.cuts.now c.args.names.now 0 c.args.cuts.now lines)
      (sym c.in_ok-lines.ensures.items) (record { written = refl; rise = λ high rise. rise; count = omega arith });
}
