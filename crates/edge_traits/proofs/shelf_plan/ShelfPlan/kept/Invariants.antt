use Rattle.std.proofs.Common.{◌≡◌, drop}
use Rattle.edge_traits.specs.ShelfPlan.{fail_at}
use Rattle.edge_traits.proofs.shelf_plan.ShelfPlan.kept.Given as goal

abbrev pub invariant-loop-fail : goal.invariant-loop-fail
invariant-loop-fail l = fail_at (drop l.fail-index l.fail-items) l.self.tally.calls ≡ fail_at l.fail-items l.self.tally.calls
