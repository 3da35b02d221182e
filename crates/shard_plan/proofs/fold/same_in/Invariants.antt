use Rattle.std.proofs.Common.{◌≢◌, ℕ, ◌<◌, slice_index_or}
use Rattle.shard_plan.specs.Items.{chunk_of}
use Rattle.shard_plan.proofs.fold.same_in.Given as goal

abbrev pub invariant-loop-leader : goal.invariant-loop-leader
invariant-loop-leader l = (k : ℕ) → k < l.leader-index
    → chunk_of l.items (slice_index_or l.run k 0) ≢ chunk_of l.items l.item
