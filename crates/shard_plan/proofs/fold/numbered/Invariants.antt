use Rattle.std.proofs.Common.{◌≡◌, ℕ, ◌<◌, [], length, slice_index_or}
use Rattle.shard_plan.specs.Runs.{key_of}
use Rattle.shard_plan.proofs.fold.numbered.Given as goal

abbrev pub invariant-loop-i : goal.invariant-loop-i
invariant-loop-i l = record {
  len : length l.pairs.items ≡ l.i;
  each : (k : ℕ) → k < l.i → slice_index_or l.pairs.items k (0, 0) ≡ (key_of (slice_index_or l.items.names k []), k);
}
