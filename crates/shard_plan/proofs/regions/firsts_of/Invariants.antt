use Rattle.std.proofs.Common.{◌≡◌, ℕ, ◌*◌, ◌<◌, length, slice_index_or, take}
use Rattle.std.specs.List.{sum}
use Rattle.shard_plan.proofs.regions.firsts_of.Given as goal

abbrev pub invariant-loop-size : goal.invariant-loop-size
invariant-loop-size l = record {
  len : length l.firsts.items ≡ l.size-index;
  next : l.next ≡ 2 * sum (take l.size-index l.sizes);
  each : (s : ℕ) → s < l.size-index → slice_index_or l.firsts.items s 0 ≡ 2 * sum (take s l.sizes);
}
