use Rattle.std.proofs.Common.{◌≡◌, ℕ, ◌<◌, length, slice_index_or, take}
use Rattle.std.specs.List.{sum}
use Rattle.shard_plan.specs.Shards.{size_of}
use Rattle.shard_plan.proofs.regions.sizes_of.Given as goal

abbrev pub invariant-loop-name : goal.invariant-loop-name
invariant-loop-name l = record {
  len : length l.sizes.items ≡ l.shards;
  sizes : (s : ℕ) → s < l.shards
      → slice_index_or l.sizes.items s 0 ≡ size_of l.shards (take l.name-index l.names) s;
  all : sum l.sizes.items ≡ l.name-index;
}
