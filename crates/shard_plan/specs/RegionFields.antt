-- What a `ShardPlan` keeps in memory. The public contracts do not speak of it.
use Rattle.std.specs.Prelude.{◌≡◌, ℕ, ◌*◌, ◌^◌, ◌<◌, List, length, slice_index_or, take}
use Rattle.std.specs.List.{sum}
use Rattle.shard_plan.specs.Shards.{AreShards}
use Rattle.shard_plan.specs.declared.regions.ShardPlan.TheInside.{Inside}

-- the first words of regions that follow one another, each with two words for each item
pub record AreFirsts (sizes firsts : List ℕ) : Type 0 where
  pub one_each : length firsts ≡ length sizes
  pub each : (s : ℕ) → s < length sizes → slice_index_or firsts s 0 ≡ 2 * sum (take s sizes)

pub record IsPlan (plan : Inside) : Type 0 where
  pub shards : AreShards (length plan.sizes.items)
  pub firsts : AreFirsts plan.sizes.items plan.firsts.items
  pub few : 2 * sum plan.sizes.items < 2 ^ 32
  pub words : plan.words ≡ 2 * sum plan.sizes.items
