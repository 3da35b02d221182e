use Rattle.std.proofs.Common.{subst}
use Rattle.shard_plan.proofs.Sizes.{sizes_in_order}
use Rattle.shard_plan.specs.Shards.{IsPlanOf}
use Rattle.shard_plan.proofs.regions.ShardPlan.new.Goals as goal

pub returns-clause-sizes : goal.returns-clause-sizes
returns-clause-sizes c =
    let sizes = c.in_ok-sizes.sizes.items in
    subst (λ names. IsPlanOf sizes names) c.names.ensures.names
    (sizes_in_order c.args.shards c.names.result.now sizes c.in_ok-sizes.ensures.len c.in_ok-sizes.ensures.sizes)
