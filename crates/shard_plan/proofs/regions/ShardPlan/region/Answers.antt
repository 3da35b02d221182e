use Rattle.std.proofs.Common.{◌<◌, length, subst, sym, arith}
use Rattle.std.proofs.lemmas.List.Sums.{get_or-le-sum_by}
use Rattle.shard_plan.proofs.regions.ShardPlan.region.Goals as goal

pub overflow_mul-result : goal.overflow_mul-result
overflow_mul-result c =
    let sizes = c.self.inside.sizes.items in
    let size = c.index-2.result.now in
    let inside = subst (λ ls. c.args.shard < length ls) (sym c.self.view_is) c.requires.inside in
    omega (arith, c.index-2.ensures, get_or-le-sum_by (λ n. n) sizes c.args.shard size inside, c.self.invariant.few)
