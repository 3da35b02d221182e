use Rattle.std.proofs.Common.{◌≡◌, ◌<◌, ◌+◌, length, slice_index_or, ◌∙◌, arith}
use Rattle.std.proofs.lemmas.List.{get_or_default, length-set}
use Rattle.std.proofs.lemmas.List.Sums.{sum_by-set}
use Rattle.shard_plan.proofs.Sizes.{size_more}
use Rattle.shard_plan.proofs.regions.sizes_of.Goals as goal

pub loop-name-preserved : goal.loop-name-preserved
loop-name-preserved c =
    let sizes = c.loop-name.sizes.items in
    let i = c.loop-name.name-index in
    let x = c.shard_of.result in
    let y = c.index_mut.result.now in
    let here : x < length sizes = omega (arith, c.shard_of.ensures.inside, c.loop-name.invariant.len) in
    let value : y ≡ slice_index_or sizes x 0 = c.index_mut.ensures.value ∙ get_or_default sizes x y 0 here in
    record {
      len = length-set sizes x (y + 1) ∙ c.loop-name.invariant.len;
      sizes = λ s known. size_more c.args.shards c.args.names.now sizes i s x y c.loop-name-test.true c.shard_of.ensures.shard here value
          (c.loop-name.invariant.sizes s known);
      all = omega (arith, sum_by-set (λ n. n) sizes x (y + 1) 0 here, value, c.loop-name.invariant.all);
    }
