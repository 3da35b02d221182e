use Rattle.std.proofs.Common.{◌≡◌, ◌++◌, ◌∙◌, ap, drop, length, subst, sym, take}
use Rattle.std.proofs.Math.Seq.{take-append_seam}
use Rattle.shard_plan.proofs.Runs.{sorted_numbered}
use Rattle.shard_plan.specs.Runs.{AreNumbered, AreSortedPairs}
use Rattle.shard_plan.proofs.fold.sorted_pairs.Goals as goal

pub returns : goal.returns
returns g c =
    let names = c.args.items.now.names in
    let pairs = c.in_ok-pairs.pairs in
    let before = c.as_mut_slice.result.now in
    let after = c.par_sort_unstable.new.s in
    let rest = drop (length after) pairs.items in
    let numbered = subst (λ ps. AreNumbered names ps) (sym c.as_mut_slice.ensures.value) c.in_ok-pairs.ensures.numbered in
    let len : length after ≡ pairs.len =
    c.par_sort_unstable.ensures.len ∙ ap (λ ps. length ps) c.as_mut_slice.ensures.value ∙ sym pairs.ok.0
    in
    let whole : take pairs.len (after ++ rest) ≡ after = subst (λ n. take n (after ++ rest) ≡ after) len (take-append_seam after rest) in
    record {
      pairs = subst (λ ps. AreSortedPairs names ps) (sym whole)
          (sorted_numbered names before after numbered c.par_sort_unstable.ensures.permutation c.par_sort_unstable.ensures.sorted);
    }
