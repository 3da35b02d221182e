use Rattle.std.proofs.Common.{◌≡◌, ℕ, List, length, sym, ap, ◌∙◌}
use Rattle.std.proofs.lemmas.List.{drop_all}
use Rattle.container_pack.specs.Spots.{filled_on}
use Rattle.container_pack.proofs.SizeLemmas.{sizes-count}
use Rattle.container_pack.proofs.sizing.container_count.Goals as goal

pub returns : goal.returns
returns c = record {
  count =
      ap (λ (l : List ℕ). (filled_on c.loop-length.fill l).containers)
      (sym (drop_all c.loop-length.length-index c.args.lengths.now c.loop-length-test.false))
      ∙ ap (λ fill. fill.containers) c.loop-length.invariant.filled
      ∙ sizes-count c.args.lengths.now c.requires.none_empty;
}
