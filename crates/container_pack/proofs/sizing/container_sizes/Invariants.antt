use Rattle.std.proofs.Common.{◌≡◌, ◌+◌, ◌^◌, ◌<◌, ◌≤◌, ◌++◌, drop, length}
use Rattle.std.specs.Prelude.{IfSome}
use Rattle.sd_base.specs.Packing.{container_sizes}
use Rattle.container_pack.proofs.SizeLemmas.{open_count, sizes_from}
use Rattle.container_pack.proofs.sizing.container_sizes.Given as goal

abbrev pub invariant-loop-length : goal.invariant-loop-length
invariant-loop-length l = record {
  sizes : l.sizes.items ++ sizes_from l.open (drop l.length-index l.lengths) ≡ container_sizes l.lengths;
  within : IfSome l.open (λ size. size < 2 ^ 33);
  count : length l.sizes.items + open_count l.open ≤ l.length-index;
}
