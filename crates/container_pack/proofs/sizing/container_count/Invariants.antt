use Rattle.std.proofs.Common.{◌≡◌, ◌≤◌, drop}
use Rattle.container_pack.specs.Spots.{filled_on, nothing_filled, IsSound}
use Rattle.container_pack.proofs.sizing.container_count.Given as goal

abbrev pub invariant-loop-length : goal.invariant-loop-length
invariant-loop-length l = record {
  filled : filled_on l.fill (drop l.length-index l.lengths) ≡ filled_on nothing_filled l.lengths;
  sound : IsSound l.fill;
  containers : l.fill.containers ≤ l.length-index;
}
