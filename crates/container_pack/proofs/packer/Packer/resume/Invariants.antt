use Rattle.std.proofs.Common.{◌≡◌, ◌≤◌, drop}
use Rattle.container_pack.specs.Spots.{nothing_filled, filled_on, IsSound}
use Rattle.container_pack.proofs.packer.Packer.resume.Given as goal

abbrev pub invariant-loop-length : goal.invariant-loop-length
invariant-loop-length l = record {
  fill : filled_on l.fill (drop l.length-index l.lengths) ≡ filled_on nothing_filled l.lengths;
  sound : IsSound l.fill;
  chunks : l.chunks ≡ l.length-index;
  containers : l.fill.containers ≤ l.length-index;
}
