use Rattle.std.proofs.Common.{◌≡◌, ◌≤◌, ◌++◌, drop}
use Rattle.container_pack.specs.Spots.{spots_on, spots_of, IsSound}
use Rattle.container_pack.proofs.placing.places.Given as goal

abbrev pub invariant-loop-length : goal.invariant-loop-length
invariant-loop-length l = record {
  spots : l.spots.items ++ spots_on l.fill (drop l.length-index l.lengths) ≡ spots_of l.lengths;
  sound : IsSound l.fill;
  containers : l.fill.containers ≤ l.length-index;
}
