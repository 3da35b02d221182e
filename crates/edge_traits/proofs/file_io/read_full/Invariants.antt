use Rattle.std.proofs.Common.{length, ◌-◌, ◌≤◌, take}
use Rattle.std.specs.Io.KnownBytes.{Consumes}
use Rattle.edge_traits.proofs.file_io.read_full.Given as goal

abbrev pub invariant-loop-done : goal.invariant-loop-done
invariant-loop-done g l = (l.done ≤ length l.into) × Consumes (g.R.Read.remaining l.initial.reader) (g.R.Read.remaining l.reader) (take l.done l.into)

abbrev pub decreases-loop-done : goal.decreases-loop-done
decreases-loop-done g l = length l.initial.into - l.done
