use Rattle.std.proofs.Common.{◌≡◌, vec_len}
use Rattle.edge_traits.proofs.open_files.OpenFiles.new.Given as goal

abbrev pub invariant-loop : goal.invariant-loop
invariant-loop g l = vec_len l.places ≡ l.counter
