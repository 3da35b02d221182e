use Rattle.std.proofs.Common.{◌≢◌, ℕ, ◌<◌, get_or}
use Rattle.edge_traits.specs.declared.entries.Entry.{Entry}
use Rattle.edge_traits.proofs.entries.index_of.Given as goal

abbrev pub invariant-loop-index : goal.invariant-loop-index
invariant-loop-index l = (k : ℕ) (d : Entry) → k < l.index → (get_or l.entries k d).file ≢ l.file
