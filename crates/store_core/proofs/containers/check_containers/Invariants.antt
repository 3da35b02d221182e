use Rattle.std.proofs.Common.{◌<◌, ◌≤◌, ℕ, length, IfSome}
use Rattle.std.specs.Prelude.{slice_index_or}
use Rattle.sd_base.specs.declared.file.File.TheVariants.{Container}
use Rattle.store_core.specs.Shelves.{OnlyReads}
use Rattle.store_core.proofs.containers.check_containers.Given as goal

abbrev pub invariant-loop-number : goal.invariant-loop-number
invariant-loop-number g l = record {
  reads : OnlyReads ⊥ g.F.Shelf.files g.F.Shelf.loose g.F.Shelf.faults g.F.Shelf.faultless l.fn.shelf l.shelf;
  before : IfSome (g.F.Shelf.files l.fn.shelf) (λ files.
      (k : ℕ) → k < l.number → slice_index_or l.needed-items k 0 ≤ length (files (Container l.generation k)));
}
