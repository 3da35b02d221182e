use Rattle.std.proofs.Common.{◌<◌, ℕ, IfSome}
use Rattle.edge_traits.specs.Shelf.{content}
use Rattle.ingest_core.specs.AuditMarks.{IsMarked}
use Rattle.sd_base.specs.declared.file.File.TheVariants.{Container}
use Rattle.store_core.specs.Shelves.{OnlyReads}
use Rattle.ingest_core.proofs.auditing.marks.check_marks.Given as goal

abbrev pub invariant-loop-number : goal.invariant-loop-number
invariant-loop-number g l = record {
  reads : OnlyReads ⊥ g.F.Shelf.files g.F.Shelf.loose g.F.Shelf.faults g.F.Shelf.faultless l.fn.shelf l.shelf;
  before : (k : ℕ) → k < l.number → IfSome (content (g.F.Shelf.files l.fn.shelf) (Container l.generation k)) (IsMarked k);
}
