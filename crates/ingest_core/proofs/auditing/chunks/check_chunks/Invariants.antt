use Rattle.std.proofs.Common.{◌≡◌, ◌-◌, ◌≤◌, ℕ, List, length}
use Rattle.ingest_core.proofs.AuditBatches.{AreNamedTo}
use Rattle.ingest_core.proofs.BatchCuts.{AreReadTo}
use Rattle.sd_base.specs.Params.{numbers_of}
use Rattle.store_core.specs.Shelves.{OnlyReads}
use Rattle.ingest_core.proofs.auditing.chunks.check_chunks.Given as goal

abbrev pub invariant-loop-first : goal.invariant-loop-first
invariant-loop-first g l = record {
  reads : OnlyReads ⊥ g.F.Shelf.files g.F.Shelf.loose g.F.Shelf.faults g.F.Shelf.faultless l.fn.shelf l.shelf;
  within : l.first ≤ length l.kept;
  one_each : length l.cuts.items ≡ l.first;
  named : (stored : List (List ℕ)) → AreNamedTo g.N.Namer.name_of l.generation l.spots l.kept stored (g.F.Shelf.files l.fn.shelf) l.first;
  cut : (stored : List (List ℕ)) → AreReadTo (numbers_of l.rules.params) l.generation l.spots l.kept stored (g.F.Shelf.files l.fn.shelf) l.cuts.items l.first;
}

abbrev pub decreases-loop-first : goal.decreases-loop-first
decreases-loop-first g l = length l.kept - l.first
