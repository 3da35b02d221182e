use Rattle.std.proofs.Common.{◌≡◌, ℕ, List}
use Rattle.ingest_core.proofs.AuditTwins.{DifferTo, IfThere}
use Rattle.ingest_core.specs.AuditTwins.{HasOwnName}
use Rattle.store_core.specs.Shelves.{OnlyReads}
use Rattle.ingest_core.proofs.auditing.twins.first_twin.Given as goal

abbrev pub invariant-loop-earlier : goal.invariant-loop-earlier
invariant-loop-earlier g l = record {
  reads : OnlyReads ⊥ g.F.Shelf.files g.F.Shelf.loose g.F.Shelf.faults g.F.Shelf.faultless l.fn.shelf l.shelf;
  unread : HasOwnName l.kept l.number → l.shelf ≡ l.fn.shelf;
  before : (name_of : List ℕ → List ℕ) (stored : List (List ℕ)) →
      IfThere name_of l.generation l.spots l.kept stored (g.F.Shelf.files l.fn.shelf) (DifferTo stored l.number l.earlier);
}
