use Rattle.std.proofs.Common.{◌≡◌, ℕ, List, length, nat_eq}
use Rattle.std.specs.HashSet.{contains}
use Rattle.ingest_core.proofs.AuditTwins.{IfThere}
use Rattle.ingest_core.specs.AuditTwins.{HasOwnName, HasSeen}
use Rattle.sd_base.specs.Firsts.{HoldsBelow}
use Rattle.sd_base.specs.Flaws.{IsNew}
use Rattle.store_core.specs.Shelves.{OnlyReads}
use Rattle.ingest_core.proofs.auditing.twins.check_twins.Given as goal

abbrev pub invariant-loop-number : goal.invariant-loop-number
invariant-loop-number g l = record {
  reads : OnlyReads ⊥ g.F.Shelf.files g.F.Shelf.loose g.F.Shelf.faults g.F.Shelf.faultless l.fn.shelf l.shelf;
  unread : HoldsBelow (length l.kept) (HasOwnName l.kept) → l.shelf ≡ l.fn.shelf;
  seen : HasSeen (contains nat_eq l.seen) l.kept l.number;
  different : (name_of : List ℕ → List ℕ) (stored : List (List ℕ)) →
      IfThere name_of l.generation l.spots l.kept stored (g.F.Shelf.files l.fn.shelf) (HoldsBelow l.number (IsNew stored));
}
