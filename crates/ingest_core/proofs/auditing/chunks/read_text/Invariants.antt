use Rattle.std.proofs.Common.{◌≡◌, ◌+◌, ℕ, List, length, drop}
use Rattle.ingest_core.proofs.AuditChunks.{IsTextTo}
use Rattle.ingest_core.specs.AuditChunks.{bytes_kept}
use Rattle.store_core.specs.Shelves.{OnlyReads}
use Rattle.ingest_core.proofs.auditing.chunks.read_text.Given as goal

abbrev pub invariant-loop-place : goal.invariant-loop-place
invariant-loop-place g l = record {
  reads : OnlyReads ⊥ g.F.Shelf.files g.F.Shelf.loose g.F.Shelf.faults g.F.Shelf.faultless l.fn.shelf l.shelf;
  size : length l.text.items + bytes_kept (drop l.place l.kept) ≡ bytes_kept l.kept;
  text : (stored : List (List ℕ)) → IsTextTo l.generation l.spots l.kept stored (g.F.Shelf.files l.fn.shelf) l.place l.text.items;
}
