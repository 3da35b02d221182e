use Rattle.std.proofs.Common.{◌≡◌, ◌+◌, ◌-◌, ◌≤◌, length, drop, IfSome}
use Rattle.edge_traits.specs.Shelf.{content}
use Rattle.store_core.specs.BookFiles.{whole_len}
use Rattle.store_core.specs.Shelves.{OnlyReads}
use Rattle.store_core.proofs.book_file.records_len.Given as goal

abbrev pub invariant-loop : goal.invariant-loop
invariant-loop g l = record {
  within : l.end ≤ l.size;
  reads : OnlyReads ⊥ g.F.Shelf.files g.F.Shelf.loose g.F.Shelf.faults g.F.Shelf.faultless l.fn.shelf l.shelf;
  size : IfSome (content (g.F.Shelf.files l.fn.shelf) l.file) (λ bytes. l.size ≡ length bytes);
  so_far : IfSome (content (g.F.Shelf.files l.fn.shelf) l.file)
      (λ bytes. l.end + whole_len (l.records - l.counter) (drop l.end bytes) ≡ whole_len l.records bytes);
}
