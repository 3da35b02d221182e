use Rattle.std.specs.Prelude.{IfSome}
use Rattle.store_core.specs.Offers.{IsNewBelow}
use Rattle.store_core.specs.Shelves.{OnlyReads}
use Rattle.store_core.proofs.store.Store.find_from.Given as goal

abbrev pub invariant-loop-number : goal.invariant-loop-number
invariant-loop-number g l = record {
  reads : OnlyReads ⊥ g.F.Shelf.files g.F.Shelf.loose g.F.Shelf.faults g.F.Shelf.faultless l.fn.shelf l.shelf;
  new : IfSome (g.F.Shelf.files l.fn.shelf) (λ files. IsNewBelow g.N.Namer.name_of files l.fn.self l.chunk l.number);
}
