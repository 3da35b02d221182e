use Rattle.std.proofs.Common.{◌≡◌, [], IfSome, take}
use Rattle.store_core.specs.Restores.{HoldsBack}
use Rattle.store_core.specs.Shelves.{CountsFaults, OnlyReads}
use Rattle.store_core.proofs.store.Store.restore_places.Given as goal

abbrev pub invariant-loop-number : goal.invariant-loop-number
invariant-loop-number g l = record {
  unchanged : l.number-index ≡ 0 → l.sink ≡ l.fn.sink;
  nothing : l.number-index ≡ 0 → l.held.items ≡ [];
  reads : OnlyReads ⊥ g.F.Shelf.files g.F.Shelf.loose g.F.Shelf.faults g.F.Shelf.faultless l.fn.shelf l.shelf;
  counts : CountsFaults ⊥ g.K.Sink.faults g.K.Sink.faultless l.fn.sink l.sink;
  held : IfSome (g.F.Shelf.files l.fn.shelf) (λ files. HoldsBack g.N.Namer.name_of files l.self
      (take l.number-index l.recipe) [] (g.K.Sink.written l.fn.sink) (g.K.Sink.written l.sink) l.held.items);
}
