use Rattle.ingest_core.proofs.PartLemmas.{IsPart}
use Rattle.std.specs.Prelude.{drop}
use Rattle.sd_base.specs.Cutting.{chunks_of}
use Rattle.store_core.specs.Shelves.{CountsFaults}
use Rattle.ingest_core.proofs.offering.offer_all.Given as goal

abbrev pub invariant-loop-cut : goal.invariant-loop-cut
invariant-loop-cut g l = record {
  counts : CountsFaults ⊥ g.F.Shelf.faults g.F.Shelf.faultless l.fn.shelf l.shelf;
  part : IsPart g.N.Namer.name_of l.input (chunks_of l.fn.store.opened.head.params l.input) l.start (drop l.cut-index l.cuts)
      l.recipe.items l.fn.store l.store (g.F.Shelf.files l.fn.shelf) (g.F.Shelf.files l.shelf);
}
