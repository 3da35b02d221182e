use Rattle.std.proofs.Common.{arith, ap, subst}
use Rattle.store_core.specs.StoreFields.{ArePlaced}
use Rattle.store_core.specs.StoreStates.{StoreState, chunks_of_store}
use Rattle.store_core.proofs.FieldLemmas.{places-count}
use Rattle.store_core.proofs.ReadLemmas.{read-is_ok, spot-is}
use Rattle.store_core.proofs.store.Store.read.Goals as goal

pub index-spot-requires : goal.index-spot-requires
index-spot-requires g c =
    let placed = subst (λ (s : StoreState). ArePlaced (chunks_of_store s) s.opened.head.generation c.self.inside.spots.items c.self.inside.packer c.self.inside.index)
    c.self.view_is c.self.invariant.1 in
    omega (arith, c.requires.within, places-count _ _ _ _ _ placed)

pub returns-clause-read : goal.returns-clause-read
returns-clause-read g c =
    let inside = c.self.inside in
    let placed = subst (λ (s : StoreState). ArePlaced (chunks_of_store s) s.opened.head.generation inside.spots.items inside.packer inside.index)
    c.self.view_is c.self.invariant.1 in
    read-is_ok (g.F.Shelf.files c.args.shelf.now) c.args.self.now c.args.number c.index-spot.result.now c.chunk-length.result (λ read. read.items)
    c.read_chunk.result inside.generation (ap (λ (s : StoreState). s.opened.head.generation) c.self.view_is)
    (spot-is c.args.self.now inside.spots.items inside.packer inside.index c.args.number c.index-spot.result.now placed c.requires.within c.index-spot.ensures)
    c.chunk-length.ensures.chunk c.read_chunk.ensures.bytes
