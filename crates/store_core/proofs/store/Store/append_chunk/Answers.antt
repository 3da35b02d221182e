use Rattle.std.proofs.Common.{rules, ◌++◌, ◌∷◌, [], List, length, arith, ap, sym, subst, ◌∙◌, append_assoc}
use Rattle.container_pack.specs.declared.spot.Spot.{Spot}
use Rattle.sd_base.specs.Books.{chunks_in}
use Rattle.sd_base.specs.declared.record.NewChunk.{NewChunk}
use Rattle.store_core.specs.StoreFields.{ArePlaced, AreUnflushed, lengths_of}
use Rattle.store_core.specs.StoreStates.{StoreState, chunks_of_store}
use Rattle.store_core.proofs.CleanLemmas.{exact-appended, packed-appended}
use Rattle.store_core.proofs.FieldLemmas.{no-container, placed-one_more}
use Rattle.store_core.proofs.OfferLemmas.{begin-fewer}
use Rattle.store_core.proofs.SessionLemmas.{unflushed-one_more}
use Rattle.store_core.proofs.store.Store.append_chunk.Goals as goal

pub returns-in_err-spot : goal.returns-in_err-spot
returns-in_err-spot g c = record {
  number = search rules;
  added = search rules;
  refused = search rules;
  unchanged = search rules;
  too_many = search rules;
  untouched = search rules;
  packed = search rules;
  still_packed = search rules;
  exact = search rules;
  other_files = λ f apart.
      c.append_chunk.ensures.other_files f (no-container _ _ _ f
      (c.self.invariant.1.generation ∙ ap (λ (s : StoreState). s.opened.head.generation) c.self.view_is) apart);
  counts = search rules;
}

pub returns-clause-other_files : goal.returns-clause-other_files
returns-clause-other_files g c = λ f apart.
    c.append_chunk.ensures.other_files f (no-container _ _ _ f
    (c.self.invariant.1.generation ∙ ap (λ (s : StoreState). s.opened.head.generation) c.self.view_is) apart)

pub invariant_of-self-2 : goal.invariant_of-self-2
invariant_of-self-2 g c =
    let inside = c.self.inside in
    let placed = c.self.invariant.1 in
    let committed = chunks_in inside.book.sessions in
    let chunks = committed ++ inside.offered.items in
    let more : NewChunk = record { length = length c.args.chunk.now; name = c.args.name.now } in
    let spot = c.in_ok-spot.spot in
    let count = ap (λ (s : StoreState). length (chunks_of_store s)) c.self.view_is in
    let spots = c.in_ok-push.ensures.items ∙ ap (λ (l : List Spot). l ++ spot ∷ []) c.in_ok-reserve.ensures.items in
    let offered = c.in_ok-push-2.ensures.items ∙ ap (λ (l : List NewChunk). l ++ more ∷ []) c.in_ok-reserve-2.ensures.items in (
      c.self.invariant.0,
      subst (λ (all : List NewChunk). ArePlaced all inside.generation c.push.new.self.items c.append_chunk.new.self inside.index)
          (append_assoc committed inside.offered.items (more ∷ []) ∙ ap (λ (l : List NewChunk). committed ++ l) (sym offered))
          (subst (λ (l : List Spot). ArePlaced (chunks ++ more ∷ []) inside.generation l c.append_chunk.new.self inside.index) (sym spots)
          (placed-one_more chunks more inside.generation inside.spots.items spot inside.packer c.append_chunk.new.self inside.index placed
          (omega (arith, c.if-number-ge-MAX_CHUNKS.false, c.count-number.ensures.count, count)) c.requires.bounded
          c.append_chunk.ensures.generation (c.in_ok-spot.ensures.placed (lengths_of chunks) placed.behind)
          (c.in_ok-spot.ensures.behind (lengths_of chunks) placed.behind))),
      subst (λ (l : List Spot). AreUnflushed (length committed) l c.append_chunk.new.self) (sym spots)
          (unflushed-one_more (length committed) inside.spots.items spot inside.packer c.append_chunk.new.self c.self.invariant.2
          c.in_ok-spot.ensures.unflushed),
      c.self.invariant.3,
    )

pub returns-clause-packed : goal.returns-clause-packed
returns-clause-packed g c =
    let inside = c.self.inside in
    packed-appended c.args.self.now inside.spots.items inside.packer c.append_chunk.new.self inside.index
    (subst (λ (s : StoreState). ArePlaced (chunks_of_store s) s.opened.head.generation inside.spots.items inside.packer inside.index)
    c.self.view_is c.self.invariant.1)
    (g.F.Shelf.files c.args.shelf.now) (g.F.Shelf.files c.append_chunk.new.shelf) c.args.chunk.now
    c.append_chunk.ensures.generation c.in_ok-spot.ensures.packed

pub returns-clause-still_packed : goal.returns-clause-still_packed
returns-clause-still_packed g c = λ chunks lengths begin.
    begin-fewer (g.F.Shelf.files c.append_chunk.new.shelf) c.args.self.now.opened.head.generation chunks (c.args.chunk.now ∷ [])
    (returns-clause-packed g c chunks lengths begin)

pub returns-clause-exact : goal.returns-clause-exact
returns-clause-exact g c =
    let inside = c.self.inside in
    exact-appended c.args.self.now inside.spots.items inside.packer inside.index
    (subst (λ (s : StoreState). ArePlaced (chunks_of_store s) s.opened.head.generation inside.spots.items inside.packer inside.index)
    c.self.view_is c.self.invariant.1)
    (g.F.Shelf.files c.args.shelf.now) (g.F.Shelf.files c.append_chunk.new.shelf) c.args.chunk.now c.requires.not_empty
    c.in_ok-spot.spot c.in_ok-spot.ensures.spot c.in_ok-spot.ensures.ends c.append_chunk.ensures.other_files

pub returns-in_err-push : goal.returns-in_err-push
returns-in_err-push g c = search rules

pub returns-in_err-push-2 : goal.returns-in_err-push-2
returns-in_err-push-2 g c = search rules

pub returns-in_err-reserve : goal.returns-in_err-reserve
returns-in_err-reserve g c = search rules

pub returns-in_err-reserve-2 : goal.returns-in_err-reserve-2
returns-in_err-reserve-2 g c = search rules

pub returns-then-number-ge-MAX_CHUNKS : goal.returns-then-number-ge-MAX_CHUNKS
returns-then-number-ge-MAX_CHUNKS g c = search rules
