use Rattle.std.proofs.Common.{rules, subst, sym}
use Rattle.std.specs.Prelude.{IfOk, IfSome}
use Rattle.store_core.specs.Offers.{IsOffered}
use Rattle.store_core.specs.StoreStates.{StandsFor, StoreState}
use Rattle.store_core.proofs.OfferSteps.{offered-sound, refused-stands}
use Rattle.store_core.proofs.store.Store.offer.Goals as goal

pub returns : goal.returns
returns g c = record {
  kept = search rules;
  damage = search rules;
  refused = search rules;
  sound = search rules;
  found = search rules;
  new = search rules;
  damaged = search rules;
  too_many = search rules;
  found_unchanged = search rules;
  unchanged = search rules;
  other_files = search rules;
  counts = search rules;
  packed = search rules;
  stands = λ state offered.
      let old = g.F.Shelf.files c.args.shelf.now in
      let now = g.F.Shelf.files c.find_or_append-outcome.new.shelf in
      subst (λ (s : StoreState). IfSome old (λ before. StandsFor g.N.Namer.name_of c.args.self.now before state offered →
      IfOk c.find_or_append-outcome.result (λ i. IsOffered g.N.Namer.name_of state offered c.args.chunk.now i
      (record s { sound = c.stays_sound-self-inside.result }) now)))
      (sym c.self.view_is)
      (offered-sound g.N.Namer.name_of c.args.self.now c.find_or_append-outcome.new.self c.stays_sound-self-inside.result
      state offered c.args.chunk.now old now c.find_or_append-outcome.result (c.find_or_append-outcome.ensures.stands state offered));
  stands_refused = λ state offered.
      let done = c.find_or_append-outcome in
      refused-stands _ g.N.Namer.name_of c.args.self.now (g.F.Shelf.files c.args.shelf.now) c.args.chunk.now done.ensures.some
      state offered done.result done.ensures.refused done.ensures.damaged done.ensures.too_many;
  held = search rules;
  clean = search rules;
}
