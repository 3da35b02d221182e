use Rattle.std.proofs.Common.{rules, ℕ, length, subst}
use Rattle.std.specs.Prelude.{IfSome, MatchOption, Option}
use Rattle.store_core.specs.Offers.{IsLeastSame, IsNewBelow}
use Rattle.store_core.specs.StoreStates.{chunks_of_store}
use Rattle.store_core.proofs.CleanSteps.{OnlyContainers, PacksOneMore, StillPacked, as-before, clean-found, clean-new, held-after, held-same}
use Rattle.store_core.proofs.OfferSteps.{offered-found, offered-new, packed-passed}
use Rattle.store_core.proofs.store.Store.find_or_append.Given as given
use Rattle.store_core.proofs.store.Store.find_or_append.Goals as goal

pub returns-in-Some : goal.returns-in-Some
returns-in-Some g c = record {
  some = search rules;
  kept = search rules;
  damage = search rules;
  refused = search rules;
  found = search rules;
  new = search rules;
  damaged = search rules;
  too_many = search rules;
  found_unchanged = search rules;
  unchanged = search rules;
  packed = search rules;
  other_files = search rules;
  counts = search rules;
  stands = λ state offered.
      let store = c.args.self.now in
      offered-found g.N.Namer.name_of store c.find_chunk.new.self (g.F.Shelf.files c.args.shelf.now)
      (g.F.Shelf.files c.find_chunk.new.shelf) c.args.chunk.now c.find_chunk.ensures.some state offered c.in-Some.number
      c.find_chunk.ensures.unchanged c.find_chunk.ensures.reads.same_files
      (subst (λ (found : Option ℕ). IfSome (g.F.Shelf.files c.args.shelf.now) (λ files. MatchOption found
      (IsNewBelow g.N.Namer.name_of files store c.args.chunk.now (length (chunks_of_store store)))
      (IsLeastSame g.N.Namer.name_of files store c.args.chunk.now))) c.in-Some.is c.in_ok-number.ensures.least);
  held = λ state offered.
      held-same g.N.Namer.name_of c.args.self.now state offered (g.F.Shelf.files c.args.shelf.now)
      (g.F.Shelf.files c.find_chunk.new.shelf) c.find_chunk.ensures.reads.same_files;
  clean = λ state offered.
      let store = c.args.self.now in
      clean-found g.N.Namer.name_of store state offered c.args.chunk.now c.find_chunk.ensures.some c.in-Some.number
      (g.F.Shelf.files c.args.shelf.now) (g.F.Shelf.files c.find_chunk.new.shelf) c.find_chunk.ensures.reads.same_files
      (subst (λ (found : Option ℕ). IfSome (g.F.Shelf.files c.args.shelf.now) (λ files. MatchOption found
      (IsNewBelow g.N.Namer.name_of files store c.args.chunk.now (length (chunks_of_store store)))
      (IsLeastSame g.N.Namer.name_of files store c.args.chunk.now))) c.in-Some.is c.in_ok-number.ensures.least);
}

-- ---- what is left of the files

pub returns-in_err-number : goal.returns-in_err-number
returns-in_err-number g c = record {
  some = search rules;
  kept = search rules;
  damage = search rules;
  refused = search rules;
  found = search rules;
  new = search rules;
  damaged = search rules;
  too_many = search rules;
  found_unchanged = search rules;
  unchanged = search rules;
  packed = search rules;
  other_files = search rules;
  counts = search rules;
  stands = search rules;
  held = λ state offered.
      held-same g.N.Namer.name_of c.args.self.now state offered (g.F.Shelf.files c.args.shelf.now)
      (g.F.Shelf.files c.find_chunk.new.shelf) c.find_chunk.ensures.reads.same_files;
  clean = search rules;
}

-- what the append says, of the store and its files before the search
others-of : (g : given.Over) (c : goal.After-append_chunk g) →
    OnlyContainers c.args.self.now (g.F.Shelf.files c.args.shelf.now) (g.F.Shelf.files c.append_chunk.new.shelf)
others-of g c =
    as-before OnlyContainers c.args.self.now c.find_chunk.new.self (g.F.Shelf.files c.args.shelf.now)
    (g.F.Shelf.files c.find_chunk.new.shelf) (g.F.Shelf.files c.append_chunk.new.shelf) c.find_chunk.ensures.unchanged
    c.find_chunk.ensures.reads.same_files c.append_chunk.ensures.other_files

pub returns : goal.returns
returns g c = record {
  some = search rules;
  kept = search rules;
  damage = search rules;
  refused = search rules;
  found = search rules;
  new = search rules;
  damaged = search rules;
  too_many = search rules;
  found_unchanged = search rules;
  unchanged = search rules;
  packed =
      packed-passed c.args.self.now c.find_chunk.new.self (g.F.Shelf.files c.args.shelf.now) (g.F.Shelf.files c.find_chunk.new.shelf)
      (g.F.Shelf.files c.append_chunk.new.shelf) c.args.chunk.now c.find_chunk.ensures.unchanged c.find_chunk.ensures.reads.same_files
      c.append_chunk.result c.append_chunk.ensures.packed;
  other_files = search rules;
  counts = search rules;
  stands = λ state offered.
      let store = c.args.self.now in
      offered-new g.N.Namer.name_of store c.find_chunk.new.self c.append_chunk.new.self (g.F.Shelf.files c.args.shelf.now)
      (g.F.Shelf.files c.find_chunk.new.shelf) (g.F.Shelf.files c.append_chunk.new.shelf) c.args.chunk.now c.args.name.now
      c.requires.named c.find_chunk.ensures.unchanged c.find_chunk.ensures.reads.same_files c.find_chunk.ensures.some state offered
      c.append_chunk.result c.append_chunk.ensures.number c.append_chunk.ensures.added c.append_chunk.ensures.packed c.append_chunk.ensures.other_files
      (subst (λ (found : Option ℕ). IfSome (g.F.Shelf.files c.args.shelf.now) (λ files. MatchOption found
      (IsNewBelow g.N.Namer.name_of files store c.args.chunk.now (length (chunks_of_store store)))
      (IsLeastSame g.N.Namer.name_of files store c.args.chunk.now))) c.in_default.is c.in_ok-number.ensures.least);
  held = λ state offered.
      let old = g.F.Shelf.files c.args.shelf.now in
      let now = g.F.Shelf.files c.append_chunk.new.shelf in
      held-after g.N.Namer.name_of c.args.self.now state offered old now
      (as-before StillPacked c.args.self.now c.find_chunk.new.self old (g.F.Shelf.files c.find_chunk.new.shelf) now
      c.find_chunk.ensures.unchanged c.find_chunk.ensures.reads.same_files c.append_chunk.ensures.still_packed)
      (others-of g c);
  clean = λ state offered.
      let store = c.args.self.now in
      let old = g.F.Shelf.files c.args.shelf.now in
      let now = g.F.Shelf.files c.append_chunk.new.shelf in
      clean-new g.N.Namer.name_of store state offered c.args.chunk.now c.find_chunk.ensures.some c.append_chunk.result old now
      (subst (λ (found : Option ℕ). IfSome old (λ files. MatchOption found
      (IsNewBelow g.N.Namer.name_of files store c.args.chunk.now (length (chunks_of_store store)))
      (IsLeastSame g.N.Namer.name_of files store c.args.chunk.now))) c.in_default.is c.in_ok-number.ensures.least)
      (as-before (PacksOneMore c.args.chunk.now c.append_chunk.result) store c.find_chunk.new.self old
      (g.F.Shelf.files c.find_chunk.new.shelf) now c.find_chunk.ensures.unchanged c.find_chunk.ensures.reads.same_files
      c.append_chunk.ensures.exact)
      (others-of g c);
}
