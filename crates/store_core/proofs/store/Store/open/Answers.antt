use Rattle.std.proofs.Common.{rules, ◌≤◌, ℕ, List, IfSome, ap, subst, sym, ◌∙◌}
use Rattle.std.specs.List.{All}
use Rattle.sd_base.specs.Opening.{OpenAs, chunk_lengths, needed_sizes}
use Rattle.sd_base.specs.Packing.{container_sizes}
use Rattle.sd_base.specs.declared.limits.TheConstants.{MAX_CHUNK_LEN}
use Rattle.store_core.specs.Containers.{IsFirstShort}
use Rattle.store_core.specs.Heads.{head_state}
use Rattle.store_core.specs.StoreStates.{StoreState}
use Rattle.store_core.proofs.FieldLemmas.{replayed-bounded, replayed-some}
use Rattle.store_core.proofs.Passing.{fault-passed, memory-unfailed, reads-as, reads-then}
use Rattle.store_core.proofs.StoreLemmas.{committed-damage, container-damage, damaged-passed, head-damage, open-stands, opened-as, same-told, HasBook, HasDamage, HasSizes, Told}
use Rattle.store_core.proofs.store.Store.open.Given as given
use Rattle.store_core.proofs.store.Store.open.Goals as goal

pub returns-in_err-head : goal.returns-in_err-head
returns-in_err-head g c = record {
  opened = search rules;
  no_store = search rules;
  damaged = λ damage is.
      head-damage (g.F.Shelf.files c.args.shelf.now) damage
      (c.in_err-head.ensures.damaged damage (damaged-passed c.in_err-head.field-0.0 c.from_residual.result damage is c.from_residual.ensures.1));
  refused = search rules;
  kind = search rules;
  fresh = search rules;
  recipes = search rules;
  none_empty = search rules;
  bounded = search rules;
  stands = search rules;
  reads = reads-as (fault-passed c.in_err-head.field-0.0 c.from_residual.result c.from_residual.ensures.1) c.in_err-head.ensures.reads;
}

pub returns-in_err-book : goal.returns-in_err-book
returns-in_err-book g c = record {
  opened = search rules;
  no_store = search rules;
  damaged = λ damage is.
      let told = g.F.Shelf.files c.args.shelf.now in
      let found = c.in_err-book.ensures.damaged damage (damaged-passed c.in_err-book.field-0.0 c.from_residual-in_err-book.result damage is c.from_residual-in_err-book.ensures.1) in
      let same = same-told told (g.F.Shelf.files c.read_head.new.shelf) c.in_ok-head.ensures.reads.same_files in
      committed-damage told (head_state c.in_ok-head.head) damage c.in_ok-head.ensures.head
      (subst (λ (files : Told). IfSome files (HasDamage (head_state c.in_ok-head.head) damage)) same found);
  refused = search rules;
  kind = search rules;
  fresh = search rules;
  recipes = search rules;
  none_empty = search rules;
  bounded = search rules;
  stands = search rules;
  reads = reads-then c.in_ok-head.ensures.reads
      (reads-as (fault-passed c.in_err-book.field-0.0 c.from_residual-in_err-book.result c.from_residual-in_err-book.ensures.1) c.in_err-book.ensures.reads);
}

pub returns-in_err-check_containers : goal.returns-in_err-check_containers
returns-in_err-check_containers g c = record {
  opened = search rules;
  no_store = search rules;
  damaged = λ damage is.
      let found = c.in_err-check_containers.ensures.damaged damage (damaged-passed c.in_err-check_containers.field-0.0 c.from_residual-in_err-check_containers.result damage is c.from_residual-in_err-check_containers.ensures.1) in
      let told = g.F.Shelf.files c.args.shelf.now in
      let head = head_state c.in_ok-head.head in
      let first = same-told told (g.F.Shelf.files c.read_head.new.shelf) c.in_ok-head.ensures.reads.same_files in
      let second = same-told (g.F.Shelf.files c.read_head.new.shelf) (g.F.Shelf.files c.read_book.new.shelf) c.in_ok-book.ensures.reads.same_files in
      let sizes = ap container_sizes (c.deref.ensures.value ∙ c.in_ok-lengths.ensures.lengths) in
      container-damage told head c.in_ok-book.book damage c.in_ok-head.ensures.head
      (subst (λ (files : Told). IfSome files (HasBook head c.in_ok-book.book)) first c.in_ok-book.ensures.committed)
      (subst (λ (files : Told). IfSome files (λ f. IsFirstShort f c.in_ok-head.head.generation (needed_sizes c.in_ok-book.book) damage)) (second ∙ first)
      (subst (λ (ns : List ℕ). IfSome (g.F.Shelf.files c.read_book.new.shelf) (λ f. IsFirstShort f c.in_ok-head.head.generation ns damage)) sizes found));
  refused = search rules;
  kind = search rules;
  fresh = search rules;
  recipes = search rules;
  none_empty = search rules;
  bounded = search rules;
  stands = search rules;
  reads = reads-then (reads-then c.in_ok-head.ensures.reads c.in_ok-book.ensures.reads)
      (reads-as (fault-passed c.in_err-check_containers.field-0.0 c.from_residual-in_err-check_containers.result c.from_residual-in_err-check_containers.ensures.1) c.in_err-check_containers.ensures.reads);
}

pub opened_store-requires-clause-none_empty : goal.opened_store-requires-clause-none_empty
opened_store-requires-clause-none_empty g c = λ κs live.
    let replay = c.in_ok-book.ensures.replayed in
    subst (λ (ns : List ℕ). All (λ n. 1 ≤ n) ns) (sym (c.deref-2.ensures.value ∙ c.in_ok-lengths.ensures.lengths))
    (replayed-some c.in_ok-head.head.params.max replay.0 replay.1 c.in_ok-book.book replay.2)

pub opened_store-requires-clause-bounded : goal.opened_store-requires-clause-bounded
opened_store-requires-clause-bounded g c = λ κs live.
    let replay = c.in_ok-book.ensures.replayed in
    subst (λ (ns : List ℕ). All (λ n. n ≤ MAX_CHUNK_LEN) ns) (sym (c.deref-2.ensures.value ∙ c.in_ok-lengths.ensures.lengths))
    (replayed-bounded c.in_ok-head.head.params.max replay.0 replay.1 c.in_ok-book.book replay.2)

-- what the files opened as
opens : (g : given.Over) (c : goal.After-drop-lengths-2 g) → IfSome (g.F.Shelf.files c.args.shelf.now)
    (λ files. OpenAs files (record { head = head_state c.in_ok-head.head; book = c.in_ok-book.book }))
opens g c =
    let told = g.F.Shelf.files c.args.shelf.now in
    let head = head_state c.in_ok-head.head in
    let first = same-told told (g.F.Shelf.files c.read_head.new.shelf) c.in_ok-head.ensures.reads.same_files in
    let second = same-told (g.F.Shelf.files c.read_head.new.shelf) (g.F.Shelf.files c.read_book.new.shelf) c.in_ok-book.ensures.reads.same_files in
    let sizes = ap container_sizes (c.deref.ensures.value ∙ c.in_ok-lengths.ensures.lengths) in
    opened-as told head c.in_ok-book.book c.in_ok-head.ensures.head
    (subst (λ (files : Told). IfSome files (HasBook head c.in_ok-book.book)) first c.in_ok-book.ensures.committed)
    (subst (λ (files : Told). IfSome files (HasSizes c.in_ok-head.head.generation (needed_sizes c.in_ok-book.book))) (second ∙ first)
    (subst (λ (ns : List ℕ). IfSome (g.F.Shelf.files c.read_book.new.shelf) (HasSizes c.in_ok-head.head.generation ns)) sizes c.in_ok-check_containers.ensures.long_enough))

pub returns : goal.returns
returns g c = record {
  opened = subst (λ (s : StoreState). IfSome (g.F.Shelf.files c.args.shelf.now) (λ files. OpenAs files s.opened))
      (sym c.in_ok-opened_store.ensures.opened) (opens g c);
  no_store = search rules;
  damaged = search rules;
  refused = search rules;
  kind = search rules;
  fresh = search rules;
  recipes = search rules;
  none_empty =
      let replay = c.in_ok-book.ensures.replayed in
      subst (λ (s : StoreState). All (λ n. 1 ≤ n) (chunk_lengths s.opened.book)) (sym c.in_ok-opened_store.ensures.opened)
      (replayed-some c.in_ok-head.head.params.max replay.0 replay.1 c.in_ok-book.book replay.2);
  bounded =
      let replay = c.in_ok-book.ensures.replayed in
      subst (λ (s : StoreState). All (λ n. n ≤ MAX_CHUNK_LEN) (chunk_lengths s.opened.book)) (sym c.in_ok-opened_store.ensures.opened)
      (replayed-bounded c.in_ok-head.head.params.max replay.0 replay.1 c.in_ok-book.book replay.2);
  stands = λ state.
      let namer = g.met.N.Namer g.world.𝓛 g.world.𝓜 g.world.𝓡 ((λ s x. x), (λ x. x), (λ x. x), λ x. x) in
      let told = g.F.Shelf.files c.args.shelf.now in
      let first = same-told told (g.F.Shelf.files c.read_head.new.shelf) c.in_ok-head.ensures.reads.same_files in
      let second = same-told (g.F.Shelf.files c.read_head.new.shelf) (g.F.Shelf.files c.read_book.new.shelf) c.in_ok-book.ensures.reads.same_files in
      let third = same-told (g.F.Shelf.files c.read_book.new.shelf) (g.F.Shelf.files c.check_containers.new.shelf) c.in_ok-check_containers.ensures.reads.same_files in
      open-stands g.N.Namer.name_of told (g.F.Shelf.files c.check_containers.new.shelf) state c.in_ok-opened_store.field-0
      (record { head = head_state c.in_ok-head.head; book = c.in_ok-book.book }) namer.whole
      c.in_ok-opened_store.ensures.opened (third ∙ second ∙ first) (opens g c);
  reads = reads-as (λ is. absurd cc) (reads-then (reads-then c.in_ok-head.ensures.reads c.in_ok-book.ensures.reads) c.in_ok-check_containers.ensures.reads);
}

pub returns-in_err-lengths : goal.returns-in_err-lengths
returns-in_err-lengths g c = record {
  opened = search rules;
  no_store = search rules;
  damaged = search rules;
  refused = search rules;
  kind = search rules;
  fresh = search rules;
  recipes = search rules;
  none_empty = search rules;
  bounded = search rules;
  stands = search rules;
  reads = reads-as (λ is. absurd (memory-unfailed c.from_residual-in_err-lengths.result c.from_residual-in_err-lengths.ensures.1 is)) (reads-then c.in_ok-head.ensures.reads c.in_ok-book.ensures.reads);
}

pub returns-in_err-opened_store : goal.returns-in_err-opened_store
returns-in_err-opened_store g c = record {
  opened = search rules;
  no_store = search rules;
  damaged = search rules;
  refused = search rules;
  kind = search rules;
  fresh = search rules;
  recipes = search rules;
  none_empty = search rules;
  bounded = search rules;
  stands = search rules;
  reads = reads-as (λ is. absurd (memory-unfailed c.from_residual-in_err-opened_store.result c.from_residual-in_err-opened_store.ensures.1 is)) (reads-then (reads-then c.in_ok-head.ensures.reads c.in_ok-book.ensures.reads) c.in_ok-check_containers.ensures.reads);
}
