use Rattle.std.proofs.Common.{◌≡◌, inr, ◌++◌, ◌∷◌, ◌∙◌, Global, Vec, ℕ, ◌+◌, ◌<◌, List, [], ap, drop, length, refl, sym, subst, arith}
use Rattle.std.proofs.lemmas.List.{drop_all, get_or_read}
use Rattle.std.specs.Prelude.{IfSome, OnErr, Result, slice_index_or}
use Rattle.sd_base.specs.Cutting.{chunks_of}
use Rattle.sd_base.specs.declared.file.File.TheVariants.{Head}
use Rattle.sd_base.specs.Distinct.{first_index}
use Rattle.store_core.specs.Shelves.{CountsFaults}
use Rattle.store_core.specs.StoreStates.{StandsFor}
use Rattle.store_core.specs.declared.fault.StoreFault.{StoreFault}
use Rattle.store_core.specs.declared.fault.StoreFault.TheVariants.{OutOfMemory}
use Rattle.ingest_core.specs.Offering.{AreRefused, OnlyRefuses}
use Rattle.ingest_core.proofs.FaultLemmas.{counts-as, counts-none, counts-on, err-is, err-of, memory-fails, memory-no-fault, ok-not, passed-is}
use Rattle.ingest_core.proofs.PartLemmas.{IsPart, offer-refuses, part-all, part-at, part-here, part-next, part-none, part-refused, part-repeat, part-same, part-stopped}
use Rattle.store_core.proofs.StoreLemmas.{if_told}
use Rattle.ingest_core.proofs.offering.offer_all.Goals as goal
use Rattle.ingest_core.proofs.offering.offer_all.Goals.{then-leader-place, else-leader-place+in_ok-number}

pub loop-cut-init : goal.loop-cut-init
loop-cut-init g c =
    let store = c.args.store.now in
    let files = g.F.Shelf.files c.args.shelf.now in
    let input = c.args.input.now in
    record {
      counts = counts-none _ _ _ _ (λ is. is);
      part = subst (λ (recipe : List ℕ).
          IsPart g.N.Namer.name_of input (chunks_of store.opened.head.params input) 0 c.args.cuts.now recipe store store files files)
          (sym c.in_ok-recipe.ensures.items)
          (part-none g.N.Namer.name_of store.opened.head.params input c.args.cuts.now store files refl c.requires.valid
          c.requires.cuts c.requires.none c.requires.sound);
    }

pub returns-in_err-recipe-clause-offered : goal.returns-in_err-recipe-clause-offered
returns-in_err-recipe-clause-offered g c = rw (passed-is OutOfMemory c.from_residual.result c.from_residual.ensures.1) tt

pub returns-in_err-recipe-clause-refused : goal.returns-in_err-recipe-clause-refused
returns-in_err-recipe-clause-refused g c =
    rw (passed-is OutOfMemory c.from_residual.result c.from_residual.ensures.1) (inr (inr (inr refl)))

pub returns-in_err-recipe-clause-head : goal.returns-in_err-recipe-clause-head
returns-in_err-recipe-clause-head g c = rw (passed-is OutOfMemory c.from_residual.result c.from_residual.ensures.1) tt

pub returns-in_err-recipe-clause-stands : goal.returns-in_err-recipe-clause-stands
returns-in_err-recipe-clause-stands g c = λ state. if_told (g.F.Shelf.files c.args.shelf.now) (λ files stands.
    rw (passed-is OutOfMemory c.from_residual.result c.from_residual.ensures.1) tt)

pub returns-in_err-recipe-clause-stands_refused : goal.returns-in_err-recipe-clause-stands_refused
returns-in_err-recipe-clause-stands_refused g c = λ state.
    let name_of = g.N.Namer.name_of in
    let first = c.args.store.now in
    let input = c.args.input.now in
    let cuts = c.args.cuts.now in
    let chunks = chunks_of first.opened.head.params input in
    let told = g.F.Shelf.files c.args.shelf.now in
    let result = c.from_residual.result in
    part-stopped name_of input chunks 0 cuts [] first first told told
    (part-none name_of first.opened.head.params input cuts first told refl c.requires.valid c.requires.cuts c.requires.none c.requires.sound)
    chunks (Vec ℕ Global) result (memory-fails result c.from_residual.ensures.1) state

pub returns-in_err-recipe-clause-counts : goal.returns-in_err-recipe-clause-counts
returns-in_err-recipe-clause-counts g c = counts-none _ _ _ _ (λ is.
    memory-no-fault (err-is (sym (passed-is OutOfMemory c.from_residual.result c.from_residual.ensures.1) ∙ is)))

pub returns-in_err-number-clause-counts : goal.returns-in_err-number-clause-counts
returns-in_err-number-clause-counts g c =
    let fault = c.in_err-number.field-0.0 in
    let gave = passed-is fault c.from_residual-in_err-number.result c.from_residual-in_err-number.ensures.1 in
    counts-as (λ is. c.in_err-number.was ∙ err-of _ (err-is (sym gave ∙ is)))
    (counts-on ⊥ _ g.F.Shelf.faults g.F.Shelf.faultless c.args.shelf.now c.loop-cut.shelf c.offer.new.shelf
    c.loop-cut.invariant.counts c.offer.ensures.counts)

pub returns-in_err-number-clause-refused : goal.returns-in_err-number-clause-refused
returns-in_err-number-clause-refused g c =
    let fault = c.in_err-number.field-0.0 in
    subst (λ (q : Result (Vec ℕ Global) StoreFault). OnErr q (OnlyRefuses q))
    (sym (passed-is fault c.from_residual-in_err-number.result c.from_residual-in_err-number.ensures.1))
    (offer-refuses (Vec ℕ Global) c.loop-cut.store _ c.offer.result fault c.in_err-number.was c.offer.ensures.refused
    c.offer.ensures.damage)

pub returns-in_err-number-clause-stands_refused : goal.returns-in_err-number-clause-stands_refused
returns-in_err-number-clause-stands_refused g c = λ state.
    let name_of = g.N.Namer.name_of in
    let fault = c.in_err-number.field-0.0 in
    let input = c.args.input.now in
    let first = c.args.store.now in
    let chunks = chunks_of first.opened.head.params input in
    let before = g.F.Shelf.files c.args.shelf.now in
    let mid = g.F.Shelf.files c.loop-cut.shelf in
    let after = g.F.Shelf.files c.offer.new.shelf in
    let k = c.loop-cut.cut-index in
    let cut = slice_index_or c.args.cuts.now k 0 in
    let left = drop (k + 1) c.args.cuts.now in
    let start = c.loop-cut.start in
    let recipe = c.loop-cut.recipe.items in
    let part = part-here c.args.cuts.now k (omega (arith, c.loop-cut-test.true)) c.loop-cut.invariant.part in
    subst (λ (q : Result (Vec ℕ Global) StoreFault). IfSome before (λ files. StandsFor name_of first files state [] →
    OnErr q (AreRefused name_of state chunks after q)))
    (sym (passed-is fault c.from_residual-in_err-number.result c.from_residual-in_err-number.ensures.1))
    (part-refused name_of input chunks start cut left recipe first c.loop-cut.store before mid part after (Vec ℕ Global)
    c.offer.result fault c.in_err-number.was (λ state offered. c.offer.ensures.held state offered)
    c.offer.ensures.stands_refused state)

pub bounds-leaders-place : goal.bounds-leaders-place
bounds-leaders-place g c =
    let name_of = g.N.Namer.name_of in
    let input = c.args.input.now in
    let first = c.args.store.now in
    let chunks = chunks_of first.opened.head.params input in
    let before = g.F.Shelf.files c.args.shelf.now in
    let mid = g.F.Shelf.files c.loop-cut.shelf in
    let k = c.loop-cut.cut-index in
    let cut = slice_index_or c.args.cuts.now k 0 in
    let left = drop (k + 1) c.args.cuts.now in
    let start = c.loop-cut.start in
    let recipe = c.loop-cut.recipe.items in
    let part = part-here c.args.cuts.now k (omega (arith, c.loop-cut-test.true)) c.loop-cut.invariant.part in
    let below = (part-at name_of input chunks start cut left recipe first c.loop-cut.store before mid part (first_index chunks) 0
    c.args.leaders.now c.requires.leaders).0 in
    omega (arith, below, c.len-place.ensures, c.loop-cut.recipe.ok)

pub returns-in_err-number-clause-offered : goal.returns-in_err-number-clause-offered
returns-in_err-number-clause-offered g c =
    rw (passed-is c.in_err-number.field-0.0 c.from_residual-in_err-number.result c.from_residual-in_err-number.ensures.1) tt

pub returns-in_err-number-clause-head : goal.returns-in_err-number-clause-head
returns-in_err-number-clause-head g c =
    rw (passed-is c.in_err-number.field-0.0 c.from_residual-in_err-number.result c.from_residual-in_err-number.ensures.1) tt

pub returns-in_err-number-clause-stands : goal.returns-in_err-number-clause-stands
returns-in_err-number-clause-stands g c = λ state. if_told (g.F.Shelf.files c.args.shelf.now) (λ files stands.
    rw (passed-is c.in_err-number.field-0.0 c.from_residual-in_err-number.result c.from_residual-in_err-number.ensures.1) tt)

pub slice_bounds-chunk-count : goal.slice_bounds-chunk-count
slice_bounds-chunk-count g c =
    let part = part-here c.args.cuts.now c.loop-cut.cut-index (omega (arith, c.loop-cut-test.true)) c.loop-cut.invariant.part in
    omega (arith, part.rise.0)

pub slice_bounds-chunk-start : goal.slice_bounds-chunk-start
slice_bounds-chunk-start g c =
    let part = part-here c.args.cuts.now c.loop-cut.cut-index (omega (arith, c.loop-cut-test.true)) c.loop-cut.invariant.part in
    omega (arith, part.rise.0, part.rise.1)

pub slice_bounds-chunk-end : goal.slice_bounds-chunk-end
slice_bounds-chunk-end g c =
    let part = part-here c.args.cuts.now c.loop-cut.cut-index (omega (arith, c.loop-cut-test.true)) c.loop-cut.invariant.part in
    part.rise.1

pub bounds-names-place : goal.bounds-names-place
bounds-names-place g c =
    let cuts = c.args.cuts.now in
    let k = c.loop-cut.cut-index in
    let input = c.args.input.now in
    let first = c.args.store.now in
    let name_of = g.N.Namer.name_of in
    let part = part-here cuts k (omega (arith, c.loop-cut-test.true)) c.loop-cut.invariant.part in
    let below = (part-at name_of input (chunks_of first.opened.head.params input) c.loop-cut.start (slice_index_or cuts k 0)
    (drop (k + 1) cuts) c.loop-cut.recipe.items first c.loop-cut.store (g.F.Shelf.files c.args.shelf.now)
    (g.F.Shelf.files c.loop-cut.shelf) part name_of [] c.args.names.now c.requires.names).0 in
    omega (arith, below, c.len-place.ensures, c.loop-cut.recipe.ok)

pub offer-requires-clause-named : goal.offer-requires-clause-named
offer-requires-clause-named g c = λ κs lives.
    let cuts = c.args.cuts.now in
    let k = c.loop-cut.cut-index in
    let input = c.args.input.now in
    let first = c.args.store.now in
    let name_of = g.N.Namer.name_of in
    let names = c.args.names.now in
    let recipe = c.loop-cut.recipe.items in
    let part = part-here cuts k (omega (arith, c.loop-cut-test.true)) c.loop-cut.invariant.part in
    let place : c.len-place.result ≡ length recipe = omega (arith, c.len-place.ensures, c.loop-cut.recipe.ok) in
    ap (λ (n : ℕ). slice_index_or names n []) place
    ∙ (part-at name_of input (chunks_of first.opened.head.params input) c.loop-cut.start (slice_index_or cuts k 0)
    (drop (k + 1) cuts) recipe first c.loop-cut.store (g.F.Shelf.files c.args.shelf.now)
    (g.F.Shelf.files c.loop-cut.shelf) part name_of [] names c.requires.names).1

pub offer-requires-clause-not_empty : goal.offer-requires-clause-not_empty
offer-requires-clause-not_empty g c = λ κs lives.
    let part = part-here c.args.cuts.now c.loop-cut.cut-index (omega (arith, c.loop-cut-test.true)) c.loop-cut.invariant.part in
    part.fit.0.0

pub offer-requires-clause-bounded : goal.offer-requires-clause-bounded
offer-requires-clause-bounded g c = λ κs lives.
    let part = part-here c.args.cuts.now c.loop-cut.cut-index (omega (arith, c.loop-cut-test.true)) c.loop-cut.invariant.part in
    omega (arith, part.fit.0.1, c.requires.valid.max)

pub returns-in_err-push-clause-offered : goal.returns-in_err-push-clause-offered
returns-in_err-push-clause-offered g c =
    rw (passed-is OutOfMemory c.from_residual-in_err-push.result c.from_residual-in_err-push.ensures.1) tt

pub returns-in_err-push-clause-head : goal.returns-in_err-push-clause-head
returns-in_err-push-clause-head g c =
    rw (passed-is OutOfMemory c.from_residual-in_err-push.result c.from_residual-in_err-push.ensures.1) tt

pub returns-in_err-push-clause-stands : goal.returns-in_err-push-clause-stands
returns-in_err-push-clause-stands g c = λ state. if_told (g.F.Shelf.files c.args.shelf.now) (λ files stands.
    rw (passed-is OutOfMemory c.from_residual-in_err-push.result c.from_residual-in_err-push.ensures.1) tt)

pub loop-cut-preserved : goal.loop-cut-preserved
loop-cut-preserved g c =
    let name_of = g.N.Namer.name_of in
    let input = c.args.input.now in
    let first = c.args.store.now in
    let chunks = chunks_of first.opened.head.params input in
    let before = g.F.Shelf.files c.args.shelf.now in
    let mid = g.F.Shelf.files c.loop-cut.shelf in
    let k = c.loop-cut.cut-index in
    let cut = slice_index_or c.args.cuts.now k 0 in
    let left = drop (k + 1) c.args.cuts.now in
    let start = c.loop-cut.start in
    let recipe = c.loop-cut.recipe.items in
    let part = part-here c.args.cuts.now k (omega (arith, c.loop-cut-test.true)) c.loop-cut.invariant.part in
    let place : c.len-place.result ≡ length recipe = omega (arith, c.len-place.ensures, c.loop-cut.recipe.ok) in
    let leader = slice_index_or c.args.leaders.now c.len-place.result 0 in
    let after = g.F.Shelf.files c.if-leader-place.shelf in
    elim c.if-leader-place.branch [
      | then-leader-place w ↦
          let inside : leader < length recipe = omega (arith, place, w.if-leader-place.true) in
          let entry = get_or_read recipe leader w.index.result.now inside w.index.ensures 0 in
          record {
            counts = subst (λ shelf. CountsFaults ⊥ g.F.Shelf.faults g.F.Shelf.faultless c.args.shelf.now shelf) (sym w.shelf-is)
                c.loop-cut.invariant.counts;
            part = part-same name_of input chunks cut left (recipe ++ slice_index_or recipe leader 0 ∷ []) first c.loop-cut.store before mid
                (part-repeat name_of input chunks start cut left recipe first c.loop-cut.store before mid part c.args.leaders.now
                leader c.requires.leaders (ap (λ n. slice_index_or c.args.leaders.now n 0) place) inside)
                _ _ _ (c.in_ok-push.ensures.items ∙ ap (λ n. recipe ++ n ∷ []) (w.number-is ∙ entry)) w.store-is
                (ap g.F.Shelf.files w.shelf-is);
          }
      | else-leader-place+in_ok-number w ↦
          record {
            counts = subst (λ shelf. CountsFaults ⊥ g.F.Shelf.faults g.F.Shelf.faultless c.args.shelf.now shelf) (sym w.shelf-is)
                (counts-as (λ is. absurd is) (counts-on ⊥ _ g.F.Shelf.faults g.F.Shelf.faultless c.args.shelf.now c.loop-cut.shelf
                w.offer.new.shelf c.loop-cut.invariant.counts w.offer.ensures.counts));
            part = part-same name_of input chunks cut left (recipe ++ w.in_ok-number.number ∷ []) first w.offer.new.self before
                (g.F.Shelf.files w.offer.new.shelf)
                (part-next name_of input chunks start cut left recipe first c.loop-cut.store before mid part w.offer.new.self
                (g.F.Shelf.files w.offer.new.shelf) _ w.in_ok-number.number w.in_ok-number.ensures.kept
                (w.offer.ensures.other_files Head (λ k is. absurd cc)) (λ state offered. w.in_ok-number.ensures.stands state offered)
                (λ state offered. w.in_ok-number.ensures.clean state offered))
                _ _ _ (c.in_ok-push.ensures.items ∙ ap (λ n. recipe ++ n ∷ []) w.number-is) w.store-is
                (ap g.F.Shelf.files w.shelf-is);
          }
    ]

pub returns-clause-counts : goal.returns-clause-counts
returns-clause-counts g c = counts-as (λ is. absurd (ok-not is)) c.loop-cut.invariant.counts

pub returns-clause-offered : goal.returns-clause-offered
returns-clause-offered g c =
    let first = c.args.store.now in
    let none = drop_all c.loop-cut.cut-index c.args.cuts.now (omega (arith, c.loop-cut-test.false)) in
    (part-all g.N.Namer.name_of c.args.input.now (chunks_of first.opened.head.params c.args.input.now) c.loop-cut.start
    (drop c.loop-cut.cut-index c.args.cuts.now) c.loop-cut.recipe.items first c.loop-cut.store (g.F.Shelf.files c.args.shelf.now)
    (g.F.Shelf.files c.loop-cut.shelf) none c.loop-cut.invariant.part).1

pub returns-clause-head : goal.returns-clause-head
returns-clause-head g c = c.loop-cut.invariant.part.head

pub returns-clause-stands_refused : goal.returns-clause-stands_refused
returns-clause-stands_refused g c = λ state. if_told (g.F.Shelf.files c.args.shelf.now) (λ files stands. tt)

pub returns-clause-stands : goal.returns-clause-stands
returns-clause-stands g c =
    let first = c.args.store.now in
    let none = drop_all c.loop-cut.cut-index c.args.cuts.now (omega (arith, c.loop-cut-test.false)) in
    (part-all g.N.Namer.name_of c.args.input.now (chunks_of first.opened.head.params c.args.input.now) c.loop-cut.start
    (drop c.loop-cut.cut-index c.args.cuts.now) c.loop-cut.recipe.items first c.loop-cut.store (g.F.Shelf.files c.args.shelf.now)
    (g.F.Shelf.files c.loop-cut.shelf) none c.loop-cut.invariant.part).2

pub returns-in_err-push-clause-stands_refused : goal.returns-in_err-push-clause-stands_refused
returns-in_err-push-clause-stands_refused g c = λ state.
    let name_of = g.N.Namer.name_of in
    let input = c.args.input.now in
    let first = c.args.store.now in
    let chunks = chunks_of first.opened.head.params input in
    let before = g.F.Shelf.files c.args.shelf.now in
    let mid = g.F.Shelf.files c.loop-cut.shelf in
    let k = c.loop-cut.cut-index in
    let cut = slice_index_or c.args.cuts.now k 0 in
    let left = drop (k + 1) c.args.cuts.now in
    let start = c.loop-cut.start in
    let recipe = c.loop-cut.recipe.items in
    let part = part-here c.args.cuts.now k (omega (arith, c.loop-cut-test.true)) c.loop-cut.invariant.part in
    let place : c.len-place.result ≡ length recipe = omega (arith, c.len-place.ensures, c.loop-cut.recipe.ok) in
    let leader = slice_index_or c.args.leaders.now c.len-place.result 0 in
    let after = g.F.Shelf.files c.if-leader-place.shelf in
    let result = c.from_residual-in_err-push.result in
    let next : IsPart name_of input chunks cut left (recipe ++ c.if-leader-place.number ∷ []) first c.if-leader-place.store before
    after =
    elim c.if-leader-place.branch [
      | then-leader-place w ↦
          let inside : leader < length recipe = omega (arith, place, w.if-leader-place.true) in
          let entry = get_or_read recipe leader w.index.result.now inside w.index.ensures 0 in
          part-same name_of input chunks cut left (recipe ++ slice_index_or recipe leader 0 ∷ []) first c.loop-cut.store before mid
          (part-repeat name_of input chunks start cut left recipe first c.loop-cut.store before mid part c.args.leaders.now
          leader c.requires.leaders (ap (λ n. slice_index_or c.args.leaders.now n 0) place) inside)
          _ _ _ (ap (λ n. recipe ++ n ∷ []) (w.number-is ∙ entry)) w.store-is (ap g.F.Shelf.files w.shelf-is)
      | else-leader-place+in_ok-number w ↦
          part-same name_of input chunks cut left (recipe ++ w.in_ok-number.number ∷ []) first w.offer.new.self before
          (g.F.Shelf.files w.offer.new.shelf)
          (part-next name_of input chunks start cut left recipe first c.loop-cut.store before mid part w.offer.new.self
          (g.F.Shelf.files w.offer.new.shelf) _ w.in_ok-number.number w.in_ok-number.ensures.kept
          (w.offer.ensures.other_files Head (λ k is. absurd cc)) (λ state offered. w.in_ok-number.ensures.stands state offered)
          (λ state offered. w.in_ok-number.ensures.clean state offered))
          _ _ _ (ap (λ n. recipe ++ n ∷ []) w.number-is) w.store-is (ap g.F.Shelf.files w.shelf-is)
    ] in
    part-stopped name_of input chunks cut left (recipe ++ c.if-leader-place.number ∷ []) first c.if-leader-place.store before after
    next chunks (Vec ℕ Global) result (memory-fails result c.from_residual-in_err-push.ensures.1) state
