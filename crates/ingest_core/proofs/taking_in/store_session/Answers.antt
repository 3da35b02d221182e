use Rattle.std.proofs.Common.{Some, ◌≡◌, List, ℕ, [], Vec, Global, IfSome, length, ap, arith, refl, sym, subst, ◌∙◌}
use Rattle.std.specs.Prelude.{◌⊎◌, ◌-◌, IfErr, OnErr, Result}
use Rattle.sd_base.specs.Books.{BookState, bytes_named, chunks_in}
use Rattle.sd_base.specs.Cutting.{chunks_between, chunks_of, cuts_of}
use Rattle.sd_base.specs.Opening.{Opened}
use Rattle.sd_base.specs.Parameters.{IsValid}
use Rattle.sd_base.specs.declared.raw_params.RawParams.{RawParams}
use Rattle.sd_base.specs.States.{IsCutting}
use Rattle.ingest_core.proofs.FaultLemmas.{counts-as, counts-none, counts-on, err-is, err-of, memory-not-places, memory-not-shelf, offers-of-chunks, ok-not, only_fails, passed-holds, passed-is, store-is}
use Rattle.ingest_core.proofs.Refusals.{count-between}
use Rattle.sd_base.specs.declared.file.File.TheVariants.{Head}
use Rattle.sd_base.proofs.Covering.{concat-chunks_of}
use Rattle.sd_base.proofs.Rising.{RiseWithin-cuts_of}
use Rattle.sd_base.specs.Cutting.{RiseWithin}
use Rattle.sd_base.specs.Stores.{AreClean, HoldState}
use Rattle.store_core.specs.CleanFiles.{AreCleanWith}
use Rattle.store_core.specs.Commits.{committed_state, committed_store, early_refusal, recipe_chunks, session_record}
use Rattle.store_core.specs.StoreStates.{StandsFor, chunks_of_store}
use Rattle.store_core.specs.declared.fault.StoreFault.{StoreFault}
use Rattle.store_core.specs.declared.fault.StoreFault.TheVariants.{OutOfMemory}
use Rattle.store_core.proofs.StoreLemmas.{told_map}
use Rattle.shard_plan.proofs.Chunks.{named_by_function}
use Rattle.shard_plan.specs.Leaders.{leaders_of}
use Rattle.ingest_core.specs.Faults.{Fails, IsOfChunks}
use Rattle.ingest_core.specs.Ingests.{Ends, IngestsInto}
use Rattle.ingest_core.specs.Offering.{AreRefused, OnlyRefuses}
use Rattle.ingest_core.specs.declared.fault.IngestFault.TheVariants.{Store}
use Rattle.ingest_core.proofs.TakingLemmas.{chunks-committed, fail-into, fails, few-offered, late-fails, mid-no_early, no-chunks, ok-into, unnamed}
use Rattle.ingest_core.proofs.taking_in.store_session.Goals as goal

-- the cuts of an input rise within it
cuts-rise : (params : RawParams) (input cuts : List ℕ) → IsValid params → cuts ≡ cuts_of params input →
    RiseWithin 0 (length input) cuts
cuts-rise params input cuts valid are =
    let min = valid.min in
    subst (RiseWithin 0 (length input)) (sym are) (RiseWithin-cuts_of params input (omega (arith, min)) valid.max.0)

pub name_all-requires-clause-rise : goal.name_all-requires-clause-rise
name_all-requires-clause-rise g c = λ κs lives.
    cuts-rise c.args.store.now.opened.head.params c.args.input.now c.args.cuts.now c.requires.valid c.requires.cuts

pub leaders_of_text-requires-clause-rise : goal.leaders_of_text-requires-clause-rise
leaders_of_text-requires-clause-rise g c = λ κs lives.
    cuts-rise c.args.store.now.opened.head.params c.args.input.now c.args.cuts.now c.requires.valid c.requires.cuts

pub leaders_of_text-requires-clause-named : goal.leaders_of_text-requires-clause-named
leaders_of_text-requires-clause-named g c = λ κs lives.
    named_by_function g.N.Namer.name_of (chunks_between c.args.input.now 0 c.args.cuts.now) c.deref.result.now
    (c.deref.ensures.value ∙ c.in_ok-names.ensures.names)

pub offer_all-requires-clause-leaders : goal.offer_all-requires-clause-leaders
offer_all-requires-clause-leaders g c = λ κs lives.
    c.deref-3.ensures.value ∙ c.in_ok-leaders.ensures.leaders ∙ ap (λ cs. leaders_of (chunks_between c.args.input.now 0 cs)) c.requires.cuts

pub returns-in_err-names-clause-numbers : goal.returns-in_err-names-clause-numbers
returns-in_err-names-clause-numbers g c = rw (passed-is (Store OutOfMemory) c.from_residual.result c.from_residual.ensures.1) tt

pub returns-in_err-names-clause-refused : goal.returns-in_err-names-clause-refused
returns-in_err-names-clause-refused g c =
    passed-holds IsOfChunks c.from_residual.result (Store OutOfMemory) c.from_residual.ensures.1 tt

pub returns-in_err-names-clause-places : goal.returns-in_err-names-clause-places
returns-in_err-names-clause-places g c = λ is.
    memory-not-places (err-is (sym (passed-is (Store OutOfMemory) c.from_residual.result c.from_residual.ensures.1) ∙ is))

pub returns-in_err-names-clause-counts : goal.returns-in_err-names-clause-counts
returns-in_err-names-clause-counts g c = counts-none _ _ _ _ (λ is.
    memory-not-shelf (err-is (sym (passed-is (Store OutOfMemory) c.from_residual.result c.from_residual.ensures.1) ∙ is)))

pub returns-in_err-leaders-clause-numbers : goal.returns-in_err-leaders-clause-numbers
returns-in_err-leaders-clause-numbers g c =
    rw (passed-is (Store OutOfMemory) c.from_residual-in_err-leaders.result c.from_residual-in_err-leaders.ensures.1) tt

pub returns-in_err-leaders-clause-refused : goal.returns-in_err-leaders-clause-refused
returns-in_err-leaders-clause-refused g c =
    passed-holds IsOfChunks c.from_residual-in_err-leaders.result (Store OutOfMemory) c.from_residual-in_err-leaders.ensures.1 tt

pub returns-in_err-leaders-clause-places : goal.returns-in_err-leaders-clause-places
returns-in_err-leaders-clause-places g c = λ is.
    let gave = passed-is (Store OutOfMemory) c.from_residual-in_err-leaders.result c.from_residual-in_err-leaders.ensures.1 in
    memory-not-places (err-is (sym gave ∙ is))

pub returns-in_err-leaders-clause-counts : goal.returns-in_err-leaders-clause-counts
returns-in_err-leaders-clause-counts g c = counts-none _ _ _ _ (λ is.
    let gave = passed-is (Store OutOfMemory) c.from_residual-in_err-leaders.result c.from_residual-in_err-leaders.ensures.1 in
    memory-not-shelf (err-is (sym gave ∙ is)))

pub returns-in_err-recipe-clause-numbers : goal.returns-in_err-recipe-clause-numbers
returns-in_err-recipe-clause-numbers g c =
    rw (passed-is (Store c.in_err-recipe.field-0.0) c.from_residual-in_err-recipe.result c.from_residual-in_err-recipe.ensures.1) tt

pub returns-in_err-recipe-clause-refused : goal.returns-in_err-recipe-clause-refused
returns-in_err-recipe-clause-refused g c =
    let fault = c.in_err-recipe.field-0.0 in
    let only = subst (λ (q : Result (Vec ℕ Global) StoreFault). OnErr q (OnlyRefuses q)) c.in_err-recipe.was c.offer_all.ensures.refused in
    passed-holds IsOfChunks c.from_residual-in_err-recipe.result (Store fault) c.from_residual-in_err-recipe.ensures.1
    (offers-of-chunks fault only).0

pub returns-in_err-recipe-clause-places : goal.returns-in_err-recipe-clause-places
returns-in_err-recipe-clause-places g c = λ is.
    let fault = c.in_err-recipe.field-0.0 in
    let only = subst (λ (q : Result (Vec ℕ Global) StoreFault). OnErr q (OnlyRefuses q)) c.in_err-recipe.was c.offer_all.ensures.refused in
    let gave = passed-is (Store fault) c.from_residual-in_err-recipe.result c.from_residual-in_err-recipe.ensures.1 in
    (offers-of-chunks fault only).1 (store-is (err-is (sym gave ∙ is)))

pub returns-in_err-recipe-clause-counts : goal.returns-in_err-recipe-clause-counts
returns-in_err-recipe-clause-counts g c =
    let fault = c.in_err-recipe.field-0.0 in
    let gave = passed-is (Store fault) c.from_residual-in_err-recipe.result c.from_residual-in_err-recipe.ensures.1 in
    counts-as (λ is. c.in_err-recipe.was ∙ err-of _ (store-is (err-is (sym gave ∙ is)))) c.offer_all.ensures.counts

pub returns-in_err-session-clause-numbers : goal.returns-in_err-session-clause-numbers
returns-in_err-session-clause-numbers g c =
    rw (passed-is (Store c.in_err-session.field-0.0) c.from_residual-in_err-session.result c.from_residual-in_err-session.ensures.1) tt

pub returns-in_err-session-clause-counts : goal.returns-in_err-session-clause-counts
returns-in_err-session-clause-counts g c =
    let fault = c.in_err-session.field-0.0 in
    let gave = passed-is (Store fault) c.from_residual-in_err-session.result c.from_residual-in_err-session.ensures.1 in
    counts-as (λ is. c.in_err-session.was ∙ err-of _ (store-is (err-is (sym gave ∙ is))))
    (counts-on _ _ g.F.Shelf.faults g.F.Shelf.faultless c.args.shelf.now c.offer_all.new.shelf c.commit.new.shelf
    c.offer_all.ensures.counts c.commit.ensures.counts)

pub returns-clause-places : goal.returns-clause-places
returns-clause-places g c = λ is. ok-not is

pub returns-clause-counts : goal.returns-clause-counts
returns-clause-counts g c = counts-as (λ is. absurd (ok-not is))
    (counts-on _ _ g.F.Shelf.faults g.F.Shelf.faultless c.args.shelf.now c.offer_all.new.shelf c.commit.new.shelf
    c.offer_all.ensures.counts c.commit.ensures.counts)

pub returns-in_err-names-clause-ingests : goal.returns-in_err-names-clause-ingests
returns-in_err-names-clause-ingests g c =
    unnamed g.N.Namer.name_of c.args.store.now (g.F.Shelf.files c.args.shelf.now) c.args.name.now c.args.input.now
    c.from_residual.result (passed-is (Store OutOfMemory) c.from_residual.result c.from_residual.ensures.1)

pub returns-in_err-leaders-clause-ingests : goal.returns-in_err-leaders-clause-ingests
returns-in_err-leaders-clause-ingests g c =
    unnamed g.N.Namer.name_of c.args.store.now (g.F.Shelf.files c.args.shelf.now) c.args.name.now c.args.input.now
    c.from_residual-in_err-leaders.result
    (passed-is (Store OutOfMemory) c.from_residual-in_err-leaders.result c.from_residual-in_err-leaders.ensures.1)

pub returns-in_err-recipe-clause-ingests : goal.returns-in_err-recipe-clause-ingests
returns-in_err-recipe-clause-ingests g c = λ state.
    let name_of = g.N.Namer.name_of in
    let first = c.args.store.now in
    let name = c.args.name.now in
    let input = c.args.input.now in
    let chunks = chunks_of first.opened.head.params input in
    let after = g.F.Shelf.files c.offer_all.new.shelf in
    let fault = c.in_err-recipe.field-0.0 in
    told_map {P = λ files. StandsFor name_of first files state [] →
    OnErr c.offer_all.result (AreRefused name_of state chunks after c.offer_all.result)}
    {Q = λ files. StandsFor name_of first files state [] → IngestsInto name_of state name input c.from_residual-in_err-recipe.result files after}
    (g.F.Shelf.files c.args.shelf.now)
    (λ files refused stands. subst (λ (q : Ends). IngestsInto name_of state name input q files after)
    (sym (passed-is (Store fault) c.from_residual-in_err-recipe.result c.from_residual-in_err-recipe.ensures.1))
    (no-chunks name_of first files state stands name c.requires.open input c.args.cuts.now c.requires.cuts c.requires.fits
    c.requires.room (Vec ℕ Global) fault after
    (subst (λ (q : Result (Vec ℕ Global) StoreFault). OnErr q (AreRefused name_of state chunks after q)) c.in_err-recipe.was
    (refused stands))))
    (c.offer_all.ensures.stands_refused state)

pub commit-requires-clause-sums : goal.commit-requires-clause-sums
commit-requires-clause-sums g c = λ κs lives.
    let params = c.args.store.now.opened.head.params in
    let valid = c.requires.valid in
    let min = valid.min in
    ap (bytes_named (chunks_of_store c.offer_all.new.store)) c.deref-4.ensures.value
    ∙ c.in_ok-recipe.ensures.offered.sums
    ∙ ap length (concat-chunks_of params c.args.input.now (omega (arith, min)) valid.max.0)

pub returns-in_err-session-clause-ingests : goal.returns-in_err-session-clause-ingests
returns-in_err-session-clause-ingests g c = λ state.
    let name_of = g.N.Namer.name_of in
    let first = c.args.store.now in
    let mid = c.offer_all.new.store in
    let name = c.args.name.now in
    let input = c.args.input.now in
    let recipe = c.in_ok-recipe.recipe.items in
    let after = g.F.Shelf.files c.commit.new.shelf in
    let fault = c.in_err-session.field-0.0 in
    let early = mid-no_early first mid input c.args.cuts.now recipe name c.in_ok-recipe.ensures.offered c.requires.cuts
    c.requires.open c.requires.room in
    let both = only_fails {T = ℕ} fault (late-fails _ c.commit.result fault
    (ap (λ (entries : List ℕ). early_refusal mid.opened.book name (length entries)) c.deref-4.ensures.value ∙ early)
    c.commit.ensures.late c.in_err-session.was) in
    let told = g.F.Shelf.files c.args.shelf.now in
    let middle = g.F.Shelf.files c.offer_all.new.shelf in
    let either = fail-into name_of first mid told middle after state name input c.args.cuts.now recipe c.requires.open
    c.requires.cuts c.requires.fits c.requires.room
    c.in_ok-recipe.ensures.offered c.in_ok-recipe.ensures.head (c.in_ok-recipe.ensures.stands state)
    (λ offered. subst (λ (entries : List ℕ). IfSome middle (λ files. StandsFor name_of mid files state offered →
    IsCutting state.params (recipe_chunks state offered entries) →
    IfSome after (λ then. Unit {0} × (HoldState name_of then state
    ⊎ HoldState name_of then (committed_state state offered name entries))))) c.deref-4.ensures.value
    (c.in_err-session.ensures.stands state offered)) in
    told_map told (λ files holds stands.
    subst (λ (q : Ends). IngestsInto name_of state name input q files after)
    (sym (passed-is (Store fault) c.from_residual-in_err-session.result c.from_residual-in_err-session.ensures.1))
    (fails name_of state name input files (Store fault) after both.0 both.1 (holds stands))) either

pub returns-in_err-session-clause-places : goal.returns-in_err-session-clause-places
returns-in_err-session-clause-places g c = λ is.
    let first = c.args.store.now in
    let mid = c.offer_all.new.store in
    let name = c.args.name.now in
    let recipe = c.in_ok-recipe.recipe.items in
    let fault = c.in_err-session.field-0.0 in
    let early = mid-no_early first mid c.args.input.now c.args.cuts.now recipe name c.in_ok-recipe.ensures.offered c.requires.cuts
    c.requires.open c.requires.room in
    let both = only_fails {T = ℕ} fault (late-fails _ c.commit.result fault
    (ap (λ (entries : List ℕ). early_refusal mid.opened.book name (length entries)) c.deref-4.ensures.value ∙ early)
    c.commit.ensures.late c.in_err-session.was) in
    let gave = passed-is (Store fault) c.from_residual-in_err-session.result c.from_residual-in_err-session.ensures.1 in
    subst (λ (q : Ends). IfErr q Fails) (sym gave ∙ is) both.0

pub overflow_cast-result-2 : goal.overflow_cast-result-2
overflow_cast-result-2 g c =
    let first = c.args.store.now in
    let mid = c.offer_all.new.store in
    let new = c.commit.new.self in
    let input = c.args.input.now in
    let chunks = chunks_of first.opened.head.params input in
    let had = c.in_ok-recipe.ensures.offered in
    let recipe = c.in_ok-recipe.recipe.items in
    let few = few-offered first mid chunks recipe had in
    let many : length recipe ≡ length c.args.cuts.now =
    had.count ∙ count-between input 0 (cuts_of first.opened.head.params input) ∙ sym (ap length c.requires.cuts) in
    let grown = chunks-committed first mid chunks recipe had new
    (session_record mid c.args.name.now (length input) c.deref-4.result.now) c.in_ok-session.ensures.committed refl in
    let now : length c.chunks.result.now ≡ length (chunks_in new.opened.book.sessions) =
    ap length c.chunks.ensures ∙ ap (λ (book : BookState). length (chunks_in book.sessions)) c.book-2.ensures.book in
    let then : length c.chunks-known.result.now ≡ length (chunks_in first.opened.book.sessions) =
    ap length c.chunks-known.ensures ∙ ap (λ (book : BookState). length (chunks_in book.sessions)) c.book.ensures.book in
    let room = c.requires.room in
    omega (arith, few, many, grown, now, then, room)

pub returns-clause-ingests : goal.returns-clause-ingests
returns-clause-ingests g c = λ state.
    let name_of = g.N.Namer.name_of in
    let first = c.args.store.now in
    let mid = c.offer_all.new.store in
    let new = c.commit.new.self in
    let input = c.args.input.now in
    let name = c.args.name.now in
    let had = c.in_ok-recipe.ensures.offered in
    let recipe = c.in_ok-recipe.recipe.items in
    let middle = g.F.Shelf.files c.offer_all.new.shelf in
    let after = g.F.Shelf.files c.commit.new.shelf in
    let same : c.deref-4.result.now ≡ recipe = c.deref-4.ensures.value in
    let now : length c.chunks.result.now ≡ length (chunks_in new.opened.book.sessions) =
    ap length c.chunks.ensures ∙ ap (λ (book : BookState). length (chunks_in book.sessions)) c.book-2.ensures.book in
    let then : length c.chunks-known.result.now ≡ length (chunks_in first.opened.book.sessions) =
    ap length c.chunks-known.ensures ∙ ap (λ (book : BookState). length (chunks_in book.sessions)) c.book.ensures.book in
    let committed : new ≡ committed_store mid (session_record mid name (length input) recipe) =
    c.in_ok-session.ensures.committed
    ∙ ap (λ (entries : List ℕ). committed_store mid (session_record mid name (length input) entries)) same in
    ok-into name_of first mid new (g.F.Shelf.files c.args.shelf.now) middle after state name input recipe c.requires.open
    c.requires.fits had committed c.in_ok-recipe.ensures.head (c.in_ok-session.ensures.written.others Head (λ is. absurd cc)
    (λ is. absurd cc)) c.in_ok-session.session c.len.result _ c.in_ok-session.ensures.number
    (omega (arith, c.len.ensures, c.in_ok-recipe.recipe.ok))
    (ap (λ (n : ℕ). n - length c.chunks-known.result.now) now
    ∙ ap (λ (n : ℕ). length (chunks_in new.opened.book.sessions) - n) then)
    (c.in_ok-recipe.ensures.stands state)
    (λ offered. subst (λ (entries : List ℕ). IfSome middle (λ files. StandsFor name_of mid files state offered →
    IsCutting state.params (recipe_chunks state offered entries) →
    IfSome after (λ then. StandsFor name_of new then (committed_state state offered name entries) [] × Unit {0}))) same
    (c.in_ok-session.ensures.stands state offered))
    (λ offered. subst (λ (entries : List ℕ). IfSome middle (λ files. StandsFor name_of mid files state offered →
    AreCleanWith name_of files state offered →
    IfSome after (λ then. AreClean name_of then (Some (committed_state state offered name entries))))) same
    (c.in_ok-session.ensures.clean state offered))

pub returns-clause-numbers : goal.returns-clause-numbers
returns-clause-numbers g c =
    let params = c.args.store.now.opened.head.params in
    let had = c.in_ok-recipe.ensures.offered in
    let many : length c.in_ok-recipe.recipe.items ≡ length c.args.cuts.now =
    had.count ∙ count-between c.args.input.now 0 (cuts_of params c.args.input.now) ∙ sym (ap length c.requires.cuts) in (
      c.in_ok-session.ensures.number ∙ ap (λ (opened : Opened). length opened.book.sessions) had.opened,
      refl,
      omega (arith, c.len.ensures, c.in_ok-recipe.recipe.ok, many),
    )
