-- A run of `restore`: the store is opened, and the bytes of a session are written piece by piece.
use Rattle.std.proofs.Common.{◌≡◌, inl, inr, ℕ, Bool, true, List, [], ◌∷◌, length, refl, ap, sym, subst, ◌∙◌, arith}
use Rattle.std.proofs.lemmas.List.{take_all}
use Rattle.std.specs.List.{All, slice_get}
use Rattle.std.specs.Option.{option_and_then}
use Rattle.std.specs.Prelude.{◌≢◌, ◌⊎◌, ◌↔◌, Err, IfSome, None, Ok, OnErr, OnOk, Option, Result, Some, option_map, unwrap_or}
use Rattle.sha2.specs.Sha256.{sha256}
use Rattle.edge_traits.specs.Faults.{Rose}
use Rattle.edge_traits.specs.Shelf.{SameFiles, SameLoose}
use Rattle.edge_traits.specs.Sink.{Appends, AppendsPrefix}
use Rattle.ingest_core.specs.Faults.{outcome_of_store}
use Rattle.sd_base.specs.Books.{live_session}
use Rattle.sd_base.specs.OnePass.{Pass, in_store, pass_of_restore}
use Rattle.sd_base.specs.Opening.{IsOpeningDamage, OpenAs, Opened}
use Rattle.sd_base.specs.States.{State, bytes_of_session, live_session_named, sessions_in}
use Rattle.sd_base.specs.Stores.{Hold}
use Rattle.sd_base.specs.declared.damage.Damage.{Damage}
use Rattle.sd_base.specs.declared.damage.Damage.TheVariants.{Recipe}
use Rattle.sd_base.specs.declared.file.File.{File}
use Rattle.sd_base.specs.declared.record.NewChunk.{NewChunk}
use Rattle.sd_base.specs.declared.outcome.Outcome.{Outcome}
use Rattle.sd_base.specs.declared.outcome.Outcome.TheVariants.{Done, NoStore, NoSession, Damaged, SinkFault, ShelfFault, OutOfMemory}
use Rattle.sd_base.specs.declared.words.Command.TheVariants.{Quiet as quiet}
use Rattle.sd_base.specs.declared.words.Quiet.TheVariants.{Restore}
use Rattle.store_core.specs.Faults.{IsOfChunk, IsOfOpening}
use Rattle.store_core.specs.Restores.{FindsDamage, IsIntact, OnlyRestores, RestoresAll, RestoresPart, RestoresState, bytes_as_read, recipe_named, unknown_place}
use Rattle.store_core.specs.Shelves.{CountsFaults, OnlyReads}
use Rattle.store_core.specs.StoreStates.{StandsFor, StoreState}
use Rattle.store_core.specs.declared.fault.StoreFault.{StoreFault}
use Rattle.store_core.specs.declared.fault.StoreFault.TheVariants as store
use Rattle.store_core.proofs.StoreLemmas.{same-told}
use Rattle.store_core.proofs.Verdicts.{no_store_is_not_opened, open_as_one, open_undamaged}
use Rattle.backup_top.specs.ByRecords.{RestoresRecords, store_of}
use Rattle.backup_top.specs.Outcomes.{EndsAs, IsBroken, IsDamage, IsEarly, IsOneOf, IsSilent, LeavesStore, Writes}
use Rattle.backup_top.specs.Run.{AreHeld, IsCarriedOut, IsRunOn, KeepsFiles, MayReturn, OpensFirst}
use Rattle.backup_top.specs.Steps.{OpensOn, OpensStore}
use Rattle.store_core.proofs.RestoreLemmas.{no-places, recipes-known}
use Rattle.backup_top.proofs.Openings.{broken_told, fault_of, refused_with, still_held}
use Rattle.backup_top.proofs.Lists.{of_opening, refuses_to_open}
use Rattle.backup_top.proofs.Runs.{counted_as, prefix_of_nothing, stay_clean, uncalled, unmade_of}

-- how restoring ends
abbrev pub Ended : Type 0
Ended = Result (Unit {0}) StoreFault

abbrev pub ending_of : Ended → Outcome
ending_of (Ok done) = Done
ending_of (Err fault) = outcome_of_store fault

-- ---- the ending of a restore, case by case

-- facts of one ending, which hold of a result that is it
module _ (P : Ended → Type 0) where
  by_ending : P (Ok tt) → P (Err store.NoSession) → ((flaw : Damage) → P (Err (store.Damaged flaw)))
      → P (Err store.ShelfFault) → P (Err store.SinkFault) → P (Err store.OutOfMemory)
      → (result : Ended) → OnErr result (OnlyRestores result) → P result
  by_ending done session damaged shelf sink memory (Ok tt) only = done
  by_ending done session damaged shelf sink memory (Err fault) only = elim only [
    | inl is ↦ subst P (sym is) session
    | inr (inl (flaw, is)) ↦ subst P (sym is) (damaged flaw)
    | inr (inr (inl is)) ↦ subst P (sym is) shelf
    | inr (inr (inr (inl is))) ↦ subst P (sym is) sink
    | inr (inr (inr (inr is))) ↦ subst P (sym is) memory
  ]

-- what an ending says of the result
record OfResult (name : List ℕ) (result : Ended) : Type 0 where
  pub sink : ending_of result ≡ SinkFault → result ≡ Err store.SinkFault
  pub shelf : ending_of result ≡ ShelfFault → result ≡ Err store.ShelfFault
  pub none : ending_of result ≡ NoSession → result ≡ Err store.NoSession
  pub damaged : (flaw : Damage) → ending_of result ≡ Damaged flaw → result ≡ Err (store.Damaged flaw)
  pub done : ending_of result ≡ Done → result ≡ Ok tt
  pub absent : ending_of result ≡ NoStore → ⊥
  pub silent : IsSilent (ending_of result) → result ≡ Err store.NoSession
  pub among : MayReturn (Ok (quiet (Restore name))) (ending_of result)
  pub held : (state : Option State) (files : File → List ℕ) → Hold sha256 files state
      → LeavesStore (ending_of result) state state files

damage-in : Damage → StoreFault → Damage
damage-in other (store.Damaged flaw) = flaw
damage-in other _ = other

flaw_of : Damage → Outcome → Damage
flaw_of other (Damaged flaw) = flaw
flaw_of other _ = other

-- the damage that may be found is of these kinds
abbrev OfKind : Ended → Type 0
OfKind result = (flaw : Damage) → result ≡ Err (store.Damaged flaw) → IsOfOpening flaw ⊎ IsOfChunk flaw

of_result : (name : List ℕ) (result : Ended) → OnErr result (OnlyRestores result) → OfKind result → OfResult name result
unfolding flaw_of
of_result name = by_ending (λ (r : Ended). OfKind r → OfResult name r)
    (λ kind. record {
      sink = λ clash. absurd cc;
      shelf = λ clash. absurd cc;
      none = λ clash. absurd cc;
      damaged = λ flaw clash. absurd cc;
      done = λ same. refl;
      absent = λ clash. absurd cc;
      silent = λ never. absurd never;
      among = inl (inl refl);
      held = λ state files holds. holds;
    })
    (λ kind. record {
      sink = λ clash. absurd cc;
      shelf = λ clash. absurd cc;
      none = λ same. refl;
      damaged = λ flaw clash. absurd cc;
      done = λ clash. absurd cc;
      absent = λ clash. absurd cc;
      silent = λ _. refl;
      among = inl (inr (inr (inr (inr (inr (inl refl))))));
      held = λ state files holds. holds;
    })
    (λ found kind. record {
      sink = λ clash. absurd cc;
      shelf = λ clash. absurd cc;
      none = λ clash. absurd cc;
      damaged = λ flaw same. refused_with (Unit {0}) (ap store.Damaged (ap (flaw_of found) same));
      done = λ clash. absurd cc;
      absent = λ clash. absurd cc;
      silent = λ never. absurd never;
      among = inr (found, kind found refl, refl);
      held = λ state files holds. holds;
    })
    (λ kind. record {
      sink = λ clash. absurd cc;
      shelf = λ same. refl;
      none = λ clash. absurd cc;
      damaged = λ flaw clash. absurd cc;
      done = λ clash. absurd cc;
      absent = λ clash. absurd cc;
      silent = λ never. absurd never;
      among = inl (inr (inr (inr (inr (inl refl)))));
      held = λ state files holds. inl holds;
    })
    (λ kind. record {
      sink = λ same. refl;
      shelf = λ clash. absurd cc;
      none = λ clash. absurd cc;
      damaged = λ flaw clash. absurd cc;
      done = λ clash. absurd cc;
      absent = λ clash. absurd cc;
      silent = λ never. absurd never;
      among = inl (inr (inl refl));
      held = λ state files holds. holds;
    })
    (λ kind. record {
      sink = λ clash. absurd cc;
      shelf = λ clash. absurd cc;
      none = λ clash. absurd cc;
      damaged = λ flaw clash. absurd cc;
      done = λ clash. absurd cc;
      absent = λ clash. absurd cc;
      silent = λ never. absurd never;
      among = inl (inr (inr (inl refl)));
      held = λ state files holds. inl holds;
    })

-- ---- the pass of `restore`

-- no session is found exactly if the state has none
abbrev Finds : Ended → Option ℕ → Type 0
Finds result live = (result ≡ Err store.NoSession) ↔ (live ≡ None)

abbrev Undamaged : Ended → Type 0
Undamaged result = (flaw : Damage) → result ≢ Err (store.Damaged flaw)

found_some : (live : Option ℕ) (fault : StoreFault) → Finds (Err fault) live
    → (◌≡◌ {A = Ended} (Err fault) (Err store.NoSession) → ⊥) → (k : ℕ) × (live ≡ Some k)
found_some None fault finds not = absurd (not (finds.1 refl))
found_some (Some k) fault finds not = (k, refl)

module _ (state : State) where
  answer-done : (live : Option ℕ) → Finds (Ok tt) live → EndsAs (pass_of_restore live state).outcome Done
  answer-done None finds = absurd (let clash = finds.1 refl in cc)
  answer-done (Some k) finds = refl

  answer : (live : Option ℕ) (result : Ended) → OnErr result (OnlyRestores result) → Finds result live → Undamaged result
      → EndsAs (pass_of_restore live state).outcome (ending_of result)
  answer live = by_ending
      (λ (r : Ended). Finds r live → Undamaged r → EndsAs (pass_of_restore live state).outcome (ending_of r))
      (λ finds sound. answer-done live finds)
      (λ finds sound. subst (λ (l : Option ℕ). EndsAs (pass_of_restore l state).outcome NoSession) (sym (finds.0 refl)) refl)
      (λ flaw finds sound. absurd (sound flaw refl)) (λ finds sound. tt) (λ finds sound. tt) (λ finds sound. tt)

  late : (live : Option ℕ) → IsEarly (pass_of_restore live state).outcome → ⊥
  late None early = early
  late (Some k) early = early

  leaves : (live : Option ℕ) → (pass_of_restore live state).after ≡ Some state
  leaves None = refl
  leaves (Some k) = refl

  -- the text is that of the session
  abbrev bytes_of_live : Option ℕ → List ℕ
  bytes_of_live live = unwrap_or (option_map bytes_of_session (option_and_then (slice_get (sessions_in state)) live)) []

  same-text : (live : Option ℕ) (k : ℕ) → live ≡ Some k → bytes_of_live live ≡ (pass_of_restore live state).text
  same-text None k is = absurd cc
  same-text (Some j) k is = refl

  no-bytes : (live : Option ℕ) → (pass_of_restore live state).text ≡ [] → bytes_of_live live ≡ []
  no-bytes None empty = refl
  no-bytes (Some k) empty = empty

  module _ (before after : Option (List ℕ)) where
    writes-done : (live : Option ℕ) → Finds (Ok tt) live → Appends before after (bytes_of_live live)
        → Appends before after (pass_of_restore live state).text
    writes-done None finds whole = absurd (let clash = finds.1 refl in cc)
    writes-done (Some k) finds whole = whole

    writes-part : (live : Option ℕ) (fault : StoreFault) → Finds (Err fault) live
        → (◌≡◌ {A = Ended} (Err fault) (Err store.NoSession) → ⊥) → AppendsPrefix before after (bytes_of_live live)
        → AppendsPrefix before after (pass_of_restore live state).text
    writes-part live fault finds not part =
        let some = found_some live fault finds not in
        subst (AppendsPrefix before after) (same-text live some.0 some.1) part

    writes : (live : Option ℕ) (result : Ended) → OnErr result (OnlyRestores result)
        → Finds result live → Undamaged result → (result ≡ Err store.NoSession → after ≡ before)
        → OnOk result (Appends before after (bytes_of_live live))
        → OnErr result (AppendsPrefix before after (bytes_of_live live))
        → Writes (ending_of result) (pass_of_restore live state).text before after
    writes live = by_ending
        (λ (r : Ended). Finds r live → Undamaged r → (r ≡ Err store.NoSession → after ≡ before)
        → OnOk r (Appends before after (bytes_of_live live)) → OnErr r (AppendsPrefix before after (bytes_of_live live))
        → Writes (ending_of r) (pass_of_restore live state).text before after)
        (λ finds sound same whole part. writes-done live finds whole)
        (λ finds sound same whole part. same refl)
        (λ flaw finds sound same whole part. absurd (sound flaw refl))
        (λ finds sound same whole part. writes-part live store.ShelfFault finds (λ clash. absurd cc) part)
        (λ finds sound same whole part. writes-part live store.SinkFault finds (λ clash. absurd cc) part)
        (λ finds sound same whole part. writes-part live store.OutOfMemory finds (λ clash. absurd cc) part)

-- ---- two calls in turn

pub counted_after : {D : Type 0} (first next : Type 0) (faults : D → ℕ) (faultless : D → Type 0) (before middle after : D)
    → CountsFaults first faults faultless before middle → CountsFaults next faults faultless middle after
    → CountsFaults next faults faultless before after
counted_after first next faults faultless before middle after one two = record {
  failed = λ failed. later (two.failed failed);
  never_falls = omega (arith, one.never_falls, two.never_falls);
  faultless_serves = λ still failed. two.faultless_serves (one.stays_faultless still) failed;
  faultless_counts_none = λ still. two.faultless_counts_none (one.stays_faultless still) ∙ one.faultless_counts_none still;
  stays_faultless = λ still. two.stays_faultless (one.stays_faultless still);
} where
  later : Rose (faults middle) (faults after) → Rose (faults before) (faults after)
  later (inl more) = inl (omega (arith, more, one.never_falls))
  later (inr full) = inr full

pub kept_after : {F : Type 0} (files_of : F → Option (File → List ℕ)) (loose : F → File → Bool) (before middle after : F)
    → KeepsFiles files_of loose before middle → SameFiles (files_of middle) (files_of after)
    → SameLoose (loose middle) (loose after) → KeepsFiles files_of loose before after
kept_after files_of loose before middle after one files same_loose = record {
  same_files = λ f. files f ∙ one.same_files f;
  same_loose = λ f. same_loose f ∙ one.same_loose f;
}

-- ---- by the records

whole-prefix : (before after : Option (List ℕ)) (text : List ℕ) → Appends before after text → AppendsPrefix before after text
whole-prefix before after text whole =
    (length text, omega arith, subst (Appends before after) (sym (take_all (length text) text (omega arith))) whole)

-- what a restore does over files, from what its store says of them
record OnFiles (name : List ℕ) (result : Ended) (files : File → List ℕ) (before after : Option (List ℕ)) (opened : StoreState)
    : Type 0 where
  pub finds : (result ≡ Err store.NoSession) ↔ (live_session opened.opened.book.sessions name ≡ None)
  pub restored : OnOk result (RestoresAll sha256 files opened (recipe_named opened name) before after)
  pub damaged : (flaw : Damage) → result ≡ Err (store.Damaged flaw) → unknown_place opened (recipe_named opened name) ≡ None
      → FindsDamage sha256 files opened (recipe_named opened name) flaw before after
  pub part : OnErr result (RestoresPart sha256 files opened (recipe_named opened name) before after)

-- a whole recipe is all of its places
all-part : (files : File → List ℕ) (opened : StoreState) (recipe : List ℕ) (before after : Option (List ℕ))
    → RestoresAll sha256 files opened recipe before after → RestoresPart sha256 files opened recipe before after
all-part files opened recipe before after all = record {
  places = length recipe;
  within = omega arith;
  intact = subst (λ places. All (IsIntact sha256 files opened) places) (sym (take_all (length recipe) recipe (omega arith)))
      all.intact;
  written = subst (λ places. AppendsPrefix before after (bytes_as_read files opened places))
      (sym (take_all (length recipe) recipe (omega arith)))
      (whole-prefix before after (bytes_as_read files opened recipe) all.written);
}

restores_records : (files : File → List ℕ) (opened : Opened) (name : List ℕ) (result : Ended)
    (before after : Option (List ℕ)) → OfResult name result → OpenAs files opened
    → OnFiles name result files before after (store_of opened)
    → RestoresRecords files opened name (ending_of result) before after
restores_records files opened name result before after of opens on = record {
  no_session = λ is. on.finds.0 (of.none is);
  absent = λ none. inr (ap ending_of (on.finds.1 none));
  restored = λ is. subst (λ (r : Ended). OnOk r
      (RestoresAll sha256 files (store_of opened) (recipe_named (store_of opened) name) before after)) (of.done is) on.restored;
  damaged = λ flaw is. on.damaged flaw (of.damaged flaw is) (recipes-known files opened name opens);
  part = part-of result on.restored on.part;
} where
  part-of : (r : Ended) → OnOk r (RestoresAll sha256 files (store_of opened) (recipe_named (store_of opened) name) before after)
      → OnErr r (RestoresPart sha256 files (store_of opened) (recipe_named (store_of opened) name) before after)
      → RestoresPart sha256 files (store_of opened) (recipe_named (store_of opened) name) before after
  part-of (Ok done) all part = all-part files (store_of opened) (recipe_named (store_of opened) name) before after all
  part-of (Err fault) all part = part

same_store : (opened : StoreState) (other : Opened) → opened.opened ≡ other → opened.offered ≡ [] → opened.sound ≡ true
    → opened ≡ store_of other
same_store opened other same none sound =
    ap (λ (o : Opened). let r : StoreState = record { opened = o; offered = opened.offered; sound = opened.sound } in r) same
    ∙ ap (λ (l : List NewChunk). let r : StoreState = record { opened = other; offered = l; sound = opened.sound } in r) none
    ∙ ap (λ (b : Bool). let r : StoreState = record { opened = other; offered = []; sound = b } in r) sound

-- a fault of opening
no-part : (files : File → List ℕ) (opened : StoreState) (recipe : List ℕ) (written : Option (List ℕ))
    → RestoresPart sha256 files opened recipe written written
no-part files opened recipe written = record {
  places = 0;
  within = omega arith;
  intact = λ k d lt. absurd (omega (arith, lt));
  written = prefix_of_nothing written [];
}

broken-at : (ending other : Outcome) → IsBroken ending → (other ≡ ShelfFault → ⊥) → (other ≡ OutOfMemory → ⊥) → ending ≡ other → ⊥
broken-at ending other (inl is) not_shelf not_memory same = not_shelf (sym same ∙ is)
broken-at ending other (inr is) not_shelf not_memory same = not_memory (sym same ∙ is)

broken-records : (files : File → List ℕ) (opened : Opened) (name : List ℕ) (ending : Outcome) (written : Option (List ℕ))
    → IsBroken ending → RestoresRecords files opened name ending written written
broken-records files opened name ending written broken = record {
  no_session = λ is. absurd (broken-at ending NoSession broken (λ clash. absurd cc) (λ clash. absurd cc) is);
  absent = λ none. inl broken;
  restored = λ is. absurd (broken-at ending Done broken (λ clash. absurd cc) (λ clash. absurd cc) is);
  damaged = λ flaw is. absurd (broken-at ending (Damaged flaw) broken (λ clash. absurd cc) (λ clash. absurd cc) is);
  part = no-part files (store_of opened) (recipe_named (store_of opened) name) written;
}

restore-among : (name : List ℕ) (ending : Outcome)
    → IsOneOf (Done ∷ SinkFault ∷ OutOfMemory ∷ NoStore ∷ ShelfFault ∷ []) ending ⊎ IsDamage IsOfOpening ending
    → MayReturn (Ok (quiet (Restore name))) ending
restore-among name ending (inr found) = inr (found.0, inl found.1, found.2)
restore-among name ending (inl (inl is)) = inl (inl is)
restore-among name ending (inl (inr (inl is))) = inl (inr (inl is))
restore-among name ending (inl (inr (inr (inl is)))) = inl (inr (inr (inl is)))
restore-among name ending (inl (inr (inr (inr (inl is))))) = inl (inr (inr (inr (inl is))))
restore-among name ending (inl (inr (inr (inr (inr (inl is)))))) = inl (inr (inr (inr (inr (inl is)))))
restore-among name ending (inl (inr (inr (inr (inr (inr never)))))) = absurd never

-- ---- the run

module _ {K F : Type 0} (name : List ℕ)
    (written_to : K → Option (List ℕ)) (write_faults : K → ℕ) (sink_faultless : K → Type 0) (sink_before sink_after : K)
    (files_of : F → Option (File → List ℕ)) (loose : F → File → Bool) (faults : F → ℕ)
    (faultless : F → Type 0) (before middle after : F) where
  abbrev Pass-of : Option State → Pass
  Pass-of = in_store (λ state. pass_of_restore (live_session_named (sessions_in state) name) state)

  -- what `Store::restore` promises
  pub record Restored (opened : StoreState) (result : Ended) : Type 0 where
    pub finds : (result ≡ Err store.NoSession) ↔ (live_session opened.opened.book.sessions name ≡ None)
    pub only : OnErr result (OnlyRestores result)
    pub untouched : result ≡ Err store.NoSession → (after ≡ middle) × (sink_after ≡ sink_before)
    pub nothing : recipe_named opened name ≡ [] → sink_after ≡ sink_before
    pub restored : OnOk result (IfSome (files_of middle) (λ files.
        RestoresAll sha256 files opened (recipe_named opened name) (written_to sink_before) (written_to sink_after)))
    pub damaged : (flaw : Damage) → result ≡ Err (store.Damaged flaw) → unknown_place opened (recipe_named opened name) ≡ None
        → IfSome (files_of middle) (λ files.
        FindsDamage sha256 files opened (recipe_named opened name) flaw (written_to sink_before) (written_to sink_after))
    pub part : OnErr result (IfSome (files_of middle) (λ files.
        RestoresPart sha256 files opened (recipe_named opened name) (written_to sink_before) (written_to sink_after)))
    pub kind : (flaw : Damage) → result ≡ Err (store.Damaged flaw) → unknown_place opened (recipe_named opened name) ≡ None
        → IsOfChunk flaw
    pub unknown : (session place : ℕ) → live_session opened.opened.book.sessions name ≡ Some session
        → unknown_place opened (recipe_named opened name) ≡ Some place → result ≡ Err (store.Damaged (Recipe session place))
    pub reads : OnlyReads (result ≡ Err store.ShelfFault) files_of loose faults faultless middle after
    pub counts : CountsFaults (result ≡ Err store.SinkFault) write_faults sink_faultless sink_before sink_after
    pub stands : (state : State) (offered : List (List ℕ)) → IfSome (files_of middle) (λ files.
        StandsFor sha256 opened files state offered
        → RestoresState state name result (written_to sink_before) (written_to sink_after))

  -- the damage is of a kind that opening finds, or that of a chunk
  of-kind : (opened : StoreState) (result : Ended) → Restored opened result → OfKind result
  unfolding damage-in
  of-kind opened result holds flaw is = named (live_session opened.opened.book.sessions name) refl
      (unknown_place opened (recipe_named opened name)) refl where
        named : (live : Option ℕ) → live_session opened.opened.book.sessions name ≡ live → (place : Option ℕ)
            → unknown_place opened (recipe_named opened name) ≡ place → IsOfOpening flaw ⊎ IsOfChunk flaw
        named live found None none = inr (holds.kind flaw is none)
        named None found (Some place) some = absurd (let clash = sym is ∙ holds.finds.1 found in cc)
        named (Some session) found (Some place) some =
            let same : store.Damaged flaw ≡ store.Damaged (Recipe session place) =
            fault_of (sym is ∙ holds.unknown session place found some) in
            inl (subst IsOfOpening (sym (ap (damage-in flaw) same)) tt)

  -- what is said of the observable files is said of these
  pub record OnTold (opened : StoreState) (result : Ended) (told : Option (File → List ℕ)) : Type 0 where
    pub restored : OnOk result (IfSome told (λ files.
        RestoresAll sha256 files opened (recipe_named opened name) (written_to sink_before) (written_to sink_after)))
    pub damaged : (flaw : Damage) → result ≡ Err (store.Damaged flaw) → unknown_place opened (recipe_named opened name) ≡ None
        → IfSome told (λ files.
        FindsDamage sha256 files opened (recipe_named opened name) flaw (written_to sink_before) (written_to sink_after))
    pub part : OnErr result (IfSome told (λ files.
        RestoresPart sha256 files opened (recipe_named opened name) (written_to sink_before) (written_to sink_after)))
    pub stands : (state : State) → IfSome told (λ files. StandsFor sha256 opened files state []
        → RestoresState state name result (written_to sink_before) (written_to sink_after))

  on_told : (opened : StoreState) (result : Ended) → KeepsFiles files_of loose before middle → Restored opened result
      → OnTold opened result (files_of before)
  on_told opened result kept holds = subst (OnTold opened result)
      (same-told (files_of before) (files_of middle) kept.same_files)
      (record {
        restored = holds.restored;
        damaged = holds.damaged;
        part = holds.part;
        stands = λ state. holds.stands state [];
      })

  on_files : (told : Option (File → List ℕ)) (opened : StoreState) (result : Ended) → Restored opened result
      → OnTold opened result told
      → IfSome told (λ files. OnFiles name result files (written_to sink_before) (written_to sink_after) opened)
  on_files None opened result holds told = tt
  on_files (Some files) opened result holds told = record {
    finds = holds.finds;
    restored = told.restored;
    damaged = told.damaged;
    part = told.part;
  }

  by_records : (told : Option (File → List ℕ)) (opened : StoreState) (result : Ended) → OfResult name result
      → IfSome told (λ files. OpenAs files opened.opened) → (opened.offered ≡ []) × (opened.sound ≡ true)
      → IfSome told (λ files. OnFiles name result files (written_to sink_before) (written_to sink_after) opened)
      → (other : Opened) → IfSome told (λ files. OpenAs files other
      → RestoresRecords files other name (ending_of result) (written_to sink_before) (written_to sink_after))
  by_records None opened result of opens fresh on other = tt
  by_records (Some files) opened result of opens fresh on other = λ here.
      restores_records files other name result (written_to sink_before) (written_to sink_after) of here
      (subst (OnFiles name result files (written_to sink_before) (written_to sink_after))
      (same_store opened other (open_as_one files opened.opened other opens here) fresh.0 fresh.1) on)

  -- the damage that is found later is that of a chunk
  first : (told : Option (File → List ℕ)) (opened : StoreState) (result : Ended) → OfResult name result
      → IfSome told (λ files. OpenAs files opened.opened) → (opened.offered ≡ []) × (opened.sound ≡ true)
      → IfSome told (λ files. OnFiles name result files (written_to sink_before) (written_to sink_after) opened)
      → IfSome told (OpensFirst IsOfChunk (ending_of result))
  first None opened result of opens fresh on = tt
  first (Some files) opened result of opens fresh on = record {
    no_store = λ is. absurd (of.absent is);
    absent = λ none. absurd (no_store_is_not_opened files opened.opened none opens);
    damaged = λ flaw is. inr (of_chunk flaw
        (restores_records files opened.opened name result (written_to sink_before) (written_to sink_after) of opens
        (subst (OnFiles name result files (written_to sink_before) (written_to sink_after))
        (same_store opened opened.opened refl fresh.0 fresh.1) on)) is);
    named = λ flaw found. absurd (open_undamaged files opened.opened flaw opens found);
  } where
    of_chunk : (flaw : Damage) → RestoresRecords files opened.opened name (ending_of result) (written_to sink_before) (written_to sink_after)
        → ending_of result ≡ Damaged flaw → IsOfChunk flaw
    of_chunk flaw records is = subst IsOfChunk (sym (records.damaged flaw is).damaged.equals) tt

  undamaged : (told : Option (File → List ℕ)) (opened : StoreState) → IfSome told (λ files. OpenAs files opened.opened)
      → IfSome told (λ files. (flaw : Damage) → IsOpeningDamage files flaw → sink_after ≡ sink_before)
  undamaged None opened opens = tt
  undamaged (Some files) opened opens = λ flaw found. absurd (open_undamaged files opened.opened flaw opens found)

  same-pass : (state : Option State) → (Pass-of state).after ≡ state
  same-pass None = refl
  same-pass (Some state) = leaves state (live_session_named (sessions_in state) name)

  held-same : (told : Option (File → List ℕ)) (ending : Outcome) (state : Option State)
      → ((files : File → List ℕ) → Hold sha256 files state → LeavesStore ending state state files)
      → AreHeld told state → IfSome told (LeavesStore ending state (Pass-of state).after)
  held-same None ending state step held = absurd held
  held-same (Some files) ending state step held =
      subst (λ (s : Option State). LeavesStore ending state s files) (sym (same-pass state)) (step files held.1)

  on_state : (told : Option (File → List ℕ)) (opened : StoreState) (result : Ended) → Restored opened result
      → OnTold opened result told → (state : Option State) → OpensOn state (Ok opened) told → AreHeld told state
      → IsRunOn (Pass-of state) (ending_of result) written_to sink_before sink_after
  on_state None opened result holds on state stands held = absurd held
  on_state (Some files) opened result holds on None stands held = absurd stands
  on_state (Some files) opened result holds on (Some state) stands held =
      let restores = on.stands state stands in
      let live = live_session_named (sessions_in state) name in record {
        answer = answer state live result holds.only restores.no_session restores.undamaged;
        refused = λ early. absurd (late state live early);
        written = writes state (written_to sink_before) (written_to sink_after) live result holds.only restores.no_session
            restores.undamaged (λ is. ap written_to (holds.untouched is).1) restores.restored restores.prefix;
        nothing_to_write = λ empty. holds.nothing
            (no-places sha256 opened files state [] stands name (no-bytes state live empty));
      }

  -- a restore from a store that was opened
  pub restored_run : (opened : StoreState) (result : Ended)
      → OpensStore (Ok opened) files_of loose faults faultless before middle → Restored opened result
      → IsCarriedOut Pass-of (Ok (quiet (Restore name))) (ending_of result)
      written_to write_faults sink_faultless sink_before sink_after files_of loose faults faultless before after
  restored_run opened result opens holds =
      let of = of_result name result holds.only (of-kind opened result holds) in
      let told = on_told opened result opens.kept holds in
      let on = on_files (files_of before) opened result holds told in
      let kept = kept_after files_of loose before middle after opens.kept holds.reads.same_files holds.reads.same_loose in
      record {
        on_state = λ state needs. on_state (files_of before) opened result holds told state
            (subst (OpensOn state (Ok opened)) (same-told (files_of before) (files_of middle) opens.kept.same_files)
            (opens.on_state state needs)) needs;
        held = λ state held. held-same (files_of after) (ending_of result) state (of.held state)
            (still_held (files_of before) (files_of after) state kept.same_files held);
        clean = λ done state held. stay_clean (files_of before) (files_of after) state (Pass-of state).after
            (same-told (files_of before) (files_of after) kept.same_files) (same-pass state);
        among = of.among;
        sink_counts = counted_as _ _ write_faults sink_faultless sink_before sink_after of.sink holds.counts;
        shelf_counts = counted_as _ _ faults faultless before after of.shelf
            (counted_after _ _ faults faultless before middle after opens.counts holds.reads.counts);
        silent = λ silent. (holds.untouched (of.silent silent)).1;
        sink = undamaged (files_of before) opened opens.opened;
        shelf = kept;
        verdict = first (files_of before) opened result of opens.opened opens.fresh on;
        by_records = by_records (files_of before) opened result of opens.opened opens.fresh on;
      }

  -- ---- a store that was not opened

  unopened-records : (told : Option (File → List ℕ)) (other : Opened) (ending : Outcome)
      → IfSome told (λ files. OpenAs files other → IsBroken ending)
      → IfSome told (λ files. OpenAs files other
      → RestoresRecords files other name ending (written_to sink_before) (written_to sink_before))
  unopened-records None other ending broken = tt
  unopened-records (Some files) other ending broken = λ opens. broken-records files other name ending (written_to sink_before) (broken opens)

  unopened-first : (told : Option (File → List ℕ)) (ending : Outcome) → IfSome told (OpensFirst (λ flaw. ⊥) ending)
      → IfSome told (OpensFirst IsOfChunk ending)
  unopened-first None ending first = tt
  unopened-first (Some files) ending first = record {
    no_store = first.no_store;
    absent = first.absent;
    damaged = λ flaw is. elim (first.damaged flaw is) [ inl found ↦ inl found | inr never ↦ absurd never ];
    named = first.named;
  }

  unopened-sink : (told : Option (File → List ℕ))
      → IfSome told (λ files. (flaw : Damage) → IsOpeningDamage files flaw → sink_before ≡ sink_before)
  unopened-sink None = tt
  unopened-sink (Some files) = λ flaw found. refl

  none-refused : (state : Option State) → state ≡ None → (Pass-of state).outcome ≡ NoStore
  none-refused None is = refl
  none-refused (Some state) is = absurd cc

  none-late : (state : Option State) → IsEarly (Pass-of state).outcome → ⊥
  none-late None early = early
  none-late (Some state) early = late state (live_session_named (sessions_in state) name) early

  pub unopened_run : (ending : Outcome) → OpensStore (Err ending) files_of loose faults faultless before middle
      → IsCarriedOut Pass-of (Ok (quiet (Restore name))) ending
      written_to write_faults sink_faultless sink_before sink_before files_of loose faults faultless before middle
  unopened_run ending opens =
      let of = of_opening ending opens.refused.0 in
      let unmade = unmade_of ending of.unmade in record {
        on_state = λ state needs. record {
          answer = refuses_to_open state ending (files_of middle) (Pass-of state).outcome (none-refused state)
              (opens.on_state state needs);
          refused = λ early. absurd (none-late state early);
          written = unmade.writes (Pass-of state).text (written_to sink_before);
          nothing_to_write = λ _. refl;
        };
        held = λ state held. held-same (files_of middle) ending state (of.held state state)
            (still_held (files_of before) (files_of middle) state opens.kept.same_files held);
        clean = λ done. absurd (unmade.undone done);
        among = restore-among name ending of.listed;
        sink_counts = uncalled _ write_faults sink_faultless sink_before unmade.sink;
        shelf_counts = counted_as _ _ faults faultless before middle
            (λ is. ap (λ (e : Outcome). let r : Result StoreState Outcome = Err e in r) is) opens.counts;
        silent = λ _. refl;
        sink = unopened-sink (files_of before);
        shelf = opens.kept;
        verdict = unopened-first (files_of before) ending opens.refused.1;
        by_records = λ other. unopened-records (files_of before) other ending
            (broken_told (files_of before) other ending opens.refused.0 opens.refused.1);
      }
