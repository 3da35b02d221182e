-- A run of `init`: the store is made, and then the text says so.
use Rattle.std.proofs.Common.{◌≡◌, inl, inr, ℕ, ◌≤◌, Bool, false, List, [], ◌∷◌, length, refl, ap, sym, subst, ◌∙◌, arith}
use Rattle.std.specs.Prelude.{◌≢◌, ◌⊎◌, Err, IfSome, MatchOption, None, Ok, Option, Some, String, string_bytes}
use Rattle.std.specs.declared.alloc.Global.{Global}
use Rattle.sha2.specs.Sha256.{sha256}
use Rattle.edge_traits.specs.Shelf.{SameFiles, SameLoose, content}
use Rattle.ingest_core.specs.Faults.{outcome_of_store}
use Rattle.sd_base.specs.OnePass.{pass_of_init, pass_of_valid_init}
use Rattle.sd_base.specs.Parameters.{bad_parameter}
use Rattle.sd_base.specs.States.{State, new_state}
use Rattle.sd_base.specs.Stores.{AreClean, Hold, HoldNoStore, HoldState}
use Rattle.sd_base.specs.Texts.{ready_text}
use Rattle.sd_base.specs.declared.file.File.{File}
use Rattle.sd_base.specs.declared.file.File.TheVariants.{Head, Seal}
use Rattle.sd_base.specs.declared.limits.TheConstants.{OPEN_HEAD_LEN}
use Rattle.sd_base.specs.declared.outcome.Outcome.{Outcome}
use Rattle.sd_base.specs.declared.outcome.Outcome.TheVariants.{Done, BadParams, StoreThere, SinkFault, ShelfFault, OutOfMemory}
use Rattle.sd_base.specs.declared.params.BadParams.{BadParams as BadParameter}
use Rattle.sd_base.specs.declared.raw_params.RawParams.{RawParams}
use Rattle.sd_base.specs.declared.words.Command.TheVariants.{Quiet as quiet}
use Rattle.sd_base.specs.declared.words.Quiet.TheVariants.{Init}
use Rattle.store_core.specs.Shelves.{CountsFaults}
use Rattle.store_core.specs.Stores.{LeavesNoneOrNew, OnlyMakes}
use Rattle.store_core.specs.declared.fault.StoreFault.{StoreFault}
use Rattle.backup_top.specs.Outcomes.{EndsAs, IsBroken, IsEarly, IsOneOf, LeavesStore}
use Rattle.backup_top.specs.Run.{AreHeld, KeepsFiles, LooksForStore, MayReturn, StayClean}
use Rattle.backup_top.specs.Steps.{IsUnmade, Made, MakesText, MakesTextOf}
use Rattle.backup_top.proofs.Lists.{leaves_broken}
use Rattle.backup_top.proofs.Openings.{fault_of, in_error, no_head, still_held, told_held}
use Rattle.backup_top.proofs.Runs.{counted_as, ends_broken, no_records, of_write, uncalled}

-- an outcome with which the making of a store is refused
abbrev pub IsOfInit : Outcome → Type 0
IsOfInit ending = IsBroken ending ⊎ (ending ≡ StoreThere)

pub init_of : {T : Type 0} (fault : StoreFault) → OnlyMakes {T = T} (Err fault) → IsOfInit (outcome_of_store fault)
init_of fault (inl is) = inr (ap outcome_of_store (fault_of is))
init_of fault (inr (inl is)) = inl (inl (ap outcome_of_store (fault_of is)))
init_of fault (inr (inr is)) = inl (inr (ap outcome_of_store (fault_of is)))

-- ---- the pass of `init`

-- the refusal of a store that is there
there-refused : (raw : RawParams) (told : Option (File → List ℕ)) (state : Option State) (ending : Outcome)
    → IsOfInit ending → (ending ≡ StoreThere → IfSome told (λ files. OPEN_HEAD_LEN ≤ length (files Head)))
    → AreHeld told state → EndsAs (pass_of_valid_init raw state).outcome ending
there-refused raw None state ending of there held = absurd held
there-refused raw (Some files) state ending (inl broken) there held = ends_broken _ ending broken
there-refused raw (Some files) None ending (inr is) there held =
    absurd (let long = there is in omega (arith, long, held.1))
there-refused raw (Some files) (Some state) ending (inr is) there held =
    subst (EndsAs StoreThere) (sym is) refl

init-late : (raw : RawParams) (state : Option State) → IsEarly (pass_of_valid_init raw state).outcome → ⊥
init-late raw None early = early
init-late raw (Some state) early = early

-- a store is made only where there was none
made-on : (raw : RawParams) (text : String Global) (told : Option (File → List ℕ)) (state : Option State)
    → IfSome told HoldNoStore → string_bytes text ≡ ready_text → AreHeld told state
    → MakesTextOf (pass_of_valid_init raw state) (Ok text)
made-on raw text None state absent is held = absurd held
made-on raw text (Some files) None absent is held = (refl, sym is)
made-on raw text (Some files) (Some state) absent is held = absurd (no_head files state absent held.1)

made-held : (raw : RawParams) (before after : Option (File → List ℕ)) (state : Option State)
    → IfSome before HoldNoStore → IfSome after (λ files. HoldState sha256 files (new_state raw)) → AreHeld before state
    → IfSome after (λ files. Hold sha256 files (pass_of_valid_init raw state).after)
made-held raw None after state absent made held = absurd held
made-held raw (Some files) after None absent made held = made
made-held raw (Some files) after (Some state) absent made held = absurd (no_head files state absent held.1)

made-clean : (raw : RawParams) (before after : Option (File → List ℕ)) (state : Option State)
    → IfSome before HoldNoStore → IfSome before (λ had. AreClean sha256 had None
    → IfSome after (λ files. AreClean sha256 files (Some (new_state raw)))) → AreHeld before state
    → StayClean before after state (pass_of_valid_init raw state).after
made-clean raw None after state absent clean held = tt
made-clean raw (Some files) after None absent clean held = clean
made-clean raw (Some files) after (Some state) absent clean held = absurd (no_head files state absent held.1)

-- the files hold no store, or the whole new one; and a store that is there stays
broken-held : (raw : RawParams) (before after : Option (File → List ℕ)) (state : Option State)
    → LeavesNoneOrNew raw before after
    → IfSome before (λ files. OPEN_HEAD_LEN ≤ length (files Head) → SameFiles before after) → AreHeld before state
    → IfSome after (λ files. Hold sha256 files state ⊎ Hold sha256 files (pass_of_valid_init raw state).after)
broken-held raw None after state either kept held = absurd held
broken-held raw (Some files) None state either kept held = tt
broken-held raw (Some files) (Some then) None either kept held = elim (either held.1) [
  | inl none ↦ inl none
  | inr new ↦ inr (new sha256)
]
broken-held raw (Some files) (Some then) (Some state) either kept held =
    let long : OPEN_HEAD_LEN ≤ length (files Head) = omega (arith, held.1.generation) in
    inl (told_held (Some then) (Some state) (still_held (Some files) (Some then) (Some state) (kept long) held))

there-held : (raw : RawParams) (before after : Option (File → List ℕ)) (state : Option State) (ending : Outcome)
    → IsOfInit ending → LeavesNoneOrNew raw before after
    → IfSome before (λ files. OPEN_HEAD_LEN ≤ length (files Head) → SameFiles before after)
    → (ending ≡ StoreThere → SameFiles before after) → AreHeld before state
    → IfSome after (LeavesStore ending state (pass_of_valid_init raw state).after)
there-held raw before after state ending (inl broken) either kept same held =
    leaves_broken ending state _ after broken (broken-held raw before after state either kept held)
there-held raw before after state ending (inr is) either kept same held =
    subst (λ (e : Outcome). IfSome after (LeavesStore e state (pass_of_valid_init raw state).after)) (sym is)
    (told_held after state (still_held before after state (same is) held))

unmade-init : (ending : Outcome) → IsOfInit ending → IsUnmade ending
unmade-init ending (inl (inl is)) = subst IsUnmade (sym is) tt
unmade-init ending (inl (inr is)) = subst IsUnmade (sym is) tt
unmade-init ending (inr is) = subst IsUnmade (sym is) tt

among-init : (ending : Outcome) → IsOfInit ending
    → IsOneOf (Done ∷ SinkFault ∷ OutOfMemory ∷ StoreThere ∷ ShelfFault ∷ []) ending
among-init ending (inl (inl is)) = inr (inr (inr (inr (inl is))))
among-init ending (inl (inr is)) = inr (inr (inl is))
among-init ending (inr is) = inr (inr (inr (inl is)))

late-init : (ending : Outcome) → IsOfInit ending → IsEarly ending → ⊥
late-init ending (inl (inl is)) early = subst IsEarly is early
late-init ending (inl (inr is)) early = subst IsEarly is early
late-init ending (inr is) early = subst IsEarly is early

abbrev IsDoneOrUnwritten : Outcome → Type 0
IsDoneOrUnwritten ending = (ending ≡ Done) ⊎ (ending ≡ SinkFault)

undone-at : (ending other : Outcome) → ending ≡ other → (other ≡ Done → ⊥) → (other ≡ SinkFault → ⊥)
    → IsDoneOrUnwritten ending → ⊥
undone-at ending other is not_done not_sink (inl done) = not_done (sym is ∙ done)
undone-at ending other is not_done not_sink (inr sink) = not_sink (sym is ∙ sink)

undone-init : (ending : Outcome) → IsOfInit ending → IsDoneOrUnwritten ending → ⊥
undone-init ending (inl (inl is)) = undone-at ending ShelfFault is (λ clash. absurd cc) (λ clash. absurd cc)
undone-init ending (inl (inr is)) = undone-at ending OutOfMemory is (λ clash. absurd cc) (λ clash. absurd cc)
undone-init ending (inr is) = undone-at ending StoreThere is (λ clash. absurd cc) (λ clash. absurd cc)

looks-refused : (told : Option (File → List ℕ)) (ending : Outcome) → IsOfInit ending
    → (ending ≡ StoreThere → IfSome told (λ files. OPEN_HEAD_LEN ≤ length (files Head)))
    → IfSome told (LooksForStore ending)
looks-refused None ending of there = tt
looks-refused (Some files) ending of there = record { there = there; refused = λ long. of }

looks-made : (told : Option (File → List ℕ)) (ending : Outcome) → IfSome told HoldNoStore → (ending ≡ StoreThere → ⊥)
    → IfSome told (LooksForStore ending)
looks-made None ending absent never = tt
looks-made (Some files) ending absent never = record {
  there = λ is. absurd (never is);
  refused = λ long. absurd (omega (arith, absent, long));
}

module _ {F : Type 0} (raw : RawParams) (valid : bad_parameter raw ≡ None)
    (files_of : F → Option (File → List ℕ)) (loose : F → File → Bool) (faults : F → ℕ)
    (faultless : F → Type 0) (before after : F) where
  abbrev Inits : Made → Type 0
  Inits made = MakesText (pass_of_valid_init raw) (Ok (quiet (Init raw))) made files_of loose faults faultless before after

  among : (ending : Outcome) → IsOneOf (Done ∷ SinkFault ∷ OutOfMemory ∷ StoreThere ∷ ShelfFault ∷ []) ending
      → MayReturn (Ok (quiet (Init raw))) ending
  among ending is = subst
      (λ (flaw : Option BadParameter). MatchOption flaw
      (IsOneOf (Done ∷ SinkFault ∷ OutOfMemory ∷ StoreThere ∷ ShelfFault ∷ []) ending) (λ kind. ending ≡ BadParams kind))
      (sym valid) is

  -- a store that is there stays as it is
  abbrev Stays : Type 0
  Stays = IfSome (files_of before) (λ files. OPEN_HEAD_LEN ≤ length (files Head) → KeepsFiles files_of loose before after)

  kept-files : (told : Option (File → List ℕ))
      → IfSome told (λ files. OPEN_HEAD_LEN ≤ length (files Head) → KeepsFiles files_of loose before after)
      → IfSome told (λ files. OPEN_HEAD_LEN ≤ length (files Head) → SameFiles (files_of before) (files_of after))
  kept-files None stays = tt
  kept-files (Some files) stays = λ long. (stays long).same_files

  abbrev OthersKept : Type 0
  OthersKept = ((f : File) → f ≢ Head → f ≢ Seal 0 → content (files_of after) f ≡ content (files_of before) f)
      × ((f : File) → f ≢ Head → f ≢ Seal 0 → loose after f ≡ loose before f)

  -- the store was made
  pub init_made : (text : String Global) → string_bytes text ≡ ready_text → IfSome (files_of before) HoldNoStore
      → IfSome (files_of after) (λ files. HoldState sha256 files (new_state raw)) → OthersKept
      → (loose after Head ≡ false) × (loose after (Seal 0) ≡ false)
      → IfSome (files_of before) (λ had. AreClean sha256 had None
      → IfSome (files_of after) (λ files. AreClean sha256 files (Some (new_state raw))))
      → Stays → CountsFaults ⊥ faults faultless before after → Inits (Ok text)
  init_made text is absent made others flushed clean stays counts = record {
    on_state = λ state needs. made-on raw text (files_of before) state absent is (needs valid);
    held = λ state held. made-held raw (files_of before) (files_of after) state absent made held;
    clean = λ state held. made-clean raw (files_of before) (files_of after) state absent clean held;
    unmade = tt;
    among = λ outcome ends. among outcome ((of_write outcome ends).among (StoreThere ∷ ShelfFault ∷ []));
    counts = counted_as _ _ faults faultless before after (λ clash. absurd cc) counts;
    shelf = λ outcome ends. record {
      early = λ early. absurd ((of_write outcome ends).late early);
      refused = λ there. absurd ((of_write outcome ends).there there);
      other_files = others.0;
      other_loose = others.1;
      kept = stays;
      flushed = λ _. flushed;
    };
    verdict = λ outcome ends _. looks-made (files_of before) outcome absent (of_write outcome ends).there;
    by_records = λ opened. no_records _ (files_of before);
  }

  -- it was not
  pub init_refused : (ending : Outcome) → IsOfInit ending
      → (ending ≡ StoreThere → IfSome (files_of before) (λ files. OPEN_HEAD_LEN ≤ length (files Head)))
      → (ending ≡ StoreThere → KeepsFiles files_of loose before after) → OthersKept
      → LeavesNoneOrNew raw (files_of before) (files_of after) → Stays
      → CountsFaults (ending ≡ ShelfFault) faults faultless before after → Inits (Err ending)
  init_refused ending of there kept others either stays counts = record {
    on_state = λ state needs. (
      there-refused raw (files_of before) state ending of there (needs valid),
      λ early. absurd (init-late raw state early),
    );
    held = λ state held. there-held raw (files_of before) (files_of after) state ending of either
        (kept-files (files_of before) stays) (λ is. (kept is).same_files) held;
    clean = tt;
    unmade = unmade-init ending of;
    among = λ outcome ends. among outcome
        (subst (IsOneOf (Done ∷ SinkFault ∷ OutOfMemory ∷ StoreThere ∷ ShelfFault ∷ [])) (sym ends) (among-init ending of));
    counts = counted_as _ _ faults faultless before after (λ is. in_error is) counts;
    shelf = λ outcome ends. record {
      early = λ early. absurd (late-init ending of (subst IsEarly ends early));
      refused = λ is. kept (sym ends ∙ is);
      other_files = others.0;
      other_loose = others.1;
      kept = stays;
      flushed = λ done. absurd (undone-init ending of (subst IsDoneOrUnwritten ends done));
    };
    verdict = λ outcome ends _. subst (λ (o : Outcome). IfSome (files_of before) (LooksForStore o)) (sym ends)
        (looks-refused (files_of before) ending of there);
    by_records = λ opened. no_records _ (files_of before);
  }

-- files that were not changed hold no store still
pub none_still : (raw : RawParams) (told : Option (File → List ℕ)) → LeavesNoneOrNew raw told told
none_still raw None = tt
none_still raw (Some files) = λ none. inl none

pub stays_of : {F : Type 0} (files_of : F → Option (File → List ℕ)) (loose : F → File → Bool) (before after : F)
    → IfSome (files_of before) (λ files. OPEN_HEAD_LEN ≤ length (files Head)
    → SameFiles (files_of before) (files_of after) × SameLoose (loose before) (loose after))
    → IfSome (files_of before) (λ files. OPEN_HEAD_LEN ≤ length (files Head) → KeepsFiles files_of loose before after)
stays_of files_of loose before after kept = at (files_of before) kept where
  at : (told : Option (File → List ℕ)) → IfSome told (λ files. OPEN_HEAD_LEN ≤ length (files Head)
      → SameFiles (files_of before) (files_of after) × SameLoose (loose before) (loose after))
      → IfSome told (λ files. OPEN_HEAD_LEN ≤ length (files Head) → KeepsFiles files_of loose before after)
  at None all = tt
  at (Some files) all = λ long. let same = all long in record { same_files = same.0; same_loose = same.1 }

pub same-stays : {P : Type 0} (told : Option (File → List ℕ)) → P
    → IfSome told (λ files. OPEN_HEAD_LEN ≤ length (files Head) → P)
same-stays None holds = tt
same-stays (Some files) holds = λ long. holds

-- a parameter that is out of its range
pub init_bad : {F : Type 0} (raw : RawParams) (kind : BadParameter) → Some kind ≡ bad_parameter raw
    → (files_of : F → Option (File → List ℕ)) (loose : F → File → Bool) (faults : F → ℕ) (faultless : F → Type 0) (shelf : F)
    → MakesText (pass_of_init (bad_parameter raw) raw) (Ok (quiet (Init raw))) (Err (BadParams kind))
    files_of loose faults faultless shelf shelf
init_bad raw kind is files_of loose faults faultless shelf = record {
  on_state = λ state needs. subst
      (λ (flaw : Option BadParameter). MakesTextOf (pass_of_init flaw raw state) (Err (BadParams kind))) is
      (refl, λ early. refl);
  held = λ state held. subst
      (λ (flaw : Option BadParameter). IfSome (files_of shelf)
      (LeavesStore (BadParams kind) state (pass_of_init flaw raw state).after)) is
      (told_held (files_of shelf) state held);
  clean = tt;
  unmade = tt;
  among = λ outcome ends. subst
      (λ (flaw : Option BadParameter). MatchOption flaw
      (IsOneOf (Done ∷ SinkFault ∷ OutOfMemory ∷ StoreThere ∷ ShelfFault ∷ []) outcome) (λ k. outcome ≡ BadParams k)) is ends;
  counts = uncalled _ faults faultless shelf (λ clash. absurd cc);
  shelf = λ outcome ends. record {
    early = λ _. refl;
    refused = λ _. record { same_files = λ f. refl; same_loose = λ f. refl };
    other_files = λ f not_head not_seal. refl;
    other_loose = λ f not_head not_seal. refl;
    kept = same-stays (files_of shelf) (record { same_files = λ f. refl; same_loose = λ f. refl });
    flushed = λ done. absurd (undone-at outcome (BadParams kind) ends (λ clash. absurd cc) (λ clash. absurd cc) done);
  };
  verdict = λ outcome ends none. absurd (let clash : Some kind ≡ None = is ∙ none in cc);
  by_records = λ opened. no_records _ (files_of shelf);
}
