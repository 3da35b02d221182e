-- A store is opened, whatever its files hold and if they hold a state.
use Rattle.std.proofs.Common.{◌≡◌, inl, inr, ℕ, List, [], refl, ap, sym, subst, ◌∙◌, arith}
use Rattle.std.specs.Prelude.{Err, IfSome, None, Ok, Option, Result, Some}
use Rattle.sha2.specs.Sha256.{sha256}
use Rattle.sha2.proofs.Facts256.{length-sha256}
use Rattle.edge_traits.specs.Shelf.{SameFiles}
use Rattle.ingest_core.specs.Faults.{outcome_of_store}
use Rattle.sd_base.specs.Opening.{IsOpeningDamage, OpenAs, Opened}
use Rattle.sd_base.specs.StateBooks.{book_of_state}
use Rattle.sd_base.specs.States.{IsLawful, State}
use Rattle.sd_base.specs.Stores.{Hold, HoldNoStore, HoldState}
use Rattle.sd_base.specs.declared.damage.Damage.{Damage}
use Rattle.sd_base.specs.declared.file.File.{File}
use Rattle.sd_base.specs.declared.outcome.Outcome.{Outcome}
use Rattle.sd_base.specs.declared.outcome.Outcome.TheVariants as outcome
use Rattle.sd_base.proofs.HeldStates.{held_state_opens}
use Rattle.store_core.specs.Faults.{IsOfOpening}
use Rattle.store_core.specs.Heads.{OnlyOpens}
use Rattle.store_core.specs.StoreStates.{StandsFor, StoreState}
use Rattle.store_core.specs.declared.fault.StoreFault.{StoreFault}
use Rattle.store_core.specs.declared.fault.StoreFault.TheVariants as store
use Rattle.store_core.proofs.StoreLemmas.{same-told}
use Rattle.store_core.proofs.Verdicts.{have_one_damage, no_store_is_not_opened, no_store_is_undamaged, open_undamaged}
use Rattle.backup_top.specs.Outcomes.{IsBroken}
use Rattle.backup_top.specs.Run.{AreHeld, OpensFirst}
use Rattle.backup_top.specs.Steps.{OnlyFailsToOpen, OpensOn}

-- ---- faults of the store, as outcomes

-- the fault that an outcome stands for
fault_in : Outcome → StoreFault
fault_in outcome.NoStore = store.NoStore
fault_in outcome.StoreThere = store.StoreThere
fault_in (outcome.Damaged flaw) = store.Damaged flaw
fault_in outcome.NameTaken = store.NameTaken
fault_in outcome.NoSession = store.NoSession
fault_in outcome.TooManySessions = store.TooManySessions
fault_in outcome.TooManyPlaces = store.TooManyPlaces
fault_in outcome.TooManyChunks = store.TooManyChunks
fault_in outcome.ShelfFault = store.ShelfFault
fault_in outcome.SinkFault = store.SinkFault
fault_in _ = store.OutOfMemory

back : (fault : StoreFault) → fault_in (outcome_of_store fault) ≡ fault
unfolding fault_in
back store.NoStore = refl
back store.StoreThere = refl
back (store.Damaged flaw) = refl
back store.NameTaken = refl
back store.NoSession = refl
back store.TooManySessions = refl
back store.TooManyPlaces = refl
back store.TooManyChunks = refl
back store.ShelfFault = refl
back store.SinkFault = refl
back store.OutOfMemory = refl

-- a fault is told from its outcome
pub fault_is : (fault other : StoreFault) → outcome_of_store fault ≡ outcome_of_store other → fault ≡ other
fault_is fault other same = sym (back fault) ∙ ap fault_in same ∙ back other

fault-or : {T : Type 0} → StoreFault → Result T StoreFault → StoreFault
fault-or other (Ok value) = other
fault-or other (Err fault) = fault

pub fault_of : {T : Type 0} {fault other : StoreFault} → ◌≡◌ {A = Result T StoreFault} (Err fault) (Err other) → fault ≡ other
unfolding fault-or
fault_of {fault = fault} same = ap (fault-or fault) same

pub refused_with : (T : Type 0) {fault other : StoreFault} → fault ≡ other → ◌≡◌ {A = Result T StoreFault} (Err fault) (Err other)
refused_with T same = ap (λ (f : StoreFault). let r : Result T StoreFault = Err f in r) same

outcome-or : {T : Type 0} → Outcome → Result T Outcome → Outcome
outcome-or other (Ok value) = other
outcome-or other (Err ending) = ending

pub in_error : {T : Type 0} {ending other : Outcome} → ◌≡◌ {A = Result T Outcome} (Err ending) (Err other) → ending ≡ other
unfolding outcome-or
in_error {ending = ending} same = ap (outcome-or ending) same

-- ---- files that have not changed

pub files_of_told : {P : (File → List ℕ) → Type 0} (told : Option (File → List ℕ)) (state : Option State)
    → ((files : File → List ℕ) → told ≡ Some files → IfSome state IsLawful → Hold sha256 files state → P files)
    → AreHeld told state → IfSome told P
files_of_told None state all held = absurd held
files_of_told (Some files) state all held = all files refl held.0 held.1

-- they hold the same state
pub still_held : (before after : Option (File → List ℕ)) (state : Option State) → SameFiles before after
    → AreHeld before state → AreHeld after state
still_held before after state same held =
    subst (λ (told : Option (File → List ℕ)). AreHeld told state) (sym (same-told before after same)) held

pub told_held : (told : Option (File → List ℕ)) (state : Option State) → AreHeld told state
    → IfSome told (λ files. Hold sha256 files state)
told_held None state held = absurd held
told_held (Some files) state held = held.1

-- what holds under each name function holds under this one
pub told_at : {A : Type 0} (P : (File → List ℕ) → A → Type 0) (told : Option (File → List ℕ)) (a : A)
    → IfSome told (λ files. (x : A) → P files x) → IfSome told (λ files. P files a)
told_at P None a all = tt
told_at P (Some files) a all = all a

-- ---- opening

pub opening_of : {T : Type 0} (fault : StoreFault)
    → ((flaw : Damage) → ◌≡◌ {A = Result T StoreFault} (Err fault) (Err (store.Damaged flaw)) → IsOfOpening flaw)
    → OnlyOpens {T = T} (Err fault) → OnlyFailsToOpen (outcome_of_store fault)
opening_of fault kind (inl is) = inr (inl (ap outcome_of_store (fault_of is)))
opening_of fault kind (inr (inl (flaw, is))) = inr (inr (flaw, kind flaw is, ap outcome_of_store (fault_of is)))
opening_of fault kind (inr (inr (inl is))) = inl (inl (ap outcome_of_store (fault_of is)))
opening_of fault kind (inr (inr (inr is))) = inl (inr (ap outcome_of_store (fault_of is)))

-- what opening names is what is there
pub opens_first : (files : File → List ℕ) (ending : Outcome) → OnlyFailsToOpen ending
    → (ending ≡ outcome.NoStore → HoldNoStore files)
    → ((flaw : Damage) → ending ≡ outcome.Damaged flaw → IsOpeningDamage files flaw)
    → OpensFirst (λ flaw. ⊥) ending files
opens_first files ending of no_store damaged = record {
  no_store = no_store;
  absent = λ none. elim of [
    | inl broken ↦ inl broken
    | inr (inl is) ↦ inr is
    | inr (inr (flaw, of_kind, is)) ↦ absurd (no_store_is_undamaged files flaw none (damaged flaw is))
  ];
  damaged = λ flaw is. inl (damaged flaw is);
  named = λ flaw found. elim of [
    | inl broken ↦ inl broken
    | inr (inl none) ↦ absurd (no_store_is_undamaged files flaw (no_store none) found)
    | inr (inr (other, of_kind, is)) ↦
        inr (is ∙ ap outcome.Damaged (have_one_damage files other flaw (damaged other is) found))
  ];
}

pub no_head : (files : File → List ℕ) (state : State) → HoldNoStore files → HoldState sha256 files state → ⊥
no_head files state none holds = omega (arith, none, holds.generation)

-- a refusal over files that hold a state
pub refused_on : (files : File → List ℕ) (state : Option State) (ending : Outcome) (after : Option (File → List ℕ))
    → OnlyFailsToOpen ending → OpensFirst (λ flaw. ⊥) ending files → IfSome state IsLawful → Hold sha256 files state
    → OpensOn state (Err ending) after
refused_on files None ending after of first lawful holds = elim of [
  | inl broken ↦ inl broken
  | inr (inl none) ↦ inr none
  | inr (inr (flaw, of_kind, is)) ↦ elim (first.damaged flaw is) [
    | inl found ↦ absurd (no_store_is_undamaged files flaw holds found)
    | inr never ↦ absurd never
  ]
]
refused_on files (Some state) ending after of first lawful holds = elim of [
  | inl broken ↦ broken
  | inr (inl none) ↦ absurd (no_head files state (first.no_store none) holds)
  | inr (inr (flaw, of_kind, is)) ↦ elim (first.damaged flaw is) [
    | inl found ↦ absurd (open_undamaged files
        (record {
          head = record { params = state.params; generation = state.generation };
          book = book_of_state sha256 state;
        })
        flaw (held_state_opens sha256 length-sha256 files state lawful holds) found)
    | inr never ↦ absurd never
  ]
]

-- a store that was opened
pub opened_on : (told after : Option (File → List ℕ)) (state : Option State) (opened : StoreState)
    → IfSome told (λ files. OpenAs files opened.opened)
    → ((s : State) → IfSome told (λ files. IsLawful s → HoldState sha256 files s
    → IfSome after (λ new. StandsFor sha256 opened new s [])))
    → AreHeld told state → OpensOn state (Ok opened) after
opened_on None after state opened opens stands held = absurd held
opened_on (Some files) after None opened opens stands held = no_store_is_not_opened files opened.opened held.1 opens
opened_on (Some files) after (Some state) opened opens stands held = stands state held.0 held.1

pub refused_told : (told after : Option (File → List ℕ)) (state : Option State) (ending : Outcome)
    → OnlyFailsToOpen ending → IfSome told (OpensFirst (λ flaw. ⊥) ending)
    → AreHeld told state → OpensOn state (Err ending) after
refused_told None after state ending of first held = absurd held
refused_told (Some files) after state ending of first held = refused_on files state ending after of first held.0 held.1

pub first_told : (told : Option (File → List ℕ)) (ending : Outcome) → OnlyFailsToOpen ending
    → (ending ≡ outcome.NoStore → IfSome told HoldNoStore)
    → ((flaw : Damage) → ending ≡ outcome.Damaged flaw → IfSome told (λ files. IsOpeningDamage files flaw))
    → IfSome told (OpensFirst (λ flaw. ⊥) ending)
first_told None ending of no_store damaged = tt
first_told (Some files) ending of no_store damaged = opens_first files ending of no_store damaged

-- over files that open, opening fails only with a fault
pub broken_to_open : (files : File → List ℕ) (opened : Opened) (ending : Outcome) → OnlyFailsToOpen ending
    → OpensFirst (λ flaw. ⊥) ending files → OpenAs files opened → IsBroken ending
broken_to_open files opened ending of first opens = elim of [
  | inl broken ↦ broken
  | inr (inl none) ↦ absurd (no_store_is_not_opened files opened (first.no_store none) opens)
  | inr (inr (flaw, of_kind, is)) ↦ elim (first.damaged flaw is) [
    | inl found ↦ absurd (open_undamaged files opened flaw opens found)
    | inr never ↦ absurd never
  ]
]

pub broken_told : (told : Option (File → List ℕ)) (opened : Opened) (ending : Outcome)
    → OnlyFailsToOpen ending → IfSome told (OpensFirst (λ flaw. ⊥) ending)
    → IfSome told (λ files. OpenAs files opened → IsBroken ending)
broken_told None opened ending of first = tt
broken_told (Some files) opened ending of first = broken_to_open files opened ending of first
