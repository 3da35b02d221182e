-- A store that is opened over files that hold a state.
use Rattle.std.proofs.Common.{◌≡◌, inl, inr, ℕ, ◌≤◌, true, false, List, [], Some, None, Err, IfSome, length, ap, sym, subst, ◌∙◌, arith}
use Rattle.std.specs.Prelude.{IsErrAnd, IsErrAnd, ◌⊎◌, is_some, Ok, OnErr, Result, Bool}
use Rattle.ingest_core.specs.ByBook.{refusal_by_book}
use Rattle.ingest_core.specs.Faults.{Fails, IsStoreFailure, outcome_of}
use Rattle.store_core.specs.Faults.{IsOfChunk}
use Rattle.ingest_core.specs.Ingests.{IsClosedTo, OpensFirst}
use Rattle.ingest_core.specs.ByBook.{IsOpenTo}
use Rattle.ingest_core.specs.declared.fault.IngestFault.{IngestFault}
use Rattle.ingest_core.specs.declared.fault.IngestFault.TheVariants.{Store}
use Rattle.sd_base.specs.Books.{live_session}
use Rattle.sd_base.specs.OnePass.{refusal_of_ingest}
use Rattle.sd_base.specs.Opening.{IsOpeningDamage, OpenAs, Opened}
use Rattle.sd_base.specs.StateBooks.{book_of_state}
use Rattle.sd_base.specs.States.{IsLawful, State, live_session_named, sessions_in}
use Rattle.sd_base.specs.Stores.{GivesNames, HoldNoStore, HoldState}
use Rattle.sd_base.specs.declared.damage.Damage.{Damage}
use Rattle.sd_base.specs.declared.file.File.{File}
use Rattle.sd_base.specs.declared.limits.TheConstants.{MAX_SESSIONS}
use Rattle.sd_base.proofs.HeldStates.{held_state_opens}
use Rattle.store_core.specs.Heads.{OnlyOpens}
use Rattle.store_core.specs.Shelves.{OnlyReads}
use Rattle.store_core.specs.StoreStates.{StandsFor, StoreState}
use Rattle.store_core.specs.declared.fault.StoreFault.{StoreFault}
use Rattle.store_core.specs.declared.fault.StoreFault.TheVariants.{Damaged, NameTaken, NoStore, OutOfMemory, ShelfFault, TooManySessions}
use Rattle.store_core.proofs.IngestLemmas.{book-live_session, book-session_count}
use Rattle.store_core.proofs.StoreLemmas.{Told}
use Rattle.store_core.proofs.Verdicts.{have_one_damage, no_store_is_not_opened, no_store_is_undamaged, open_as_one, open_undamaged}
use Rattle.ingest_core.proofs.FaultLemmas.{at-error, err-is, err-of, store-is}
use Rattle.ingest_core.proofs.Refusals.{refused-sessions, refused-taken}
use Rattle.ingest_core.proofs.TakingLemmas.{open-few, open-free}

-- a call that did not fail only read, whatever is said of its failure
pub reads-only : {F : Type 0} {fails other : Type 0} {files : F → Told} {loose : F → File → Bool} {faults : F → ℕ}
    {faultless : F → Type 0} {before after : F} → (other → ⊥) → OnlyReads fails files loose faults faultless before after →
    OnlyReads other files loose faults faultless before after
reads-only not reads = record {
  same_files = reads.same_files;
  same_loose = reads.same_loose;
  counts = record {
    failed = λ fails. absurd (not fails);
    never_falls = reads.counts.never_falls;
    faultless_serves = λ _ fails. not fails;
    faultless_counts_none = reads.counts.faultless_counts_none;
    stays_faultless = reads.counts.stays_faultless;
  };
}

-- what is said of the fault with which an ingest is refused at its opening
abbrev pub IsRefusalOf : State → List ℕ → IngestFault → Type 0
IsRefusalOf state name fault = Fails fault ⊎ ((input : List ℕ) → refusal_of_ingest state name input ≡ Some (outcome_of fault))

-- files that hold a state hold a store without damage
pub opening-refused : {S : Type 0} (name_of : List ℕ → List ℕ) → GivesNames name_of → (told : Told) (state : State) (name : List ℕ)
    (r : Result S StoreFault) (fault : StoreFault) → r ≡ Err fault → OnErr r (OnlyOpens r) →
    (r ≡ Err NoStore → IfSome told HoldNoStore) →
    ((damage : Damage) → r ≡ Err (Damaged damage) → IfSome told (λ files. IsOpeningDamage files damage)) →
    IfSome told (λ files. IsLawful state → HoldState name_of files state → IsRefusalOf state name (Store fault))
opening-refused name_of names None state name r fault is only none damaged = tt
opening-refused {S} name_of names (Some files) state name r fault is only none damaged = λ lawful held.
    let refused : OnlyOpens r = at-error (λ _. OnlyOpens r) r fault is only in
    elim refused [
      | inl nothing ↦ let short = none nothing in let size = held.generation in absurd omega (arith, short, size)
      | inr (inl bad) ↦ absurd (open_undamaged files (record { head = record { params = state.params; generation = state.generation }; book = book_of_state name_of state })
          bad.0 (held_state_opens name_of names files state lawful held) (damaged bad.0 bad.1))
      | inr (inr (inl shelf)) ↦ inl (subst (λ (f : StoreFault). Fails (Store f)) (sym (err-is (sym is ∙ shelf))) tt)
      | inr (inr (inr memory)) ↦ inl (subst (λ (f : StoreFault). Fails (Store f)) (sym (err-is (sym is ∙ memory))) tt)
    ]

module _ (name_of : List ℕ → List ℕ) (store : StoreState) (name : List ℕ) where
  abbrev pub Stands : State → Told → Told → Type 0
  Stands state told now =
      IfSome told (λ before. IsLawful state → HoldState name_of before state →
      IfSome now (λ after. StandsFor name_of store after state []))

  -- what follows if the store stands for a state follows if the files hold it
  pub if_held : (R : Type 0) (told now : Told) (state : State) → now ≡ told → Stands state told now →
      ((files : File → List ℕ) → StandsFor name_of store files state [] → R) →
      IfSome told (λ files. IsLawful state → HoldState name_of files state → R)
  if_held R None now state same stands follows = tt
  if_held R (Some files) now state same stands follows = λ lawful held.
      follows files (subst (λ (t : Told). IfSome t (λ f. StandsFor name_of store f state [])) same (stands lawful held))

  -- a store that is open to a session of a name stands for no state that is closed to it
  pub closed-not : IsOpenTo store.opened.book name → (state : State) (files : File → List ℕ) →
      StandsFor name_of store files state [] → IsClosedTo state name → ⊥
  closed-not is_open state files stands (inl taken) =
      let free = open-free name_of store files state stands name is_open in
      let clash : true ≡ false = sym taken ∙ ap is_some free in absurd cc
  closed-not is_open state files stands (inr full) =
      let few = open-few name_of store files state stands name is_open in omega (arith, few, full)

  -- the live session of the name is that of the state
  same-live : (state : State) (files : File → List ℕ) → StandsFor name_of store files state [] →
      live_session store.opened.book.sessions name ≡ live_session_named (sessions_in state) name
  same-live state files stands =
      ap (λ (o : Opened). live_session o.book.sessions name) stands.opened ∙ book-live_session name_of state name

  pub taken-refused : is_some (live_session store.opened.book.sessions name) ≡ true → (state : State)
      (files : File → List ℕ) → StandsFor name_of store files state [] → IsRefusalOf state name (Store NameTaken)
  taken-refused taken state files stands =
      inr (λ input. refused-taken state name input (sym (ap is_some (same-live state files stands)) ∙ taken))

  pub full-refused : live_session store.opened.book.sessions name ≡ None →
      MAX_SESSIONS ≤ length store.opened.book.sessions → (state : State)
      (files : File → List ℕ) → StandsFor name_of store files state [] → IsRefusalOf state name (Store TooManySessions)
  full-refused free full state files stands =
      let count = same-count state files stands in
      inr (λ input. refused-sessions state name input (sym (same-live state files stands) ∙ free) (omega (arith, full, count)))
    where
      same-count : (s : State) (f : File → List ℕ) → StandsFor name_of store f s [] →
          length store.opened.book.sessions ≡ length (sessions_in s)
      same-count s f holds =
          ap (λ (o : Opened). length o.book.sessions) holds.opened ∙ book-session_count name_of s

-- what opening makes of a call that it refuses
pub opens-refused : {S T : Type 0} (told : Told) (r : Result S StoreFault) (fault : StoreFault) (q : Result T IngestFault) →
    r ≡ Err fault → IsErrAnd q (λ e. e ≡ Store fault) → OnErr r (OnlyOpens r) →
    (r ≡ Err NoStore → IfSome told HoldNoStore) →
    ((damage : Damage) → r ≡ Err (Damaged damage) → IfSome told (λ files. IsOpeningDamage files damage)) →
    IfSome told (OpensFirst q)
opens-refused None r fault q is gave only none damaged = tt
opens-refused (Some files) r fault (Ok x) is gave only none damaged = absurd gave
opens-refused {S} {T} (Some files) r fault (Err e) is gave only none damaged = record {
  no_store = λ same. none (is ∙ err-of S (store-is (sym gave ∙ err-is same)));
  absent = λ absent. elim refused [
    | inl nothing ↦ inr (gave ∙ ap (λ (f : StoreFault). Store f) (err-is (sym is ∙ nothing)))
    | inr (inl bad) ↦ absurd (no_store_is_undamaged files bad.0 absent (damaged bad.0 bad.1))
    | inr (inr failed) ↦ inl (fails failed)
  ];
  damaged = λ damage same. inl (damaged damage (is ∙ err-of S (store-is (sym gave ∙ err-is same))));
  named = λ damage found. elim refused [
    | inl nothing ↦ absurd (no_store_is_undamaged files damage (none nothing) found)
    | inr (inl bad) ↦ inr (gave ∙ ap (λ (f : StoreFault). Store f) (err-is (sym is ∙ bad.1))
        ∙ ap (λ (d : Damage). Store (Damaged d)) (have_one_damage files bad.0 damage (damaged bad.0 bad.1) found))
    | inr (inr failed) ↦ inl (fails failed)
  ];
} where
  refused : OnlyOpens r
  refused = at-error (λ _. OnlyOpens r) r fault is only

  fails : (r ≡ Err ShelfFault) ⊎ (r ≡ Err OutOfMemory) → IsStoreFailure e
  fails (inl shelf) = subst IsStoreFailure (sym (gave ∙ ap (λ (f : StoreFault). Store f) (err-is (sym is ∙ shelf)))) tt
  fails (inr memory) = subst IsStoreFailure (sym (gave ∙ ap (λ (f : StoreFault). Store f) (err-is (sym is ∙ memory)))) tt

-- what opening makes of a call after the store was opened
pub opens-opened : {T : Type 0} (told : Told) (opened : Opened) (q : Result T IngestFault) →
    IfSome told (λ files. OpenAs files opened) → (q ≡ Err (Store NoStore) → ⊥) →
    ((damage : Damage) → q ≡ Err (Store (Damaged damage)) → IsOfChunk damage) → IfSome told (OpensFirst q)
opens-opened None opened q opens no_store damaged = tt
opens-opened (Some files) opened q opens no_store damaged = record {
  no_store = λ same. absurd (no_store same);
  absent = λ absent. absurd (no_store_is_not_opened files opened absent opens);
  damaged = λ damage same. inr (damaged damage same);
  named = λ damage found. absurd (open_undamaged files opened damage opens found);
}

-- ---- by the committed records

-- what is said of the fault with which an ingest is refused at its opening
abbrev pub IsBookRefusal : Opened → List ℕ → IngestFault → Type 0
IsBookRefusal opened name fault = IsStoreFailure fault
    ⊎ ((input : List ℕ) → refusal_by_book opened name input ≡ Some (outcome_of fault))

-- files that open are refused only by a failure
pub by-opening : {S : Type 0} (told : Told) (r : Result S StoreFault) (fault : StoreFault) → r ≡ Err fault →
    OnErr r (OnlyOpens r) → (r ≡ Err NoStore → IfSome told HoldNoStore) →
    ((damage : Damage) → r ≡ Err (Damaged damage) → IfSome told (λ files. IsOpeningDamage files damage)) →
    (name : List ℕ) (opened : Opened) → IfSome told (λ files. OpenAs files opened → IsBookRefusal opened name (Store fault))
by-opening None r fault is only none damaged name opened = tt
by-opening (Some files) r fault is only none damaged name opened = λ opens.
    let refused : OnlyOpens r = at-error (λ _. OnlyOpens r) r fault is only in
    elim refused [
      | inl nothing ↦ absurd (no_store_is_not_opened files opened (none nothing) opens)
      | inr (inl bad) ↦ absurd (open_undamaged files opened bad.0 opens (damaged bad.0 bad.1))
      | inr (inr (inl shelf)) ↦ inl (subst (λ (f : StoreFault). IsStoreFailure (Store f)) (sym (err-is (sym is ∙ shelf))) tt)
      | inr (inr (inr memory)) ↦ inl (subst (λ (f : StoreFault). IsStoreFailure (Store f)) (sym (err-is (sym is ∙ memory))) tt)
    ]

-- files that open do so with the records of the store
pub by-opened : (told : Told) (own : Opened) (P : Opened → Type 0) → IfSome told (λ files. OpenAs files own) → P own →
    (opened : Opened) → IfSome told (λ files. OpenAs files opened → P opened)
by-opened None own P opens holds opened = tt
by-opened (Some files) own P opens holds opened = λ here. subst P (open_as_one files own opened opens here) holds
