-- What an audit found in files, and what it returns by that.
use Rattle.std.proofs.Common.{◌≡◌, inl, inr, ℕ, List, ap, sym, subst, ◌∙◌, IfSome}
use Rattle.std.specs.Prelude.{Err, IfErr, IfOk, IsErrAnd, None, Ok, OnErr, OnOk, Option, Result, Some}
use Rattle.ingest_core.proofs.FaultLemmas.{err-is, err-of, passed-is}
use Rattle.ingest_core.specs.Auditing.{AuditsFiles, HoldStateOf, IsDoneAs, IsFirstDamage, IsOfAudit, IsRefusedAs, ReturnsFlaw, counts_of}
use Rattle.ingest_core.specs.declared.auditing.Audited.{Audited}
use Rattle.sd_base.specs.Audits.{StoreCounts, counts_of_book, counts_of_state}
use Rattle.sd_base.specs.FlawLaws.{opened_of}
use Rattle.sd_base.specs.Flaws.{IsFlawOf}
use Rattle.sd_base.specs.Opening.{IsOpeningDamage, OpenAs, Opened}
use Rattle.sd_base.specs.States.{IsLawful, State}
use Rattle.sd_base.specs.Stores.{GivesNames, HoldNoStore, HoldState}
use Rattle.sd_base.specs.declared.damage.Damage.{Damage}
use Rattle.sd_base.specs.declared.file.File.{File}
use Rattle.sd_base.proofs.Flawless.{counts-book, held-flawless}
use Rattle.sd_base.proofs.FlawlessStates.{flawless-state}
use Rattle.sd_base.proofs.HeldStates.{held_state_opens}
use Rattle.sd_base.proofs.OneFlaw.{one-flaw}
use Rattle.store_core.proofs.Verdicts.{have_one_damage, no_store_is_not_opened, no_store_is_undamaged, open_as_one, open_undamaged}
use Rattle.store_core.specs.Containers.{OnlyFinds}
use Rattle.store_core.specs.Heads.{OnlyOpens}
use Rattle.store_core.specs.declared.fault.StoreFault.{StoreFault}
use Rattle.store_core.specs.declared.fault.StoreFault.TheVariants.{Damaged, NoStore}

-- the files open so, have no flaw, and these are the counts of their book
abbrev pub IsFlawless : (List ℕ → List ℕ) → (File → List ℕ) → StoreCounts → Opened → Type 0
IsFlawless name_of files counts opened =
    OpenAs files opened × IsFlawOf name_of files opened None × (counts ≡ counts_of_book opened.book)

-- what an audit found
pub record Finds (name_of : List ℕ → List ℕ) (files : File → List ℕ) (result : Result Audited StoreFault) : Type 0 where
  pub done : IfOk result (λ audited. (opened : Opened) × IsFlawless name_of files (counts_of audited) opened)
  pub damaged : (damage : Damage) → result ≡ Err (Damaged damage) → IsFirstDamage name_of files damage
  pub no_store : result ≡ Err NoStore → HoldNoStore files
  pub only : IfErr result IsOfAudit

module _ (name_of : List ℕ → List ℕ) (names : GivesNames name_of) (files : File → List ℕ) where
  -- over files that open, no audit finds that there is no store
  opens-no_store : (opened : Opened) → OpenAs files opened → HoldNoStore files → ⊥
  opens-no_store opened opens none = no_store_is_not_opened files opened none opens

  -- the first damage of files that open is their first flaw
  opens-flaw : (opened : Opened) → OpenAs files opened → (damage : Damage) → IsFirstDamage name_of files damage →
      IsFlawOf name_of files opened (Some damage)
  opens-flaw opened opens damage (inl wrong) = absurd (open_undamaged files opened damage opens wrong)
  opens-flaw opened opens damage (inr found) =
      subst (λ (o : Opened). IsFlawOf name_of files o (Some damage)) (open_as_one files found.0 opened found.1 opens) found.2

  -- over files that open, the audit returns their first flaw
  returns-flaw : (result : Result Audited StoreFault) → Finds name_of files result → (opened : Opened) → OpenAs files opened →
      (flaw : Option Damage) → IsFlawOf name_of files opened flaw → ReturnsFlaw opened flaw result
  returns-flaw (Ok audited) finds opened opens None flaw =
      let done = finds.done in
      record {
        counted = done.1.2 ∙ ap (λ (o : Opened). counts_of_book o.book) (open_as_one files done.0 opened done.1.0 opens);
        refused = tt;
      }
  returns-flaw (Ok audited) finds opened opens (Some damage) flaw =
      let done = finds.done in
      let none = subst (λ (o : Opened). IsFlawOf name_of files o None) (open_as_one files done.0 opened done.1.0 opens) done.1.1 in
      let clash : None ≡ Some damage = one-flaw name_of files opened None (Some damage) none flaw in
      absurd cc
  returns-flaw (Err fault) finds opened opens None flaw = record {
    counted = tt;
    refused = elim finds.only [
      | inl broken ↦ broken
      | inr (inl none) ↦ absurd (opens-no_store opened opens (finds.no_store (ap (λ (f : StoreFault). let r : Result Audited StoreFault = Err f in r) none)))
      | inr (inr wrong) ↦
          let found = finds.damaged wrong.0 (ap (λ (f : StoreFault). let r : Result Audited StoreFault = Err f in r) wrong.1) in
          let clash : None ≡ Some wrong.0 = one-flaw name_of files opened None (Some wrong.0) flaw (opens-flaw opened opens wrong.0 found) in
          absurd cc
    ];
  }
  returns-flaw (Err fault) finds opened opens (Some damage) flaw = elim finds.only [
    | inl broken ↦ inl broken
    | inr (inl none) ↦ absurd (opens-no_store opened opens (finds.no_store (ap (λ (f : StoreFault). let r : Result Audited StoreFault = Err f in r) none)))
    | inr (inr wrong) ↦
        let found = finds.damaged wrong.0 (ap (λ (f : StoreFault). let r : Result Audited StoreFault = Err f in r) wrong.1) in
        let same : Some wrong.0 ≡ Some damage =
        one-flaw name_of files opened (Some wrong.0) (Some damage) (opens-flaw opened opens wrong.0 found) flaw in
        let is : wrong.0 ≡ damage = cc in
        inr (wrong.1 ∙ ap (λ (d : Damage). Damaged d) is)
  ]

  -- without a store the audit says so
  absent-refused : (result : Result Audited StoreFault) → Finds name_of files result → HoldNoStore files → IsRefusedAs result NoStore
  absent-refused (Ok audited) finds none = opens-no_store finds.done.0 finds.done.1.0 none
  absent-refused (Err fault) finds none = elim finds.only [
    | inl broken ↦ inl broken
    | inr (inl is) ↦ inr is
    | inr (inr wrong) ↦ elim (finds.damaged wrong.0 (ap (λ (f : StoreFault). let r : Result Audited StoreFault = Err f in r) wrong.1)) [
      | inl opening ↦ absurd (no_store_is_undamaged files wrong.0 none opening)
      | inr found ↦ absurd (opens-no_store found.0 found.1 none)
    ]
  ]

  -- a damage of opening is returned
  opening-refused : (result : Result Audited StoreFault) → Finds name_of files result → (damage : Damage) → IsOpeningDamage files damage →
      IsRefusedAs result (Damaged damage)
  opening-refused (Ok audited) finds damage is = open_undamaged files finds.done.0 damage finds.done.1.0 is
  opening-refused (Err fault) finds damage is = elim finds.only [
    | inl broken ↦ inl broken
    | inr (inl none) ↦ absurd (no_store_is_undamaged files damage (finds.no_store (ap (λ (f : StoreFault). let r : Result Audited StoreFault = Err f in r) none)) is)
    | inr (inr wrong) ↦ elim (finds.damaged wrong.0 (ap (λ (f : StoreFault). let r : Result Audited StoreFault = Err f in r) wrong.1)) [
      | inl opening ↦ inr (wrong.1 ∙ ap (λ (d : Damage). Damaged d) (have_one_damage files wrong.0 damage opening is))
      | inr found ↦ absurd (open_undamaged files found.0 damage found.1 is)
    ]
  ]

  -- the state of files without a flaw
  state-found : (audited : Audited) (opened : Opened) → IsFlawless name_of files (counts_of audited) opened →
      HoldStateOf name_of files (counts_of audited)
  state-found audited opened found =
      let told = flawless-state name_of files opened found.0 found.1 in
      (told.0, told.1, told.2, found.2 ∙ ap (λ (o : Opened). counts_of_book o.book) told.3 ∙ counts-book name_of told.0)

  lawful-found : (result : Result Audited StoreFault) → IfOk result (λ audited. (opened : Opened) × IsFlawless name_of files (counts_of audited) opened) →
      IfOk result (λ audited. HoldStateOf name_of files (counts_of audited))
  lawful-found (Ok audited) done = state-found audited done.0 done.1
  lawful-found (Err fault) done = tt

  module _ (state : State) (lawful : IsLawful state) (held : HoldState name_of files state) where
    state-opens : OpenAs files (opened_of name_of state)
    state-opens = held_state_opens name_of names files state lawful held

    held-done : (result : Result Audited StoreFault) → Finds name_of files result → IsDoneAs (counts_of_state state) result
    held-done result finds =
        subst (λ (counts : StoreCounts). IsDoneAs counts result) (counts-book name_of state)
        (returns-flaw result finds (opened_of name_of state) state-opens None (held-flawless name_of files state lawful held))

    held-undamaged : (damage : Damage) → IsFirstDamage name_of files damage → ⊥
    held-undamaged damage found =
        let clash : None ≡ Some damage =
        one-flaw name_of files (opened_of name_of state) None (Some damage) (held-flawless name_of files state lawful held)
        (opens-flaw (opened_of name_of state) state-opens damage found) in
        cc

  pub audits-files : (result : Result Audited StoreFault) → Finds name_of files result → AuditsFiles name_of files result
  audits-files result finds = record {
    lawful = lawful-found result finds.done;
    held = λ state lawful held. held-done state lawful held result finds;
    unlawful = λ damage is state lawful held. held-undamaged state lawful held damage (finds.damaged damage is);
    damaged = finds.damaged;
    no_store = finds.no_store;
    absent = absent-refused result finds;
    opening = opening-refused result finds;
    first_flaw = returns-flaw result finds;
  }

-- what an audit found that was refused as opening the store was
pub finds-refused : {T : Type 0} (name_of : List ℕ → List ℕ) (told : Option (File → List ℕ)) (r : Result T StoreFault) (fault : StoreFault)
    (q : Result Audited StoreFault) → r ≡ Err fault → IsErrAnd q (λ e. e ≡ fault) → OnErr r (OnlyOpens r) →
    (r ≡ Err NoStore → IfSome told HoldNoStore) →
    ((damage : Damage) → r ≡ Err (Damaged damage) → IfSome told (λ files. IsOpeningDamage files damage)) →
    IfSome told (λ files. Finds name_of files q)
finds-refused name_of None r fault q was same only none damaged = tt
finds-refused {T} name_of (Some files) r fault q was same only none damaged =
    let is : q ≡ Err fault = passed-is fault q same in
    record {
      done = subst (λ (p : Result Audited StoreFault). IfOk p (λ audited. (opened : Opened) × IsFlawless name_of files (counts_of audited) opened)) (sym is) tt;
      damaged = λ damage passed. inl (damaged damage (was ∙ err-of T (err-is (sym is ∙ passed))));
      no_store = λ passed. none (was ∙ err-of T (err-is (sym is ∙ passed)));
      only = subst (λ (p : Result Audited StoreFault). IfErr p IsOfAudit) (sym is)
          (elim (subst (λ (p : Result T StoreFault). OnErr p (OnlyOpens p)) was only) [
            | inl absent ↦ inr (inl (err-is absent))
            | inr (inl wrong) ↦ inr (inr (wrong.0, err-is wrong.1))
            | inr (inr (inl failed)) ↦ inl (inl (err-is failed))
            | inr (inr (inr memory)) ↦ inl (inr (err-is memory))
          ]);
    }

-- what an audit found in a store that was opened
pub finds-store : (name_of : List ℕ → List ℕ) (told : Option (File → List ℕ)) (opened : Opened) (r : Result Audited StoreFault) →
    IfSome told (λ files. OpenAs files opened) →
    OnOk r (IfSome told (λ files. OpenAs files opened → IsFlawOf name_of files opened None)) →
    IfOk r (λ audited. counts_of audited ≡ counts_of_book opened.book) →
    ((damage : Damage) → r ≡ Err (Damaged damage) →
    IfSome told (λ files. OpenAs files opened → IsFlawOf name_of files opened (Some damage))) →
    OnErr r (OnlyFinds r) → IfSome told (λ files. Finds name_of files r)
finds-store name_of None opened r opens flawless counted damaged only = tt
finds-store name_of (Some files) opened (Ok audited) opens flawless counted damaged only = record {
  done = (opened, (opens, flawless opens, counted));
  damaged = λ damage is. absurd cc;
  no_store = λ is. absurd cc;
  only = tt;
}
finds-store name_of (Some files) opened (Err fault) opens flawless counted damaged only = record {
  done = tt;
  damaged = λ damage is. inr (opened, opens, damaged damage is opens);
  no_store = λ is. elim only [
    | inl wrong ↦ absurd cc
    | inr (inl failed) ↦ absurd cc
    | inr (inr memory) ↦ absurd cc
  ];
  only = elim only [
    | inl wrong ↦ inr (inr (wrong.0, err-is wrong.1))
    | inr (inl failed) ↦ inl (inl (err-is failed))
    | inr (inr memory) ↦ inl (inr (err-is memory))
  ];
}

-- and what it returns
pub found-audits : (name_of : List ℕ → List ℕ) → GivesNames name_of → (told : Option (File → List ℕ)) (r : Result Audited StoreFault) →
    IfSome told (λ files. Finds name_of files r) → IfSome told (λ files. AuditsFiles name_of files r)
found-audits name_of names None r found = tt
found-audits name_of names (Some files) r found = audits-files name_of names files r found
