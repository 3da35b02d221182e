-- A run of `audit`: the text has what was counted, and no file is changed.
use Rattle.std.proofs.Common.{◌≡◌, inl, inr, ℕ, Bool, List, [], ◌∷◌, refl, ap, sym, subst, ◌∙◌}
use Rattle.std.specs.Prelude.{◌⊎◌, Err, IfErr, IfOk, IfSome, None, Ok, OnErr, Option, Result, Some, String, string_bytes}
use Rattle.std.specs.declared.alloc.Global.{Global}
use Rattle.sha2.specs.Sha256.{sha256}
use Rattle.ingest_core.specs.Auditing.{AuditsFiles, Breaks, IsOfAudit, ReturnsFlaw, counts_of}
use Rattle.ingest_core.specs.Faults.{outcome_of_store}
use Rattle.ingest_core.specs.declared.auditing.Audited.{Audited}
use Rattle.sd_base.specs.Audits.{audit_text, counts_of_book}
use Rattle.sd_base.specs.OnePass.{in_store, pass_of_audit}
use Rattle.sd_base.specs.Opening.{OpenAs, Opened}
use Rattle.sd_base.specs.States.{State}
use Rattle.sd_base.specs.Stores.{Hold}
use Rattle.sd_base.specs.declared.damage.Damage.{Damage}
use Rattle.sd_base.specs.declared.file.File.{File}
use Rattle.sd_base.specs.declared.outcome.Outcome.{Outcome}
use Rattle.sd_base.specs.declared.outcome.Outcome.TheVariants as outcome
use Rattle.sd_base.specs.declared.words.Command.TheVariants.{Quiet as quiet}
use Rattle.sd_base.specs.declared.words.Quiet.TheVariants.{Audit}
use Rattle.sd_base.proofs.FoundFlaws.{found-flaw}
use Rattle.store_core.specs.Shelves.{OnlyReads}
use Rattle.store_core.specs.declared.fault.StoreFault.{StoreFault}
use Rattle.store_core.specs.declared.fault.StoreFault.TheVariants as store
use Rattle.store_core.proofs.StoreLemmas.{same-told}
use Rattle.backup_top.specs.Outcomes.{EndsAs, IsBroken, IsBrokenOff, IsEarly, LeavesStore}
use Rattle.backup_top.specs.Run.{AreHeld, EndsByFlaw, HoldLawfulState, JudgesFiles, KeepsFiles, MayReturn, WritesIfLawful}
use Rattle.backup_top.specs.Steps.{IsOfWrite, IsUnmade, Made, MakesText, MakesTextOf, MayEnd}
use Rattle.backup_top.proofs.Lists.{leaves_broken, one_held}
use Rattle.backup_top.proofs.Openings.{fault_is, in_error, refused_with, still_held, told_held}
use Rattle.backup_top.proofs.Runs.{OfWrite, counted_as, ends_broken, no_records, of_write, stay_clean}

-- ---- faults of an audit, as outcomes

-- what holds of the outcome of a refusal
record OfAudit (ending : Outcome) : Type 0 where
  pub unmade : IsUnmade ending
  pub among : MayReturn (Ok (quiet Audit)) ending
  pub kept : (before after : Option State) (files : File → List ℕ) → Hold sha256 files before → LeavesStore ending before after files
  pub unwritten : (ending ≡ outcome.Done) ⊎ (ending ≡ outcome.SinkFault) → ⊥

of_audit-at : (fault other : StoreFault) → other ≡ fault → OfAudit (outcome_of_store fault) → OfAudit (outcome_of_store other)
of_audit-at fault other is holds = subst (λ (f : StoreFault). OfAudit (outcome_of_store f)) (sym is) holds

of_audit : (fault : StoreFault) → IsOfAudit fault → OfAudit (outcome_of_store fault)
of_audit fault (inl (inl is)) = of_audit-at store.ShelfFault fault is (record {
  unmade = tt;
  among = inl (inr (inr (inr (inr (inl refl)))));
  kept = λ before after files holds. inl holds;
  unwritten = λ ends. elim ends [ inl clash ↦ absurd cc | inr clash ↦ absurd cc ];
})
of_audit fault (inl (inr is)) = of_audit-at store.OutOfMemory fault is (record {
  unmade = tt;
  among = inl (inr (inr (inl refl)));
  kept = λ before after files holds. inl holds;
  unwritten = λ ends. elim ends [ inl clash ↦ absurd cc | inr clash ↦ absurd cc ];
})
of_audit fault (inr (inl is)) = of_audit-at store.NoStore fault is (record {
  unmade = tt;
  among = inl (inr (inr (inr (inl refl))));
  kept = λ before after files holds. holds;
  unwritten = λ ends. elim ends [ inl clash ↦ absurd cc | inr clash ↦ absurd cc ];
})
of_audit fault (inr (inr (damage, is))) = of_audit-at (store.Damaged damage) fault is (record {
  unmade = tt;
  among = inr (damage, tt, refl);
  kept = λ before after files holds. holds;
  unwritten = λ ends. elim ends [ inl clash ↦ absurd cc | inr clash ↦ absurd cc ];
})

breaks : (fault : StoreFault) → Breaks fault → IsBroken (outcome_of_store fault)
breaks fault (inl is) = inl (ap outcome_of_store is)
breaks fault (inr is) = inr (ap outcome_of_store is)

refused_as : (fault cause : StoreFault) → Breaks fault ⊎ (fault ≡ cause)
    → IsBroken (outcome_of_store fault) ⊎ (outcome_of_store fault ≡ outcome_of_store cause)
refused_as fault cause (inl broken) = inl (breaks fault broken)
refused_as fault cause (inr is) = inr (ap outcome_of_store is)

-- ---- the verdict

module _ (files : File → List ℕ) where
  done-by_flaw : (opened : Opened) (flaw : Option Damage) (audited : Audited) (ending : Outcome) → OfWrite ending
      → ReturnsFlaw opened flaw (Ok audited) → EndsByFlaw flaw ending
  done-by_flaw opened None audited ending of returns = of.ends outcome.Done refl
  done-by_flaw opened (Some damage) audited ending of returns = absurd returns

  judges_done : (audited : Audited) (ending : Outcome) → OfWrite ending → AuditsFiles sha256 files (Ok audited)
      → JudgesFiles ending files
  judges_done audited ending of audits = record {
    lawful = λ ends. let held = audits.lawful in (held.0, held.1, held.2);
    unlawful = λ damage is. absurd (of.sound damage is);
    damaged = λ damage is. absurd (of.sound damage is);
    no_store = λ is. absurd (of.store is);
    absent = λ none. absurd (audits.absent none);
    opening = λ damage found. absurd (audits.opening damage found);
    first_flaw = λ opened opens flaw first. done-by_flaw opened flaw audited ending of (audits.first_flaw opened opens flaw first);
  }

  refused-by_flaw : (opened : Opened) (flaw : Option Damage) (fault : StoreFault) → ReturnsFlaw opened flaw (Err fault)
      → EndsByFlaw flaw (outcome_of_store fault)
  refused-by_flaw opened None fault returns =
      ends_broken outcome.Done (outcome_of_store fault) (breaks fault returns.refused)
  refused-by_flaw opened (Some damage) fault returns = refused_as fault (store.Damaged damage) returns

  judges_refused : (fault : StoreFault) → IsOfAudit fault → AuditsFiles sha256 files (Err fault)
      → JudgesFiles (outcome_of_store fault) files
  judges_refused fault of audits = record {
    lawful = λ ends. absurd ((of_audit fault of).unwritten ends);
    unlawful = λ damage is held.
        audits.unlawful damage (refused_with Audited (fault_is fault (store.Damaged damage) is)) held.0 held.1 held.2;
    damaged = λ damage is. audits.damaged damage (refused_with Audited (fault_is fault (store.Damaged damage) is));
    no_store = λ is. audits.no_store (refused_with Audited (fault_is fault store.NoStore is));
    absent = λ none. refused_as fault store.NoStore (audits.absent none);
    opening = λ damage found. refused_as fault (store.Damaged damage) (audits.opening damage found);
    first_flaw = λ opened opens flaw first. refused-by_flaw opened flaw fault (audits.first_flaw opened opens flaw first);
  }

  -- the counts are those of the book that the files open with
  counted-by_flaw : (opened : Opened) (flaw : Option Damage) (audited : Audited) → ReturnsFlaw opened flaw (Ok audited)
      → counts_of audited ≡ counts_of_book opened.book
  counted-by_flaw opened None audited returns = returns.counted
  counted-by_flaw opened (Some damage) audited returns = absurd returns

  counted-opened : (opened : Opened) (audited : Audited) → OpenAs files opened → AuditsFiles sha256 files (Ok audited)
      → counts_of audited ≡ counts_of_book opened.book
  counted-opened opened audited opens audits =
      let found = found-flaw sha256 files opened opens in
      counted-by_flaw opened found.0 audited (audits.first_flaw opened opens found.0 found.1)

-- what an audit that returned so makes of files that are told
Audits : Result Audited StoreFault → Option (File → List ℕ) → Type 0
Audits result told = IfSome told (λ files. AuditsFiles sha256 files result)

judges_told : (told : Option (File → List ℕ)) (audited : Audited) (ending : Outcome) → OfWrite ending → Audits (Ok audited) told
    → IfSome told (JudgesFiles ending)
unfolding Audits
judges_told None audited ending of audits = tt
judges_told (Some files) audited ending of audits = judges_done files audited ending of audits

refused_told : (told : Option (File → List ℕ)) (fault : StoreFault) → IsOfAudit fault → Audits (Err fault) told
    → IfSome told (JudgesFiles (outcome_of_store fault))
unfolding Audits
refused_told None fault of audits = tt
refused_told (Some files) fault of audits = judges_refused files fault of audits

counted_told : (told : Option (File → List ℕ)) (opened : Opened) (audited : Audited) (text : List ℕ) → Audits (Ok audited) told
    → text ≡ audit_text (counts_of audited) → IfSome told (λ files. OpenAs files opened → text ≡ audit_text (counts_of_book opened.book))
unfolding Audits
counted_told None opened audited text audits is = tt
counted_told (Some files) opened audited text audits is =
    λ opens. is ∙ ap audit_text (counted-opened files opened audited opens audits)

-- ---- over files that hold a state, or no store

late : (state : Option State) → IsEarly (in_store pass_of_audit state).outcome → ⊥
late None early = early
late (Some state) early = early

leaves : (state : Option State) → (in_store pass_of_audit state).after ≡ state
leaves None = refl
leaves (Some state) = refl

text_on : (told : Option (File → List ℕ)) (state : Option State) (audited : Audited) (lines : String Global)
    → string_bytes lines ≡ audit_text (counts_of audited) → Audits (Ok audited) told → AreHeld told state
    → MakesTextOf (in_store pass_of_audit state) (Ok lines)
unfolding Audits
text_on None state audited lines text audits held = absurd held
text_on (Some files) None audited lines text audits held = absurd (audits.absent held.1)
text_on (Some files) (Some state) audited lines text audits held =
    (refl, sym (text ∙ ap audit_text (audits.held state held.0 held.1).counted))

as_no_store : (ending : Outcome) → IsBroken ending ⊎ (ending ≡ outcome.NoStore) → EndsAs outcome.NoStore ending
as_no_store ending (inl broken) = ends_broken outcome.NoStore ending broken
as_no_store ending (inr is) = subst (EndsAs outcome.NoStore) (sym is) refl

refused_on : (told : Option (File → List ℕ)) (state : Option State) (fault : StoreFault) → Audits (Err fault) told
    → AreHeld told state → EndsAs (in_store pass_of_audit state).outcome (outcome_of_store fault)
unfolding Audits
refused_on None state fault audits held = absurd held
refused_on (Some files) None fault audits held =
    as_no_store (outcome_of_store fault) (refused_as fault store.NoStore (audits.absent held.1))
refused_on (Some files) (Some state) fault audits held =
    ends_broken outcome.Done (outcome_of_store fault) (breaks fault (audits.held state held.0 held.1).refused)

kept_told : (told : Option (File → List ℕ)) (ending : Outcome) (state next : Option State) → OfAudit ending
    → IfSome told (λ files. Hold sha256 files state) → IfSome told (LeavesStore ending state next)
kept_told None ending state next of holds = tt
kept_told (Some files) ending state next of holds = of.kept state next files holds

-- ---- the text, or the refusal

module _ {F : Type 0} (files_of : F → Option (File → List ℕ)) (loose : F → File → Bool) (faults : F → ℕ)
    (faultless : F → Type 0) (before after : F) where
  abbrev Reads : Result Audited StoreFault → Type 0
  Reads result = OnlyReads (result ≡ Err store.ShelfFault) files_of loose faults faultless before after

  abbrev Makes : Made → Type 0
  Makes made = MakesText (in_store pass_of_audit) (Ok (quiet Audit)) made files_of loose faults faultless before after

  still : (state : Option State) (result : Result Audited StoreFault) → Reads result → AreHeld (files_of before) state
      → IfSome (files_of after) (λ files. Hold sha256 files state)
  still state result reads held =
      told_held (files_of after) state (still_held (files_of before) (files_of after) state reads.same_files held)

  keeps : (result : Result Audited StoreFault) → Reads result → KeepsFiles files_of loose before after
  keeps result reads = record { same_files = reads.same_files; same_loose = reads.same_loose }

  pub audit_refused : (fault : StoreFault) → IsOfAudit fault
      → IfSome (files_of before) (λ files. AuditsFiles sha256 files (Err fault)) → Reads (Err fault)
      → Makes (Err (outcome_of_store fault))
  unfolding Audits
  audit_refused fault is audits reads =
      let of = of_audit fault is in record {
        on_state = λ state held. (refused_on (files_of before) state fault audits held, λ early. absurd (late state early));
        held = λ state held. kept_told (files_of after) (outcome_of_store fault) state (in_store pass_of_audit state).after of
            (still state (Err fault) reads held);
        clean = tt;
        unmade = of.unmade;
        among = λ ending ends. subst (MayReturn (Ok (quiet Audit))) (sym ends) of.among;
        counts = counted_as _ _ faults faultless before after
            (λ fails. refused_with Audited (fault_is fault store.ShelfFault (in_error fails))) reads.counts;
        shelf = λ ending ends. keeps (Err fault) reads;
        verdict = λ ending ends. subst (λ (e : Outcome). IfSome (files_of before) (JudgesFiles e)) (sym ends)
            (refused_told (files_of before) fault is audits);
        by_records = λ opened. no_records (λ files. OpenAs files opened) (files_of before);
      }

  pub audit_made : (audited : Audited) (made : Made)
      → IfSome (files_of before) (λ files. AuditsFiles sha256 files (Ok audited)) → Reads (Ok audited)
      → IfOk made (λ lines. string_bytes lines ≡ audit_text (counts_of audited))
      → IfErr made (λ ending. ending ≡ outcome.OutOfMemory)
      → Makes made
  unfolding Audits
  audit_made audited (Ok lines) audits reads text refused = record {
    on_state = λ state held. text_on (files_of before) state audited lines text audits held;
    held = λ state held. subst (λ (s : Option State). IfSome (files_of after) (λ files. Hold sha256 files s))
        (sym (leaves state)) (still state (Ok audited) reads held);
    clean = λ state held. stay_clean (files_of before) (files_of after) state (in_store pass_of_audit state).after
        (same-told (files_of before) (files_of after) reads.same_files) (leaves state);
    unmade = tt;
    among = λ ending ends. inl ((of_write ending ends).among (outcome.NoStore ∷ outcome.ShelfFault ∷ []));
    counts = counted_as _ _ faults faultless before after (λ clash. absurd cc) reads.counts;
    shelf = λ ending ends. keeps (Ok audited) reads;
    verdict = λ ending ends. judges_told (files_of before) audited ending (of_write ending ends) audits;
    by_records = λ opened. counted_told (files_of before) opened audited (string_bytes lines) audits text;
  }
  audit_made audited (Err ending) audits reads text refused = record {
    on_state = λ state held. (
      ends_broken (in_store pass_of_audit state).outcome ending (inr refused),
      λ early. absurd (late state early),
    );
    held = λ state held. leaves_broken ending state (in_store pass_of_audit state).after (files_of after) (inr refused)
        (one_held state (in_store pass_of_audit state).after (files_of after) (still state (Ok audited) reads held));
    clean = tt;
    unmade = subst IsUnmade (sym refused) tt;
    among = λ other ends. inl (inr (inr (inl (ends ∙ refused))));
    counts = counted_as _ _ faults faultless before after
        (λ is. absurd (let clash : outcome.OutOfMemory ≡ outcome.ShelfFault = sym refused ∙ in_error is in cc)) reads.counts;
    shelf = λ other ends. keeps (Ok audited) reads;
    verdict = λ other ends. judges_told (files_of before) audited other
        (of_write other (subst IsOfWrite (sym (ends ∙ refused)) tt)) audits;
    by_records = λ opened. no_records (λ files. OpenAs files opened) (files_of before);
  }

-- ---- what is left of the sink

lawful_told : (told : Option (File → List ℕ)) → IfSome told (JudgesFiles outcome.Done) → IfSome told HoldLawfulState
lawful_told None judges = tt
lawful_told (Some files) judges = judges.lawful (inl refl)

-- it is as it was, unless a text was made
pub audit_leaves : {K : Type 0} (made : Made) (told : Option (File → List ℕ)) (before : K)
    → ((ending : Outcome) → MayEnd made ending → IfSome told (JudgesFiles ending))
    → (ending : Outcome) (sink : K) → (IsBrokenOff ending → sink ≡ before) → OnErr made (sink ≡ before)
    → WritesIfLawful ending told before sink
audit_leaves (Ok text) told before judges ending sink broken unmade = record {
  broken_off = broken;
  only_lawful = inr (lawful_told told (judges outcome.Done tt));
}
audit_leaves (Err refused) told before judges ending sink broken unmade = record {
  broken_off = broken;
  only_lawful = inl unmade;
}
