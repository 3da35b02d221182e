-- A run of `list` or of `refs`: the text is made of the book of the store, and no file is changed.
use Rattle.std.proofs.Common.{◌≡◌, inl, inr, ℕ, Bool, List, [], ◌∷◌, refl, ap, sym, subst, ◌∙◌}
use Rattle.std.specs.Prelude.{◌⊎◌, Err, IfErr, IfOk, IfSome, None, Ok, Option, Result, Some, String, string_bytes}
use Rattle.std.specs.declared.alloc.Global.{Global}
use Rattle.sha2.specs.Sha256.{sha256}
use Rattle.sd_base.specs.Books.{BookState}
use Rattle.sd_base.specs.OnePass.{Pass, in_store, pass_of_list, pass_of_refs, success}
use Rattle.sd_base.specs.Opening.{OpenAs, Opened}
use Rattle.sd_base.specs.Rows.{live_book_rows, reference_rows_of_book, reference_rows_of_state, rows_of_book, rows_of_state}
use Rattle.sd_base.specs.States.{State, sessions_in, stored_chunks}
use Rattle.sd_base.specs.Stores.{Hold}
use Rattle.sd_base.specs.Texts.{list_text, refs_text}
use Rattle.sd_base.specs.declared.damage.Damage.{Damage}
use Rattle.sd_base.specs.declared.file.File.{File}
use Rattle.sd_base.specs.declared.outcome.Outcome.{Outcome}
use Rattle.sd_base.specs.declared.outcome.Outcome.TheVariants.{Done, NoStore, Damaged, ShelfFault, SinkFault, OutOfMemory}
use Rattle.sd_base.specs.declared.words.BadWords.{BadWords as Refusal}
use Rattle.sd_base.specs.declared.words.Command.{Command}
use Rattle.sd_base.specs.declared.words.Command.TheVariants.{Quiet as quiet}
use Rattle.sd_base.specs.declared.words.Quiet.TheVariants.{List as ListSessions, Refs}
use Rattle.sd_base.proofs.HeldStates.{sessions-book}
use Rattle.sd_base.proofs.References.{reference_rows-book}
use Rattle.sd_base.proofs.StateBooks.{rows-book}
use Rattle.store_core.specs.Faults.{IsOfOpening}
use Rattle.store_core.specs.StoreStates.{StandsFor, StoreState}
use Rattle.store_core.proofs.StoreLemmas.{same-told}
use Rattle.store_core.proofs.Verdicts.{no_store_is_not_opened, open_as_one, open_undamaged}
use Rattle.backup_top.specs.Outcomes.{EndsAs, IsBroken, IsDamage, IsEarly, IsOneOf, LeavesStore}
use Rattle.backup_top.specs.Run.{AreHeld, GoesByVerdict, KeepsFiles, LeavesShelf, MayReturn, NeedsHeld, OpensFirst}
use Rattle.backup_top.specs.Steps.{OnlyFailsToOpen, IsUnmade, Made, MakesByRecords, MakesText, MakesTextOf, OpensOn, OpensStore}
use Rattle.backup_top.proofs.Openings.{broken_told, in_error, still_held, told_held}
use Rattle.backup_top.proofs.Runs.{counted_as, ends_broken, of_write, stay_clean}

-- the rows of a store that stands for a state
rows-stand : (store : StoreState) (files : File → List ℕ) (state : State) → StandsFor sha256 store files state []
    → rows_of_book store.opened.book ≡ rows_of_state state
rows-stand store files state stands =
    ap (λ (o : Opened). rows_of_book o.book) stands.opened
    ∙ ap (live_book_rows 0) (sessions-book sha256 state) ∙ rows-book sha256 (stored_chunks state) [] 0 (sessions_in state)

counts-stand : (store : StoreState) (files : File → List ℕ) (state : State) → StandsFor sha256 store files state []
    → reference_rows_of_book store.opened.book ≡ reference_rows_of_state state
counts-stand store files state stands =
    ap (λ (o : Opened). reference_rows_of_book o.book) stands.opened ∙ reference_rows-book state

-- ---- outcomes of opening

-- what holds of an outcome with which opening is refused
pub record OfOpening (ending : Outcome) : Type 0 where
  pub unmade : IsUnmade ending
  -- it leaves the state that is there
  pub held : (state next : Option State) (files : File → List ℕ) → Hold sha256 files state
      → LeavesStore ending state next files
  pub listed : IsOneOf (Done ∷ SinkFault ∷ OutOfMemory ∷ NoStore ∷ ShelfFault ∷ []) ending ⊎ IsDamage IsOfOpening ending

of_opening-at : (ending other : Outcome) → other ≡ ending → OfOpening ending → OfOpening other
of_opening-at ending other is holds = subst OfOpening (sym is) holds

pub of_opening : (ending : Outcome) → OnlyFailsToOpen ending → OfOpening ending
of_opening ending (inl (inl is)) = of_opening-at ShelfFault ending is (record {
  unmade = tt;
  held = λ state next files holds. inl holds;
  listed = inl (inr (inr (inr (inr (inl refl)))));
})
of_opening ending (inl (inr is)) = of_opening-at OutOfMemory ending is (record {
  unmade = tt;
  held = λ state next files holds. inl holds;
  listed = inl (inr (inr (inl refl)));
})
of_opening ending (inr (inl is)) = of_opening-at NoStore ending is (record {
  unmade = tt;
  held = λ state next files holds. holds;
  listed = inl (inr (inr (inr (inl refl))));
})
of_opening ending (inr (inr (flaw, of_kind, is))) = of_opening-at (Damaged flaw) ending is (record {
  unmade = tt;
  held = λ state next files holds. holds;
  listed = inr (flaw, of_kind, refl);
})

-- the refusal of opening is that of a command that needs a store
pub refuses_to_open : (state : Option State) (ending : Outcome) (after : Option (File → List ℕ)) (expected : Outcome)
    → (state ≡ None → expected ≡ NoStore) → OpensOn state (Err ending) after → EndsAs expected ending
refuses_to_open None ending after expected none (inl broken) = ends_broken expected ending broken
refuses_to_open None ending after expected none (inr is) =
    subst (EndsAs expected) (sym is) (sym (none refl))
refuses_to_open (Some state) ending after expected none broken = ends_broken expected ending broken

-- a fault leaves the state before or the one after
pub leaves_broken : (ending : Outcome) (before after : Option State) (told : Option (File → List ℕ)) → IsBroken ending
    → IfSome told (λ files. Hold sha256 files before ⊎ Hold sha256 files after)
    → IfSome told (LeavesStore ending before after)
leaves_broken ending before after None broken either = tt
leaves_broken ending before after (Some files) (inl is) either =
    subst (λ (e : Outcome). LeavesStore e before after files) (sym is) either
leaves_broken ending before after (Some files) (inr is) either =
    subst (λ (e : Outcome). LeavesStore e before after files) (sym is) either

pub one_held : (before after : Option State) (told : Option (File → List ℕ)) → IfSome told (λ files. Hold sha256 files before)
    → IfSome told (λ files. Hold sha256 files before ⊎ Hold sha256 files after)
one_held before after None holds = tt
one_held before after (Some files) holds = inl holds

pub other_held : (before after : Option State) (told : Option (File → List ℕ)) → IfSome told (λ files. Hold sha256 files after)
    → IfSome told (λ files. Hold sha256 files before ⊎ Hold sha256 files after)
other_held before after None holds = tt
other_held before after (Some files) holds = inr holds

-- what opening makes of an outcome that is none of its refusals
pub opens_fully : (told : Option (File → List ℕ)) (store : StoreState) (ending : Outcome)
    → IfSome told (λ files. OpenAs files store.opened) → (ending ≡ NoStore → ⊥)
    → ((flaw : Damage) → ending ≡ Damaged flaw → ⊥) → IfSome told (OpensFirst (λ flaw. ⊥) ending)
opens_fully None store ending opens no_store damaged = tt
opens_fully (Some files) store ending opens no_store damaged = record {
  no_store = λ is. absurd (no_store is);
  absent = λ none. absurd (no_store_is_not_opened files store.opened none opens);
  damaged = λ flaw is. absurd (damaged flaw is);
  named = λ flaw found. absurd (open_undamaged files store.opened flaw opens found);
}

-- ---- a command that needs a store

-- what such a command may return and leave includes what opening does
pub record NeedsStore {F : Type 0} (command : Result Command Refusal) (files_of : F → Option (File → List ℕ))
    (loose : F → File → Bool) (before after : F) : Type 0 where
  pub needs : (state : Option State) → NeedsHeld command (files_of before) state → AreHeld (files_of before) state
  pub among : (ending : Outcome)
      → IsOneOf (Done ∷ SinkFault ∷ OutOfMemory ∷ NoStore ∷ ShelfFault ∷ []) ending ⊎ IsDamage IsOfOpening ending
      → MayReturn command ending
  pub shelf : (ending : Outcome) → IsUnmade ending → KeepsFiles files_of loose before after
      → LeavesShelf command ending files_of loose before after
  pub verdict : (ending : Outcome) → IfSome (files_of before) (OpensFirst (λ flaw. ⊥) ending)
      → GoesByVerdict command ending (files_of before)
  pub broken : (ending : Outcome) (opened : Opened) → IsBroken ending → MakesByRecords command (Err ending) opened

always : (P Q : (File → List ℕ) → Type 0) (told : Option (File → List ℕ)) → ((files : File → List ℕ) → P files → Q files)
    → IfSome told (λ files. P files → Q files)
always P Q None holds = tt
always P Q (Some files) holds = holds files

records_refused : (command : Result Command Refusal) (told : Option (File → List ℕ)) (opened : Opened) (ending : Outcome)
    → (IsBroken ending → MakesByRecords command (Err ending) opened)
    → IfSome told (λ files. OpenAs files opened → IsBroken ending)
    → IfSome told (λ files. OpenAs files opened → MakesByRecords command (Err ending) opened)
records_refused command None opened ending makes broken = tt
records_refused command (Some files) opened ending makes broken = λ opens. makes (broken opens)

-- what holds of the book of a store holds of each that the files open with
pub records_of_store : (P : Opened → Type 0) (told : Option (File → List ℕ)) (store : StoreState) (opened : Opened)
    → IfSome told (λ files. OpenAs files store.opened) → P store.opened → IfSome told (λ files. OpenAs files opened → P opened)
records_of_store P None store opened here holds = tt
records_of_store P (Some files) store opened here holds = λ opens. subst P (open_as_one files store.opened opened here opens) holds

late_in_store : (pass : State → Pass) → ((state : State) → IsEarly (pass state).outcome → ⊥) → (state : Option State)
    → IsEarly (in_store pass state).outcome → ⊥
late_in_store pass late None early = early
late_in_store pass late (Some state) early = late state early

none_in_store : (pass : State → Pass) (state : Option State) → state ≡ None → (in_store pass state).outcome ≡ NoStore
none_in_store pass None is = refl
none_in_store pass (Some state) is = absurd cc

module _ {F : Type 0} (command : Result Command Refusal) (files_of : F → Option (File → List ℕ)) (loose : F → File → Bool)
    (faults : F → ℕ) (faultless : F → Type 0) (before after : F)
    (needs_store : NeedsStore command files_of loose before after) where
  abbrev Opens : Result StoreState Outcome → Type 0
  Opens result = OpensStore result files_of loose faults faultless before after

  held-refused : (ending : Outcome) (opened : Result StoreState Outcome) → OnlyFailsToOpen ending → Opens opened
      → (state next : Option State) → AreHeld (files_of before) state
      → IfSome (files_of after) (LeavesStore ending state next)
  held-refused ending opened of opens state next held =
      leaves (files_of after)
      (told_held (files_of after) state (still_held (files_of before) (files_of after) state opens.kept.same_files held)) where
        leaves : (told : Option (File → List ℕ)) → IfSome told (λ files. Hold sha256 files state) → IfSome told (LeavesStore ending state next)
        leaves None holds = tt
        leaves (Some files) holds = (of_opening ending of).held state next files holds

  -- the store is not opened
  pub opening_refused : (pass : State → Pass) → ((state : State) → IsEarly (pass state).outcome → ⊥) → (ending : Outcome)
      → Opens (Err ending) → MakesText (in_store pass) command (Err ending) files_of loose faults faultless before after
  opening_refused pass late ending opens =
      let of = of_opening ending opens.refused.0 in record {
        on_state = λ state needs. (
          refuses_to_open state ending (files_of after) (in_store pass state).outcome (none_in_store pass state)
              (opens.on_state state (needs_store.needs state needs)),
          λ early. absurd (late_in_store pass late state early),
        );
        held = λ state held. held-refused ending (Err ending) opens.refused.0 opens state (in_store pass state).after held;
        clean = tt;
        unmade = of.unmade;
        among = λ outcome ends. subst (MayReturn command) (sym ends) (needs_store.among ending of.listed);
        counts = counted_as _ _ faults faultless before after
            (λ is. ap (λ (e : Outcome). let r : Result StoreState Outcome = Err e in r) (in_error is)) opens.counts;
        shelf = λ outcome ends. needs_store.shelf outcome (subst IsUnmade (sym ends) of.unmade) opens.kept;
        verdict = λ outcome ends. needs_store.verdict outcome
            (subst (λ (o : Outcome). IfSome (files_of before) (OpensFirst (λ flaw. ⊥) o)) (sym ends) opens.refused.1);
        by_records = λ o. records_refused command (files_of before) o ending (needs_store.broken ending o)
            (broken_told (files_of before) o ending opens.refused.0 opens.refused.1);
      }

  -- the store is opened, and no file is changed, but memory runs out
  pub no_memory : (pass : State → Pass) → ((state : State) → IsEarly (pass state).outcome → ⊥) → (opened : StoreState)
      (ending : Outcome) → Opens (Ok opened) → ending ≡ OutOfMemory
      → MakesText (in_store pass) command (Err ending) files_of loose faults faultless before after
  no_memory pass late opened ending opens refused = record {
    on_state = λ state needs. (
      ends_broken (in_store pass state).outcome ending (inr refused),
      λ early. absurd (late_in_store pass late state early),
    );
    held = λ state held. leaves_broken ending state (in_store pass state).after (files_of after) (inr refused)
        (one_held state (in_store pass state).after (files_of after)
        (told_held (files_of after) state (still_held (files_of before) (files_of after) state opens.kept.same_files held)));
    clean = tt;
    unmade = subst IsUnmade (sym refused) tt;
    among = λ outcome ends. needs_store.among outcome (inl (inr (inr (inl (ends ∙ refused)))));
    counts = counted_as _ _ faults faultless before after
        (λ is. absurd (let clash : OutOfMemory ≡ ShelfFault = sym refused ∙ in_error is in cc)) opens.counts;
    shelf = λ outcome ends. needs_store.shelf outcome (subst IsUnmade (sym (ends ∙ refused)) tt) opens.kept;
    verdict = λ outcome ends. needs_store.verdict outcome (opens_fully (files_of before) opened outcome opens.opened
        (λ is. let clash : OutOfMemory ≡ NoStore = sym (ends ∙ refused) ∙ is in absurd cc)
        (λ flaw is. let clash : OutOfMemory ≡ Damaged flaw = sym (ends ∙ refused) ∙ is in absurd cc));
    by_records = λ o. always _ _ (files_of before) (λ files opens. needs_store.broken ending o (inr refused));
  }

-- ---- a command that prints what a book has, and changes nothing

module _ (text_of_state : State → List ℕ) where
  -- the pass of such a command
  abbrev report : Option State → Pass
  report = in_store (λ state. success (Some state) (text_of_state state))

  report_leaves : (state : Option State) → (report state).after ≡ state
  report_leaves None = refl
  report_leaves (Some state) = refl

  module _ (text_of_book : BookState → List ℕ)
      (same_text : (store : StoreState) (files : File → List ℕ) (state : State) → StandsFor sha256 store files state []
      → text_of_book store.opened.book ≡ text_of_state state) where
    report_on : (opened : StoreState) (lines : String Global) (told : Option (File → List ℕ)) (state : Option State)
        → string_bytes lines ≡ text_of_book opened.opened.book → OpensOn state (Ok opened) told
        → AreHeld told state → MakesTextOf (report state) (Ok lines)
    report_on opened lines None state text stands held = absurd held
    report_on opened lines (Some files) None text stands held = absurd stands
    report_on opened lines (Some files) (Some state) text stands held =
        (refl, sym (same_text opened files state stands) ∙ sym text)

    module _ {F : Type 0} (command : Result Command Refusal) (files_of : F → Option (File → List ℕ))
        (loose : F → File → Bool) (faults : F → ℕ) (faultless : F → Type 0) (before after : F)
        (needs_store : NeedsStore command files_of loose before after)
        (keeps : (ending : Outcome) → KeepsFiles files_of loose before after
        → LeavesShelf command ending files_of loose before after)
        (by_book : (lines : String Global) (opened : Opened) → string_bytes lines ≡ text_of_book opened.book
        → MakesByRecords command (Ok lines) opened) where
      pub report_made : (opened : StoreState) (made : Made) → OpensStore (Ok opened) files_of loose faults faultless before after
          → IfOk made (λ lines. string_bytes lines ≡ text_of_book opened.opened.book)
          → IfErr made (λ ending. ending ≡ OutOfMemory)
          → MakesText report command made files_of loose faults faultless before after
      report_made opened (Ok lines) opens text refused = record {
        on_state = λ state needs. report_on opened lines (files_of after) state text
            (opens.on_state state (needs_store.needs state needs))
            (still_held (files_of before) (files_of after) state opens.kept.same_files (needs_store.needs state needs));
        held = λ state held. subst (λ (s : Option State). IfSome (files_of after) (λ files. Hold sha256 files s))
            (sym (report_leaves state))
            (told_held (files_of after) state (still_held (files_of before) (files_of after) state opens.kept.same_files held));
        clean = λ state held. stay_clean (files_of before) (files_of after) state (report state).after
            (same-told (files_of before) (files_of after) opens.kept.same_files) (report_leaves state);
        unmade = tt;
        among = λ outcome ends. needs_store.among outcome (inl ((of_write outcome ends).among (NoStore ∷ ShelfFault ∷ [])));
        counts = counted_as _ _ faults faultless before after (λ clash. absurd cc) opens.counts;
        shelf = λ outcome ends. keeps outcome opens.kept;
        verdict = λ outcome ends. needs_store.verdict outcome (opens_fully (files_of before) opened outcome opens.opened
            (of_write outcome ends).store (of_write outcome ends).sound);
        by_records = λ o. records_of_store (MakesByRecords command (Ok lines)) (files_of before) opened o opens.opened
            (by_book lines opened.opened text);
      }
      report_made opened (Err ending) opens text refused =
          no_memory command files_of loose faults faultless before after needs_store
          (λ state. success (Some state) (text_of_state state)) (λ state early. early) opened ending opens refused

-- ---- `list` and `refs`

module _ {F : Type 0} (files_of : F → Option (File → List ℕ)) (loose : F → File → Bool) (faults : F → ℕ)
    (faultless : F → Type 0) (before after : F) where
  list_needs : NeedsStore (Ok (quiet ListSessions)) files_of loose before after
  list_needs = record {
    needs = λ state held. held;
    among = λ ending is. is;
    shelf = λ ending unmade kept. kept;
    verdict = λ ending opens. opens;
    broken = λ ending opened is. (tt, is);
  }

  refs_needs : NeedsStore (Ok (quiet Refs)) files_of loose before after
  refs_needs = record {
    needs = λ state held. held;
    among = λ ending is. is;
    shelf = λ ending unmade kept. kept;
    verdict = λ ending opens. opens;
    broken = λ ending opened is. (tt, is);
  }

  pub list_refused : (ending : Outcome) → OpensStore (Err ending) files_of loose faults faultless before after
      → MakesText (in_store pass_of_list) (Ok (quiet ListSessions)) (Err ending) files_of loose faults faultless before after
  list_refused = opening_refused (Ok (quiet ListSessions)) files_of loose faults faultless before after list_needs
      pass_of_list (λ state early. early)

  pub list_made : (opened : StoreState) (made : Made) → OpensStore (Ok opened) files_of loose faults faultless before after
      → IfOk made (λ lines. string_bytes lines ≡ list_text (rows_of_book opened.opened.book))
      → IfErr made (λ ending. ending ≡ OutOfMemory)
      → MakesText (in_store pass_of_list) (Ok (quiet ListSessions)) made files_of loose faults faultless before after
  list_made = report_made (λ state. list_text (rows_of_state state)) (λ book. list_text (rows_of_book book))
      (λ store files state stands. ap list_text (rows-stand store files state stands))
      (Ok (quiet ListSessions)) files_of loose faults faultless before after list_needs (λ ending kept. kept)
      (λ lines opened text. (text, tt))

  pub refs_refused : (ending : Outcome) → OpensStore (Err ending) files_of loose faults faultless before after
      → MakesText (in_store pass_of_refs) (Ok (quiet Refs)) (Err ending) files_of loose faults faultless before after
  refs_refused = opening_refused (Ok (quiet Refs)) files_of loose faults faultless before after refs_needs
      pass_of_refs (λ state early. early)

  pub refs_made : (opened : StoreState) (made : Made) → OpensStore (Ok opened) files_of loose faults faultless before after
      → IfOk made (λ lines. string_bytes lines ≡ refs_text (reference_rows_of_book opened.opened.book))
      → IfErr made (λ ending. ending ≡ OutOfMemory)
      → MakesText (in_store pass_of_refs) (Ok (quiet Refs)) made files_of loose faults faultless before after
  refs_made = report_made (λ state. refs_text (reference_rows_of_state state)) (λ book. refs_text (reference_rows_of_book book))
      (λ store files state stands. ap refs_text (counts-stand store files state stands))
      (Ok (quiet Refs)) files_of loose faults faultless before after refs_needs (λ ending kept. kept)
      (λ lines opened text. (text, tt))
