-- A run of `drop`: the store is opened, the text is made, and then the session is dropped.
use Rattle.std.proofs.Common.{◌≡◌, inl, inr, ℕ, zero, suc, Bool, false, List, [], ◌∷◌, ◌++◌, length, refl, ap, sym, subst, ◌∙◌}
use Rattle.std.proofs.lemmas.List.{length-map}
use Rattle.std.specs.List.{slice_get}
use Rattle.std.specs.Option.{option_and_then}
use Rattle.std.specs.Prelude.{◌⊎◌, ⊤, Err, IfSome, None, Ok, OnErr, OnOk, Option, Result, Some, String, option_map, string_bytes, unwrap_or}
use Rattle.std.specs.declared.alloc.Global.{Global}
use Rattle.sha2.specs.Sha256.{sha256}
use Rattle.ingest_core.specs.Faults.{outcome_of_store}
use Rattle.sd_base.specs.Books.{live_session}
use Rattle.sd_base.specs.Distinct.{first_index}
use Rattle.sd_base.specs.OnePass.{Pass, in_store, pass_of_drop}
use Rattle.sd_base.specs.Opening.{Opened}
use Rattle.sd_base.specs.StateBooks.{book_sessions}
use Rattle.sd_base.specs.States.{State, StoredSession, dropped, followed_by_event, live_session_named, sessions_in, stored_chunks}
use Rattle.sd_base.specs.Stores.{AreClean, Hold, HoldState}
use Rattle.sd_base.specs.Texts.{dropped_text}
use Rattle.sd_base.specs.declared.damage.Damage.{Damage}
use Rattle.sd_base.specs.declared.file.File.{File}
use Rattle.sd_base.specs.declared.file.File.TheVariants.{Book, Seal}
use Rattle.sd_base.specs.declared.outcome.Outcome.{Outcome}
use Rattle.sd_base.specs.declared.outcome.Outcome.TheVariants.{Done, NoStore, NoSession, Damaged, ShelfFault, SinkFault, OutOfMemory}
use Rattle.sd_base.specs.declared.record.Session.{Session}
use Rattle.sd_base.specs.declared.words.Command.TheVariants.{Quiet as quiet}
use Rattle.sd_base.specs.declared.words.Quiet.TheVariants.{Drop}
use Rattle.sd_base.proofs.HeldStates.{sessions-book}
use Rattle.sd_base.proofs.StateBooks.{live_session-book}
use Rattle.store_core.specs.Commits.{OnlyFails}
use Rattle.store_core.specs.Faults.{IsOfOpening}
use Rattle.store_core.specs.Shelves.{CountsFaults}
use Rattle.store_core.specs.StoreStates.{StandsFor, StoreState}
use Rattle.store_core.specs.declared.fault.StoreFault.{StoreFault}
use Rattle.store_core.specs.declared.fault.StoreFault.TheVariants as store
use Rattle.store_core.proofs.RestoreLemmas.{found-there}
use Rattle.store_core.proofs.StoreLemmas.{same-told}
use Rattle.backup_top.specs.ByRecords.{places_named}
use Rattle.backup_top.specs.Outcomes.{EndsAs, IsBroken, IsDamage, IsEarly, IsOneOf, IsSilent, LeavesStore}
use Rattle.backup_top.specs.Run.{AreFlushed, AreHeld, KeepsFiles, MayReturn, OpensFirst, StayClean}
use Rattle.backup_top.specs.Steps.{DropsByBook, DropsFrom, IsUnmade, Made, MakesStoreOf, MakesText, MakesTextOf, MayEnd, OpensOn, OpensStore, after_drop}
use Rattle.backup_top.proofs.Lists.{NeedsStore, leaves_broken, opening_refused, opens_fully, records_of_store}
use Rattle.backup_top.proofs.Openings.{fault_is, fault_of, in_error, refused_with, still_held}
use Rattle.backup_top.proofs.Restores.{counted_after, kept_after}
use Rattle.backup_top.proofs.Runs.{counted_as, ends_broken, err-of, of_write, uncalled}

-- ---- the session of a name, in a book and in a state

-- a name that names no places names no session
pub none-named : (sessions : List Session) (name : List ℕ) → places_named sessions name ≡ None → live_session sessions name ≡ None
none-named sessions name none = by (live_session sessions name) refl where
  missing : (session : Option Session) → option_map (λ (s : Session). length s.entry.recipe) session ≡ None
      → option_map (λ (s : Session). s.entry) session ≡ None
  missing None is = refl
  missing (Some session) is = absurd cc

  by : (found : Option ℕ) → live_session sessions name ≡ found → live_session sessions name ≡ None
  by None is = is
  by (Some k) is = absurd (found-there sessions name k is (missing (slice_get sessions k)
      (sym (ap (λ (f : Option ℕ). option_map (λ (s : Session). length s.entry.recipe) (option_and_then (slice_get sessions) f)) is) ∙ none)))

-- the places of a session of a state
abbrev places_at : List StoredSession → Option ℕ → Option ℕ
places_at sessions found = option_map (λ (s : StoredSession). length s.chunks) (option_and_then (slice_get sessions) found)

-- a session of the book of a state has as many places as the state gives it
places-book : (name_of : List ℕ → List ℕ) (stored before : List (List ℕ)) (sessions : List StoredSession) (found : Option ℕ)
    → option_map (λ (s : Session). length s.entry.recipe)
    (option_and_then (slice_get (book_sessions name_of stored before sessions)) found) ≡ places_at sessions found
places-book name_of stored before sessions None = refl
places-book name_of stored before [] (Some k) = refl
places-book name_of stored before (s ∷ sessions) (Some zero) = ap Some (length-map s.chunks (first_index stored))
places-book name_of stored before (s ∷ sessions) (Some (suc k)) =
    places-book name_of stored (before ++ s.chunks) sessions (Some k)

module _ (name : List ℕ) where
  abbrev live_in : State → Option ℕ
  live_in state = live_session_named (sessions_in state) name

  pub live-stands : (opened : StoreState) (files : File → List ℕ) (state : State) → StandsFor sha256 opened files state []
      → live_session opened.opened.book.sessions name ≡ live_in state
  live-stands opened files state stands =
      ap (λ (o : Opened). live_session o.book.sessions name) stands.opened
      ∙ ap (λ (s : List Session). live_session s name) (sessions-book sha256 state)
      ∙ live_session-book sha256 (stored_chunks state) [] (sessions_in state) name

  places-stand : (opened : StoreState) (files : File → List ℕ) (state : State) → StandsFor sha256 opened files state []
      → places_named opened.opened.book.sessions name ≡ places_at (sessions_in state) (live_in state)
  places-stand opened files state stands =
      let book = book_sessions sha256 (stored_chunks state) [] (sessions_in state) in
      ap (λ (o : Opened). places_named o.book.sessions name) stands.opened
      ∙ ap (λ (s : List Session). places_named s name) (sessions-book sha256 state)
      ∙ ap (λ (found : Option ℕ). option_map (λ (s : Session). length s.entry.recipe) (option_and_then (slice_get book) found))
      (live_session-book sha256 (stored_chunks state) [] (sessions_in state) name)
      ∙ places-book sha256 (stored_chunks state) [] (sessions_in state) (live_in state)

-- ---- the pass of `drop`

drop_late : (name : List ℕ) (found : Option ℕ) (state : State) → IsEarly (pass_of_drop name found state).outcome → ⊥
drop_late name None state early = early
drop_late name (Some k) state early = early

-- a name that names no session is refused
none-found : (name : List ℕ) (found : Option ℕ) (state : State) (ending : Outcome) → found ≡ None → ending ≡ NoSession
    → EndsAs (pass_of_drop name found state).outcome ending
none-found name None state ending none is = subst (EndsAs NoSession) (sym is) refl
none-found name (Some k) state ending none is = absurd cc

-- the text has the places of the session
text-found : (name : List ℕ) (found : Option ℕ) (state : State) (places : ℕ) (text : String Global)
    → places_at (sessions_in state) found ≡ Some places → string_bytes text ≡ dropped_text name places
    → MakesTextOf (pass_of_drop name found state) (Ok text)
text-found name None state places text is same = absurd cc
text-found name (Some k) state places text is same =
    (refl, ap (λ (n : Option ℕ). dropped_text name (unwrap_or n 0)) is ∙ sym same)

drop-among : (name : List ℕ) (ending : Outcome)
    → IsOneOf (Done ∷ SinkFault ∷ OutOfMemory ∷ NoStore ∷ ShelfFault ∷ []) ending ⊎ IsDamage IsOfOpening ending
    → MayReturn (Ok (quiet (Drop name))) ending
drop-among name ending (inr found) = inr found
drop-among name ending (inl (inl is)) = inl (inl is)
drop-among name ending (inl (inr (inl is))) = inl (inr (inl is))
drop-among name ending (inl (inr (inr (inl is)))) = inl (inr (inr (inl is)))
drop-among name ending (inl (inr (inr (inr (inl is))))) = inl (inr (inr (inr (inl is))))
drop-among name ending (inl (inr (inr (inr (inr (inl is)))))) = inl (inr (inr (inr (inr (inl is)))))
drop-among name ending (inl (inr (inr (inr (inr (inr never)))))) = absurd never

-- a fault is no refusal
IsRefusal : Outcome → Type 0
IsRefusal ending = IsOneOf (NoStore ∷ NoSession ∷ []) ending ⊎ IsDamage IsOfOpening ending

refusal-at : (ending other : Outcome) → ending ≡ other → (other ≡ NoStore → ⊥) → (other ≡ NoSession → ⊥)
    → ((flaw : Damage) → other ≡ Damaged flaw → ⊥) → IsRefusal ending → ⊥
unfolding IsRefusal
refusal-at ending other same store session sound (inl (inl is)) = store (sym same ∙ is)
refusal-at ending other same store session sound (inl (inr (inl is))) = session (sym same ∙ is)
refusal-at ending other same store session sound (inl (inr (inr never))) = never
refusal-at ending other same store session sound (inr found) = sound found.0 (sym same ∙ found.2)

no-session-is : (ending : Outcome) → ending ≡ NoSession → IsRefusal ending
unfolding IsRefusal
no-session-is ending is = inl (inr (inl is))

broken-kept : (ending : Outcome) → IsBroken ending → IsRefusal ending → ⊥
unfolding IsRefusal
broken-kept ending (inl is) refused = refusal-at ending ShelfFault is (λ clash. absurd cc) (λ clash. absurd cc) (λ flaw clash. absurd cc) refused
broken-kept ending (inr is) refused = refusal-at ending OutOfMemory is (λ clash. absurd cc) (λ clash. absurd cc) (λ flaw clash. absurd cc) refused

-- the records of a book, if nothing was dropped
found-broken : (name : List ℕ) (ending : Outcome) (found : Option ℕ) → IsBroken ending → IfSome found (λ places. ⊤ × IsBroken ending)
found-broken name ending None broken = tt
found-broken name ending (Some places) broken = (tt, broken)

pub broken-by_book : (name : List ℕ) (ending : Outcome) (opened : Opened) → IsBroken ending → DropsByBook opened name (Err ending)
broken-by_book name ending opened broken = record {
  no_session = λ is. absurd (broken-kept ending broken (no-session-is ending (in_error is)));
  absent = λ none. inl broken;
  found = found-broken name ending (places_named opened.book.sessions name) broken;
}

-- a run that made no text is not done, and its write did not fail
unwritten : (ending : Outcome) → IsUnmade ending → (ending ≡ Done) ⊎ (ending ≡ SinkFault) → ⊥
unwritten ending unmade (inl is) = subst IsUnmade is unmade
unwritten ending unmade (inr is) = subst IsUnmade is unmade

module _ {F : Type 0} (name : List ℕ) (files_of : F → Option (File → List ℕ)) (loose : F → File → Bool)
    (faults : F → ℕ) (faultless : F → Type 0) where
  abbrev Pass-of : State → Pass
  Pass-of state = pass_of_drop name (live_session_named (sessions_in state) name) state

  drop_needs : (before after : F) → NeedsStore (Ok (quiet (Drop name))) files_of loose before after
  drop_needs before after = record {
    needs = λ state held. held;
    among = drop-among name;
    shelf = λ ending unmade kept. record { refused = λ _. kept; flushed = λ is. absurd (unwritten ending unmade is) };
    verdict = λ ending opens. opens;
    broken = broken-by_book name;
  }

  pub drop_refused : (before after : F) (ending : Outcome) → OpensStore (Err ending) files_of loose faults faultless before after
      → MakesText (in_store Pass-of) (Ok (quiet (Drop name))) (Err ending) files_of loose faults faultless before after
  drop_refused before after = opening_refused (Ok (quiet (Drop name))) files_of loose faults faultless before after
      (drop_needs before after) Pass-of (λ state. drop_late name (live_session_named (sessions_in state) name) state)

  -- ---- a store that was opened

  module _ (before middle after : F) (opened : StoreState)
      (opens : OpensStore (Ok opened) files_of loose faults faultless before middle) where
    -- what holds of each state that the store stands for holds of a state that the files held
    on_told : (P : State → Type 0) (told : Option (File → List ℕ)) (state : State) → OpensOn (Some state) (Ok opened) told
        → AreHeld told (Some state) → IfSome told (λ files. StandsFor sha256 opened files state [] → P state) → P state
    on_told P None state stands held step = absurd held
    on_told P (Some files) state stands held step = step stands

    not_opened : (told : Option (File → List ℕ)) → OpensOn None (Ok opened) told → ⊥
    not_opened told stands = stands

    stands-told : (P : State → Type 0) (state : State) → AreHeld (files_of before) (Some state)
        → IfSome (files_of middle) (λ files. StandsFor sha256 opened files state [] → P state) → P state
    stands-told P state held step = on_told P (files_of middle) state (opens.on_state (Some state) held)
        (still_held (files_of before) (files_of middle) (Some state) opens.kept.same_files held) step

    all-told : (P : State → Type 0) (state : State) (told : Option (File → List ℕ))
        → ((files : File → List ℕ) → StandsFor sha256 opened files state [] → P state)
        → IfSome told (λ files. StandsFor sha256 opened files state [] → P state)
    all-told P state None step = tt
    all-told P state (Some files) step = step files

    places-of : (found : Option ℕ) (text : String Global) → (found ≡ None → ⊥)
        → IfSome found (λ places. (string_bytes text ≡ dropped_text name places) × ⊤)
        → (places : ℕ) × (found ≡ Some places) × (string_bytes text ≡ dropped_text name places)
    places-of None text some is = absurd (some refl)
    places-of (Some places) text some is = (places, refl, is.0)

    text-of : (text : String Global) (state : State) (files : File → List ℕ)
        → DropsByBook opened.opened name (Ok text) → StandsFor sha256 opened files state []
        → MakesTextOf (Pass-of state) (Ok text)
    text-of text state files by stands =
        let sessions = opened.opened.book.sessions in
        let found = places-of (places_named sessions name) text (λ none. by.absent (none-named sessions name none)) by.found in
        text-found name (live_session_named (sessions_in state) name) state found.0 text
        (sym (places-stand name opened files state stands) ∙ found.1) found.2

    refused-of : (ending : Outcome) (state : State) (files : File → List ℕ) → IsBroken ending ⊎ (ending ≡ NoSession)
        → DropsByBook opened.opened name (Err ending) → StandsFor sha256 opened files state []
        → EndsAs (Pass-of state).outcome ending
    refused-of ending state files (inl broken) by stands = ends_broken (Pass-of state).outcome ending broken
    refused-of ending state files (inr is) by stands =
        none-found name (live_session_named (sessions_in state) name) state ending
        (sym (live-stands name opened files state stands) ∙ by.no_session (err-of ending is)) is

    held-told : (made : Made) → DropsFrom opened name made files_of loose faults faultless middle after
        → (state : Option State) → AreHeld (files_of before) state
        → IfSome (files_of after) (MakesStoreOf made state (in_store Pass-of state).after)
    held-told made drops None held = absurd (opens.on_state None held)
    held-told made drops (Some state) held = stands-told
        (λ (s : State). IfSome (files_of after) (MakesStoreOf made (Some s) (after_drop name s))) state held (drops.held state)

    clean-told : (text : String Global) → DropsFrom opened name (Ok text) files_of loose faults faultless middle after
        → (state : Option State) → AreHeld (files_of before) state
        → StayClean (files_of before) (files_of after) state (in_store Pass-of state).after
    clean-told text drops None held = absurd (opens.on_state None held)
    clean-told text drops (Some state) held = subst
        (λ (told : Option (File → List ℕ)). StayClean told (files_of after) (Some state) (after_drop name state))
        (same-told (files_of before) (files_of middle) opens.kept.same_files)
        (clean (files_of middle) (opens.on_state (Some state) held) (drops.clean state)) where
          clean : (told : Option (File → List ℕ)) → OpensOn (Some state) (Ok opened) told
              → IfSome told (λ files. StandsFor sha256 opened files state [] → AreClean sha256 files (Some state)
              → IfSome (files_of after) (λ then. AreClean sha256 then (after_drop name state)))
              → StayClean told (files_of after) (Some state) (after_drop name state)
          clean None stands step = tt
          clean (Some files) stands step = step stands

    opens-first : (ending : Outcome) → (ending ≡ NoStore → ⊥) → ((flaw : Damage) → ending ≡ Damaged flaw → ⊥)
        → IfSome (files_of before) (OpensFirst (λ flaw. ⊥) ending)
    opens-first ending = opens_fully (files_of before) opened ending opens.opened

    counted : (made : Made) → DropsFrom opened name made files_of loose faults faultless middle after
        → CountsFaults (made ≡ Err ShelfFault) faults faultless before after
    counted made drops = counted_after _ _ faults faultless before middle after opens.counts drops.counts

    ending-is : (ending : Outcome) → IsBroken ending ⊎ (ending ≡ NoSession) → (P : Outcome → Type 0)
        → P ShelfFault → P OutOfMemory → P NoSession → P ending
    ending-is ending (inl (inl is)) P shelf memory session = subst P (sym is) shelf
    ending-is ending (inl (inr is)) P shelf memory session = subst P (sym is) memory
    ending-is ending (inr is) P shelf memory session = subst P (sym is) session

    kept : (ending : Outcome) → IsBroken ending ⊎ (ending ≡ NoSession)
        → DropsFrom opened name (Err ending) files_of loose faults faultless middle after
        → IsOneOf (NoStore ∷ NoSession ∷ []) ending ⊎ IsDamage IsOfOpening ending → KeepsFiles files_of loose before after
    unfolding IsRefusal
    kept ending (inl broken) drops refused = absurd (broken-kept ending broken refused)
    kept ending (inr is) drops refused =
        let same = drops.kept (err-of ending is) in
        kept_after files_of loose before middle after opens.kept same.same_files same.same_loose

    pub drop_made : (made : Made) → DropsFrom opened name made files_of loose faults faultless middle after
        → MakesText (in_store Pass-of) (Ok (quiet (Drop name))) made files_of loose faults faultless before after
    drop_made (Ok text) drops = record {
      on_state = λ state needs. made-on state needs;
      held = held-told (Ok text) drops;
      clean = clean-told text drops;
      unmade = tt;
      among = λ ending ends. inl ((of_write ending ends).among (NoStore ∷ ShelfFault ∷ NoSession ∷ []));
      counts = counted (Ok text) drops;
      shelf = λ ending ends. record {
        refused = λ refused. absurd (written ending ends refused);
        flushed = λ _ o. records_of_store (λ other. AreFlushed other.head.generation (loose after)) (files_of before) opened o
            opens.opened drops.flushed;
      };
      verdict = λ ending ends. opens-first ending (of_write ending ends).store (of_write ending ends).sound;
      by_records = λ o. records_of_store (λ other. DropsByBook other name (Ok text)) (files_of before) opened o opens.opened drops.by_book;
    } where
      made-on : (state : Option State) → AreHeld (files_of before) state → MakesTextOf (in_store Pass-of state) (Ok text)
      made-on None held = absurd (opens.on_state None held)
      made-on (Some state) held = stands-told (λ (s : State). MakesTextOf (Pass-of s) (Ok text)) state held
          (all-told (λ (s : State). MakesTextOf (Pass-of s) (Ok text)) state (files_of middle)
          (λ files stands. text-of text state files drops.by_book stands))

      written : (ending : Outcome) → MayEnd (let m : Made = Ok text in m) ending
          → IsOneOf (NoStore ∷ NoSession ∷ []) ending ⊎ IsDamage IsOfOpening ending → ⊥
      written ending ends (inl (inl is)) = (of_write ending ends).store is
      written ending ends (inl (inr (inl is))) = (of_write ending ends).loud (subst IsSilent (sym is) tt)
      written ending ends (inl (inr (inr never))) = never
      written ending ends (inr found) = (of_write ending ends).sound found.0 found.2
    drop_made (Err ending) drops = record {
      on_state = λ state needs. (refused-on state needs, λ early. absurd (late state early));
      held = held-told (Err ending) drops;
      clean = tt;
      unmade = unmade;
      among = λ other ends. subst (MayReturn (Ok (quiet (Drop name)))) (sym ends)
          (ending-is ending drops.refused (MayReturn (Ok (quiet (Drop name))))
          (inl (inr (inr (inr (inr (inl refl)))))) (inl (inr (inr (inl refl)))) (inl (inr (inr (inr (inr (inr (inl refl))))))));
      counts = counted (Err ending) drops;
      shelf = λ other ends. record {
        refused = λ refused. kept ending drops.refused drops
            (subst (λ (o : Outcome). IsOneOf (NoStore ∷ NoSession ∷ []) o ⊎ IsDamage IsOfOpening o) ends refused);
        flushed = λ is. absurd (unwritten other (subst IsUnmade (sym ends) unmade) is);
      };
      verdict = λ other ends. opens-first other
          (λ is. ending-is ending drops.refused (λ (o : Outcome). o ≡ NoStore → ⊥) (λ clash. absurd cc) (λ clash. absurd cc)
          (λ clash. absurd cc) (sym ends ∙ is))
          (λ flaw is. ending-is ending drops.refused (λ (o : Outcome). o ≡ Damaged flaw → ⊥) (λ clash. absurd cc)
          (λ clash. absurd cc) (λ clash. absurd cc) (sym ends ∙ is));
      by_records = λ o. records_of_store (λ other. DropsByBook other name (Err ending)) (files_of before) opened o opens.opened drops.by_book;
    } where
      unmade : IsUnmade ending
      unmade = ending-is ending drops.refused IsUnmade tt tt tt

      refused-on : (state : Option State) → AreHeld (files_of before) state → EndsAs (in_store Pass-of state).outcome ending
      refused-on None held = absurd (opens.on_state None held)
      refused-on (Some state) held = stands-told (λ (s : State). EndsAs (Pass-of s).outcome ending) state held
          (all-told (λ (s : State). EndsAs (Pass-of s).outcome ending) state (files_of middle)
          (λ files stands. refused-of ending state files drops.refused drops.by_book stands))

      late : (state : Option State) → IsEarly (in_store Pass-of state).outcome → ⊥
      late None early = early
      late (Some state) early = drop_late name (live_session_named (sessions_in state) name) state early

  -- ---- what dropping from a store does

  module _ (opened : StoreState) where
    nothing-held : (ending : Outcome) (state : State) (told : Option (File → List ℕ))
        → ((files : File → List ℕ) → Hold sha256 files (Some state) → LeavesStore ending (Some state) (after_drop name state) files)
        → IfSome told (λ files. StandsFor sha256 opened files state []
        → IfSome told (LeavesStore ending (Some state) (after_drop name state)))
    nothing-held ending state None step = tt
    nothing-held ending state (Some files) step = λ stands. step files stands.held

    -- no live session has the name
    pub dropped_none : (shelf : F) → places_named opened.opened.book.sessions name ≡ None
        → DropsFrom opened name (Err NoSession) files_of loose faults faultless shelf shelf
    dropped_none shelf none = record {
      refused = inr refl;
      by_book = record {
        no_session = λ _. none-named opened.opened.book.sessions name none;
        absent = λ _. inr refl;
        found = subst (λ (found : Option ℕ). IfSome found (λ places. ⊤ × IsBroken NoSession)) (sym none) tt;
      };
      kept = λ _. record { same_files = λ f. refl; same_loose = λ f. refl };
      flushed = tt;
      held = λ state. nothing-held NoSession state (files_of shelf) (λ files holds. holds);
      clean = tt;
      counts = uncalled _ faults faultless shelf (λ clash. absurd cc);
    }

    -- there is no memory for the text
    pub dropped_no_memory : (shelf : F) → DropsFrom opened name (Err OutOfMemory) files_of loose faults faultless shelf shelf
    dropped_no_memory shelf = record {
      refused = inl (inr refl);
      by_book = broken-by_book name OutOfMemory opened.opened (inr refl);
      kept = λ clash. absurd cc;
      flushed = tt;
      held = λ state. nothing-held OutOfMemory state (files_of shelf) (λ files holds. inl holds);
      clean = tt;
      counts = uncalled _ faults faultless shelf (λ clash. absurd cc);
    }

    -- what dropping the live session of the name promises
    pub record Promised (before after : F) (result : Result ℕ StoreFault) : Type 0 where
      pub late : OnErr result (OnlyFails result)
      pub flushed : OnOk result (loose after (Book opened.opened.head.generation) ≡ false)
      pub sealed : OnOk result (loose after (Seal opened.opened.head.generation) ≡ false)
      pub held : (state : State) → IfSome (files_of before) (λ files. StandsFor sha256 opened files state []
          → IfSome (files_of after) (λ then. OnOk result (Hold sha256 then (after_drop name state))
          × OnErr result (Hold sha256 then (Some state) ⊎ Hold sha256 then (after_drop name state))))
      pub clean : (state : State) → IfSome (files_of before) (λ files. StandsFor sha256 opened files state []
          → AreClean sha256 files (Some state)
          → OnOk result (IfSome (files_of after) (λ then. AreClean sha256 then (after_drop name state))))
      pub counts : CountsFaults (result ≡ Err store.ShelfFault) faults faultless before after

    map-after : (P Q : (File → List ℕ) → Type 0) → ((then : File → List ℕ) → P then → Q then)
        → (told : Option (File → List ℕ)) → IfSome told P → IfSome told Q
    map-after P Q step None holds = tt
    map-after P Q step (Some then) holds = step then holds

    map-held : (state : State) (P Q : Type 0) → (P → Q) → (told : Option (File → List ℕ))
        → IfSome told (λ files. StandsFor sha256 opened files state [] → P)
        → IfSome told (λ files. StandsFor sha256 opened files state [] → Q)
    map-held state P Q step None holds = tt
    map-held state P Q step (Some files) holds = λ stands. step (holds stands)

    no-clash : (places : ℕ) → places_named opened.opened.book.sessions name ≡ Some places
        → live_session opened.opened.book.sessions name ≡ None → ⊥
    no-clash places some none =
        let sessions = opened.opened.book.sessions in
        let clash : Some places ≡ None =
        sym some ∙ ap (λ (found : Option ℕ). option_map (λ (s : Session). length s.entry.recipe) (option_and_then (slice_get sessions) found)) none in
        absurd cc

    -- the session is dropped
    pub dropped_done : (before after : F) (places count : ℕ) (text : String Global)
        → places_named opened.opened.book.sessions name ≡ Some places → string_bytes text ≡ dropped_text name places
        → Promised before after (Ok count) → DropsFrom opened name (Ok text) files_of loose faults faultless before after
    dropped_done before after places count text some is promised = record {
      refused = tt;
      by_book = record {
        no_session = λ clash. absurd cc;
        absent = λ none. no-clash places some none;
        found = subst (λ (found : Option ℕ). IfSome found (λ n. (string_bytes text ≡ dropped_text name n) × ⊤)) (sym some) (is, tt);
      };
      kept = λ clash. absurd cc;
      flushed = (promised.flushed, promised.sealed);
      held = λ state. map-held state _ _ (map-after _ _ (λ then held. held.0) (files_of after)) (files_of before) (promised.held state);
      clean = promised.clean;
      counts = counted_as _ _ faults faultless before after (λ clash. absurd cc) promised.counts;
    }

    broken-of : (fault : StoreFault) → OnlyFails {T = ℕ} (Err fault) → IsBroken (outcome_of_store fault)
    broken-of fault (inl is) = inl (ap outcome_of_store (fault_of is))
    broken-of fault (inr is) = inr (ap outcome_of_store (fault_of is))

    -- a call on the files failed, or memory ran out
    pub dropped_failed : (before after : F) (fault : StoreFault) → Promised before after (Err fault)
        → DropsFrom opened name (Err (outcome_of_store fault)) files_of loose faults faultless before after
    dropped_failed before after fault promised =
        let broken = broken-of fault promised.late in record {
          refused = inl broken;
          by_book = broken-by_book name (outcome_of_store fault) opened.opened broken;
          kept = λ is. absurd (broken-kept (outcome_of_store fault) broken (no-session-is (outcome_of_store fault) (in_error is)));
          flushed = tt;
          held = λ state. map-held state _ _
              (λ held. leaves_broken (outcome_of_store fault) (Some state) (after_drop name state) (files_of after) broken
              (map-after _ _ (λ then parts. parts.1) (files_of after) held))
              (files_of before) (promised.held state);
          clean = tt;
          counts = counted_as _ _ faults faultless before after
              (λ is. refused_with ℕ (fault_is fault store.ShelfFault (in_error is))) promised.counts;
        }

-- ---- what the store promises, in the words of the definition

-- the state after the session that was found is dropped
after-found : (name : List ℕ) (found : Option ℕ) (state : State) (k : ℕ) → found ≡ Some k
    → Some (followed_by_event state (dropped k)) ≡ (pass_of_drop name found state).after
after-found name None state k is = absurd cc
after-found name (Some j) state k is = ap (λ (n : Option ℕ). (pass_of_drop name n state).after) (sym is)

-- a name that names places names a session
some-named : (sessions : List Session) (name : List ℕ) (places : ℕ) → places_named sessions name ≡ Some places
    → (k : ℕ) × (live_session sessions name ≡ Some k)
some-named sessions name places some = by (live_session sessions name) refl where
  by : (found : Option ℕ) → live_session sessions name ≡ found → (k : ℕ) × (live_session sessions name ≡ Some k)
  by (Some k) is = (k, is)
  by None is =
      let clash : Some places ≡ None = sym some
      ∙ ap (λ (f : Option ℕ). option_map (λ (s : Session). length s.entry.recipe) (option_and_then (slice_get sessions) f)) is in
      absurd cc

on-ok : {T E : Type 0} (P Q : Type 0) (result : Result T E) → (P → Q) → OnOk result P → OnOk result Q
on-ok P Q (Ok value) step holds = step holds
on-ok P Q (Err fault) step holds = tt

on-err : {T E : Type 0} (P Q : Type 0) (result : Result T E) → (P → Q) → OnErr result P → OnErr result Q
on-err P Q (Ok value) step holds = tt
on-err P Q (Err fault) step holds = step holds

module _ {F : Type 0} (name : List ℕ) (files_of : F → Option (File → List ℕ)) (loose : F → File → Bool)
    (faults : F → ℕ) (faultless : F → Type 0) (opened new : StoreState) (before after : F) (result : Result ℕ StoreFault)
    (places : ℕ) (some : places_named opened.opened.book.sessions name ≡ Some places) where
  -- the number of the session
  abbrev number : ℕ
  number = (some-named opened.opened.book.sessions name places some).0

  after-is : (files : File → List ℕ) (state : State) → StandsFor sha256 opened files state []
      → (live_session_named (sessions_in state) name ≡ Some number)
      × (Some (followed_by_event state (dropped number)) ≡ after_drop name state)
  after-is files state stands =
      let is = sym (live-stands name opened files state stands) ∙ (some-named opened.opened.book.sessions name places some).1 in
      (is, after-found name (live_session_named (sessions_in state) name) state number is)

  -- the store stands for the state with the drop, or the files hold one of both
  abbrev pub Stands : State → ℕ → (File → List ℕ) → Type 0
  Stands state session then = OnOk result (StandsFor sha256 new then (followed_by_event state (dropped session)) [])
      × OnErr result (HoldState sha256 then state ⊎ HoldState sha256 then (followed_by_event state (dropped session)))

  held-of : (state : State) (told : Option (File → List ℕ))
      → IfSome told (λ files. StandsFor sha256 opened files state [] → live_session_named (sessions_in state) name ≡ Some number
      → IfSome (files_of after) (Stands state number))
      → IfSome told (λ files. StandsFor sha256 opened files state []
      → IfSome (files_of after) (λ then. OnOk result (Hold sha256 then (after_drop name state))
      × OnErr result (Hold sha256 then (Some state) ⊎ Hold sha256 then (after_drop name state))))
  held-of state None holds = tt
  held-of state (Some files) holds = λ stands.
      let is = after-is files state stands in
      map-after name files_of loose faults faultless opened _ _ (λ then parts. (
        on-ok _ _ result (λ stood. subst (Hold sha256 then) is.1 stood.held) parts.0,
        on-err _ _ result (λ either. subst (λ (s : Option State). HoldState sha256 then state ⊎ Hold sha256 then s) is.1 either) parts.1,
      )) (files_of after) (holds stands is.0)

  clean-of : (state : State) (told : Option (File → List ℕ))
      → IfSome told (λ files. StandsFor sha256 opened files state [] → live_session_named (sessions_in state) name ≡ Some number
      → AreClean sha256 files (Some state)
      → OnOk result (IfSome (files_of after) (λ then. AreClean sha256 then (Some (followed_by_event state (dropped number))))))
      → IfSome told (λ files. StandsFor sha256 opened files state [] → AreClean sha256 files (Some state)
      → OnOk result (IfSome (files_of after) (λ then. AreClean sha256 then (after_drop name state))))
  clean-of state None holds = tt
  clean-of state (Some files) holds = λ stands clean.
      let is = after-is files state stands in
      subst (λ (s : Option State). OnOk result (IfSome (files_of after) (λ then. AreClean sha256 then s))) is.1 (holds stands is.0 clean)

  pub promised : ((session : ℕ) → live_session opened.opened.book.sessions name ≡ Some session → OnErr result (OnlyFails result))
      → OnOk result (loose after (Book opened.opened.head.generation) ≡ false)
      → OnOk result (loose after (Seal opened.opened.head.generation) ≡ false)
      → ((state : State) (session : ℕ) → IfSome (files_of before) (λ files. StandsFor sha256 opened files state []
      → live_session_named (sessions_in state) name ≡ Some session → IfSome (files_of after) (Stands state session)))
      → ((state : State) (session : ℕ) → IfSome (files_of before) (λ files. StandsFor sha256 opened files state []
      → live_session_named (sessions_in state) name ≡ Some session → AreClean sha256 files (Some state)
      → OnOk result (IfSome (files_of after) (λ then. AreClean sha256 then (Some (followed_by_event state (dropped session)))))))
      → CountsFaults (result ≡ Err store.ShelfFault) faults faultless before after
      → Promised name files_of loose faults faultless opened before after result
  promised late flushed sealed stands clean counts = record {
    late = late number (some-named opened.opened.book.sessions name places some).1;
    flushed = flushed;
    sealed = sealed;
    held = λ state. held-of state (files_of before) (stands state number);
    clean = λ state. clean-of state (files_of before) (clean state number);
    counts = counts;
  }
