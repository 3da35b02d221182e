-- A run of `ingest`: the input is taken in, and then the text says so.
use Rattle.std.proofs.Common.{◌≡◌, inl, inr, ℕ, Bool, true, false, List, [], ◌∷◌, length, refl, ap, sym, subst, ◌∙◌, arith}
use Rattle.std.specs.List.{concat}
use Rattle.std.specs.Prelude.{◌⊎◌, Err, IfErr, IfOk, IfSome, IsErrAnd, None, Ok, Option, Some, String, if◌then◌else◌, is_some, nat_le, nat_lt, string_bytes}
use Rattle.std.specs.declared.alloc.Global.{Global}
use Rattle.sha2.specs.Sha256.{sha256}
use Rattle.edge_traits.specs.Shelf.{SameFiles, SameLoose}
use Rattle.ingest_core.specs.ByBook.{IngestsByBook, refusal_by_book}
use Rattle.ingest_core.specs.Faults.{IsOfOffers, Fails, IsAfterReading as IsAfterReadingIn, IsBeforeReading as IsBeforeReadingIn, IsBeforeWriting, IsOfIngest, IsStoreFailure, outcome_of}
use Rattle.ingest_core.specs.Ingests.{Ends, IngestsInto, IsClosedTo, IsInputOf, LeavesShelf as LeavesShelfIn, OpensFirst as OpensFirstIn, ReadsSource, RefusesWithCause, summary_of}
use Rattle.ingest_core.specs.declared.fault.IngestFault.{IngestFault}
use Rattle.ingest_core.specs.declared.fault.IngestFault.TheVariants.{Store, SourceFault, InputTooLong}
use Rattle.ingest_core.specs.declared.summary.Summary.{Summary}
use Rattle.sd_base.specs.Cutting.{chunks_of}
use Rattle.sd_base.specs.Distinct.{new_chunks}
use Rattle.sd_base.specs.OnePass.{Pass, in_store, pass_of_ingest, refusal, refusal_of_ingest, success, unless_refused}
use Rattle.sd_base.specs.Opening.{IsOpeningDamage, OpenAs, Opened}
use Rattle.sd_base.specs.States.{IsLawful, State, live_session_named, placed_chunks, sessions_in, stored_chunks, with_session}
use Rattle.sd_base.specs.Stores.{AreClean, Hold, HoldNoStore, HoldState}
use Rattle.sd_base.specs.Texts.{ingest_text, ingested_text}
use Rattle.sd_base.specs.declared.damage.Damage.{Damage}
use Rattle.sd_base.specs.declared.file.File.{File}
use Rattle.sd_base.specs.declared.how.How.{How}
use Rattle.sd_base.specs.declared.limits.TheConstants.{MAX_CHUNKS, MAX_INPUT, MAX_PLACES, MAX_SESSIONS}
use Rattle.sd_base.specs.declared.outcome.Outcome.{Outcome}
use Rattle.sd_base.specs.declared.outcome.Outcome.TheVariants as outcome
use Rattle.sd_base.specs.declared.words.Command.TheVariants.{Ingest}
use Rattle.sd_base.proofs.Covering.{concat-chunks_of}
use Rattle.store_core.specs.Faults.{IsOfChunk}
use Rattle.store_core.specs.Shelves.{CountsFaults}
use Rattle.store_core.specs.declared.fault.StoreFault.TheVariants as store
use Rattle.backup_top.specs.ByRecords.{IngestsByRecords}
use Rattle.backup_top.specs.Outcomes.{EndsAs, IsAfterReading, IsBeforeReading, IsBroken, IsDamage, IsEarly, IsOneOf, LeavesStore}
use Rattle.backup_top.specs.Run.{AreHeld, IngestReads, IsRun, MayReturn, OpensFirst, StayClean}
use Rattle.backup_top.specs.Steps.{IsUnmade, Made, MakesText, MakesTextOf, MayEnd, TakesByBook, TakesInput, WritesMade}
use Rattle.backup_top.proofs.Openings.{in_error, still_held, told_held}
use Rattle.backup_top.proofs.Lists.{leaves_broken, other_held}
use Rattle.backup_top.proofs.Runs.{carried_out, counted_as, ends_broken, err-of, no_records, of_write}

-- ---- faults of an ingest, as outcomes

-- the fault that an outcome stands for
fault_in : Outcome → IngestFault
fault_in outcome.NoStore = Store store.NoStore
fault_in outcome.StoreThere = Store store.StoreThere
fault_in (outcome.Damaged d) = Store (store.Damaged d)
fault_in outcome.NameTaken = Store store.NameTaken
fault_in outcome.NoSession = Store store.NoSession
fault_in outcome.TooManySessions = Store store.TooManySessions
fault_in outcome.TooManyPlaces = Store store.TooManyPlaces
fault_in outcome.TooManyChunks = Store store.TooManyChunks
fault_in outcome.ShelfFault = Store store.ShelfFault
fault_in outcome.SinkFault = Store store.SinkFault
fault_in outcome.OutOfMemory = Store store.OutOfMemory
fault_in outcome.SourceFault = SourceFault
fault_in outcome.InputTooLong = InputTooLong
fault_in _ = Store store.OutOfMemory

back : (fault : IngestFault) → fault_in (outcome_of fault) ≡ fault
unfolding fault_in
back (Store store.NoStore) = refl
back (Store store.StoreThere) = refl
back (Store (store.Damaged d)) = refl
back (Store store.NameTaken) = refl
back (Store store.NoSession) = refl
back (Store store.TooManySessions) = refl
back (Store store.TooManyPlaces) = refl
back (Store store.TooManyChunks) = refl
back (Store store.ShelfFault) = refl
back (Store store.SinkFault) = refl
back (Store store.OutOfMemory) = refl
back SourceFault = refl
back InputTooLong = refl

fault_is : (fault other : IngestFault) → outcome_of fault ≡ outcome_of other → fault ≡ other
fault_is fault other same = sym (back fault) ∙ ap fault_in same ∙ back other

refused_so : {fault other : IngestFault} → fault ≡ other → ◌≡◌ {A = Ends} (Err fault) (Err other)
refused_so same = ap (λ (f : IngestFault). let r : Ends = Err f in r) same

-- what holds of the outcome of a refusal
record OfIngest (name : List ℕ) (how : How) (fault : IngestFault) : Type 0 where
  pub unmade : IsUnmade (outcome_of fault)
  pub among : MayReturn (Ok (Ingest name how)) (outcome_of fault)
  pub kept : (before after : Option State) (files : File → List ℕ) → Hold sha256 files before
      → LeavesStore (outcome_of fault) before after files
  pub broken : IsStoreFailure fault → IsBroken (outcome_of fault)
  pub unwritten : IsBeforeReading (outcome_of fault) → IsBeforeWriting fault
  pub unread : IsBeforeReading (outcome_of fault) → IsBeforeReadingIn fault
  pub read : IsAfterReading (outcome_of fault) → IsAfterReadingIn fault
  pub late : IsEarly (outcome_of fault) → ⊥
  pub ends : (expected : Outcome) → Fails fault → EndsAs expected (outcome_of fault)

of_ingest : (name : List ℕ) (how : How) (fault : IngestFault) → IsOfIngest fault → OfIngest name how fault
of_ingest name how (Store store.NoStore) is = record {
  unmade = tt;
  among = inl (inr (inr (inr (inl refl))));
  kept = λ before after files holds. holds;
  broken = λ never. absurd never;
  unwritten = λ _. tt;
  unread = λ _. tt;
  read = λ never. absurd never;
  late = λ early. early;
  ends = λ expected never. absurd never;
}
of_ingest name how (Store store.StoreThere) is = absurd is
of_ingest name how (Store (store.Damaged d)) is = record {
  unmade = tt;
  among = inr (d, is, refl);
  kept = λ before after files holds. holds;
  broken = λ never. absurd never;
  unwritten = λ sound. sound;
  unread = λ sound. sound;
  read = λ never. absurd never;
  late = λ early. early;
  ends = λ expected never. absurd never;
}
of_ingest name how (Store store.NameTaken) is = record {
  unmade = tt;
  among = inl (inr (inr (inr (inr (inr (inl refl))))));
  kept = λ before after files holds. holds;
  broken = λ never. absurd never;
  unwritten = λ _. tt;
  unread = λ _. tt;
  read = λ never. absurd never;
  late = λ early. early;
  ends = λ expected never. absurd never;
}
of_ingest name how (Store store.NoSession) is = absurd is
of_ingest name how (Store store.TooManySessions) is = record {
  unmade = tt;
  among = inl (inr (inr (inr (inr (inr (inr (inl refl)))))));
  kept = λ before after files holds. holds;
  broken = λ never. absurd never;
  unwritten = λ _. tt;
  unread = λ _. tt;
  read = λ never. absurd never;
  late = λ early. early;
  ends = λ expected never. absurd never;
}
of_ingest name how (Store store.TooManyPlaces) is = record {
  unmade = tt;
  among = inl (inr (inr (inr (inr (inr (inr (inr (inr (inr (inl refl))))))))));
  kept = λ before after files holds. holds;
  broken = λ never. absurd never;
  unwritten = λ _. tt;
  unread = λ never. absurd never;
  read = λ _. tt;
  late = λ early. early;
  ends = λ expected never. absurd never;
}
of_ingest name how (Store store.TooManyChunks) is = record {
  unmade = tt;
  among = inl (inr (inr (inr (inr (inr (inr (inr (inr (inr (inr (inl refl)))))))))));
  kept = λ before after files holds. holds;
  broken = λ never. absurd never;
  unwritten = λ never. absurd never;
  unread = λ never. absurd never;
  read = λ _. tt;
  late = λ early. early;
  ends = λ expected never. absurd never;
}
of_ingest name how (Store store.ShelfFault) is = record {
  unmade = tt;
  among = inl (inr (inr (inr (inr (inl refl)))));
  kept = λ before after files holds. inl holds;
  broken = λ _. inl refl;
  unwritten = λ never. absurd never;
  unread = λ never. absurd never;
  read = λ never. absurd never;
  late = λ early. early;
  ends = λ expected fails. tt;
}
of_ingest name how (Store store.SinkFault) is = absurd is
of_ingest name how (Store store.OutOfMemory) is = record {
  unmade = tt;
  among = inl (inr (inr (inl refl)));
  kept = λ before after files holds. inl holds;
  broken = λ _. inr refl;
  unwritten = λ never. absurd never;
  unread = λ never. absurd never;
  read = λ never. absurd never;
  late = λ early. early;
  ends = λ expected fails. tt;
}
of_ingest name how SourceFault is = record {
  unmade = tt;
  among = inl (inr (inr (inr (inr (inr (inr (inr (inl refl))))))));
  kept = λ before after files holds. holds;
  broken = λ never. absurd never;
  unwritten = λ _. tt;
  unread = λ never. absurd never;
  read = λ never. absurd never;
  late = λ early. early;
  ends = λ expected fails. tt;
}
of_ingest name how InputTooLong is = record {
  unmade = tt;
  among = inl (inr (inr (inr (inr (inr (inr (inr (inr (inl refl)))))))));
  kept = λ before after files holds. holds;
  broken = λ never. absurd never;
  unwritten = λ _. tt;
  unread = λ never. absurd never;
  read = λ never. absurd never;
  late = λ early. early;
  ends = λ expected never. absurd never;
}

-- an outcome ends a run that is to end so
ends_same : (ending : Outcome) → EndsAs ending ending
ends_same outcome.Done = refl
ends_same (outcome.BadWords bad) = refl
ends_same (outcome.BadParams kind) = refl
ends_same outcome.NoStore = refl
ends_same outcome.StoreThere = refl
ends_same outcome.NameTaken = refl
ends_same outcome.NoSession = refl
ends_same (outcome.Damaged flaw) = refl
ends_same outcome.InputTooLong = refl
ends_same outcome.TooManySessions = refl
ends_same outcome.TooManyPlaces = refl
ends_same outcome.TooManyChunks = refl
ends_same outcome.SourceFault = tt
ends_same outcome.SinkFault = tt
ends_same outcome.ShelfFault = tt
ends_same outcome.OutOfMemory = tt

-- ---- the pass of `ingest`

abbrev IsLate : Option Outcome → Type 0
IsLate ending = IfSome ending (λ o. IsEarly o → ⊥)

late-of : (taken many long places chunks : Bool) → IsLate
    (if taken then Some outcome.NameTaken else if many then Some outcome.TooManySessions
    else if long then Some outcome.InputTooLong else if places then Some outcome.TooManyPlaces
    else if chunks then Some outcome.TooManyChunks else None)
late-of true many long places chunks = λ early. early
late-of false true long places chunks = λ early. early
late-of false false true places chunks = λ early. early
late-of false false false true chunks = λ early. early
late-of false false false false true = λ early. early
late-of false false false false false = tt

late-refusal : (state : State) (name input : List ℕ) → IsLate (refusal_of_ingest state name input)
late-refusal state name input =
    late-of (is_some (live_session_named (sessions_in state) name)) (nat_le MAX_SESSIONS (length (sessions_in state)))
    (nat_lt MAX_INPUT (length input)) (nat_lt MAX_PLACES (length (placed_chunks (with_session state name input).events)))
    (nat_lt MAX_CHUNKS (length (stored_chunks (with_session state name input))))

late-unless : (ending : Option Outcome) (state : Option State) (pass : Pass) → IsLate ending → (IsEarly pass.outcome → ⊥)
    → IsEarly (unless_refused ending state pass).outcome → ⊥
late-unless None state pass late done early = done early
late-unless (Some refused) state pass late done early = late early

module _ (name input : List ℕ) where
  abbrev Pass-of : Option State → Pass
  Pass-of state = in_store (pass_of_ingest name input) state

  -- what is done if the input is not refused
  abbrev taken : State → Pass
  taken state = success (Some (with_session state name input))
      (ingest_text (placed_chunks state.events) name (chunks_of state.params input))

  late : (state : Option State) → IsEarly (Pass-of state).outcome → ⊥
  late None early = early
  late (Some state) early = late-unless (refusal_of_ingest state name input) (Some state) (taken state)
      (late-refusal state name input) (λ never. never) early

  -- the pass of an input that is not refused
  accepted : (state : State) → refusal_of_ingest state name input ≡ None → pass_of_ingest name input state ≡ taken state
  accepted state none = ap (λ (r : Option Outcome). unless_refused r (Some state) (taken state)) none

  -- and of one that is
  refused : (state : State) (ending : Outcome) → refusal_of_ingest state name input ≡ Some ending
      → pass_of_ingest name input state ≡ refusal (Some state) ending
  refused state ending some = ap (λ (r : Option Outcome). unless_refused r (Some state) (taken state)) some

module _ {F : Type 0} (name : List ℕ) (how : How) (input : List ℕ)
    (files_of : F → Option (File → List ℕ)) (loose : F → File → Bool) (faults : F → ℕ)
    (faultless : F → Type 0) (before after : F) where
  abbrev Takes : Made → Type 0
  Takes made = MakesText (Pass-of name input) (Ok (Ingest name how)) made files_of loose faults faultless before after

  -- what an ingest promises of the input and the files
  pub record Ingested (result : Ends) : Type 0 where
    pub into : (state : State) → IfSome (files_of before) (λ files. IsLawful state → HoldState sha256 files state
        → IngestsInto sha256 state name input result files (files_of after))
    pub leaves : LeavesShelfIn result files_of loose before after
    pub causes : RefusesWithCause result (files_of before)
    pub counts : CountsFaults (result ≡ Err (Store store.ShelfFault)) faults faultless before after
    pub unopened : IfSome (files_of before) (λ files. HoldNoStore files ⊎ ((flaw : Damage) × IsOpeningDamage files flaw)
        → SameFiles (files_of before) (files_of after) × SameLoose (loose before) (loose after))

  -- ---- a refusal

  ends-refused : (told : Option (File → List ℕ)) (fault : IngestFault) → OfIngest name how fault
      → IfSome told (OpensFirstIn {T = Summary} (Err fault))
      → ((state : State) → IfSome told (λ files. IsLawful state → HoldState sha256 files state
      → IngestsInto sha256 state name input (Err fault) files (files_of after)))
      → (state : Option State) → AreHeld told state → EndsAs (Pass-of name input state).outcome (outcome_of fault)
  ends-refused None fault of opens into state held = absurd held
  ends-refused (Some files) fault of opens into None held = elim (opens.absent held.1) [
    | inl broken ↦ ends_broken outcome.NoStore (outcome_of fault) (of.broken broken)
    | inr is ↦ subst (λ (f : IngestFault). EndsAs outcome.NoStore (outcome_of f)) (sym is) refl
  ]
  ends-refused (Some files) fault of opens into (Some state) held = elim (into state held.0 held.1).refused [
    | inl fails ↦ of.ends (Pass-of name input (Some state)).outcome fails
    | inr some ↦ subst (λ (p : Pass). EndsAs p.outcome (outcome_of fault)) (sym (refused name input state (outcome_of fault) some))
        (ends_same (outcome_of fault))
  ]

  kept-told : (told : Option (File → List ℕ)) (fault : IngestFault) → OfIngest name how fault → (state other : Option State)
      → IfSome told (λ files. Hold sha256 files state) → IfSome told (LeavesStore (outcome_of fault) state other)
  kept-told None fault of state other holds = tt
  kept-told (Some files) fault of state other holds = of.kept state other files holds

  either-told : (told : Option (File → List ℕ)) (state : State)
      → IfSome told (λ files. HoldState sha256 files state
      ⊎ ((refusal_of_ingest state name input ≡ None) × HoldState sha256 files (with_session state name input)))
      → IfSome told (λ files. Hold sha256 files (Some state) ⊎ Hold sha256 files (Pass-of name input (Some state)).after)
  either-told None state either = tt
  either-told (Some files) state either = elim either [
    | inl kept ↦ inl kept
    | inr taken ↦ inr (subst (λ (p : Pass). Hold sha256 files p.after) (sym (accepted name input state taken.0)) taken.1)
  ]

  held-refused : (told : Option (File → List ℕ)) (fault : IngestFault) → OfIngest name how fault
      → IfSome told (OpensFirstIn {T = Summary} (Err fault))
      → told ≡ files_of before → IfSome told (λ files. HoldNoStore files ⊎ ((flaw : Damage) × IsOpeningDamage files flaw)
      → SameFiles (files_of before) (files_of after) × SameLoose (loose before) (loose after))
      → ((state : State) → IfSome told (λ files. IsLawful state → HoldState sha256 files state
      → IngestsInto sha256 state name input (Err fault) files (files_of after)))
      → (state : Option State) → AreHeld told state
      → IfSome (files_of after) (LeavesStore (outcome_of fault) state (Pass-of name input state).after)
  held-refused None fault of opens is unopened into state held = absurd held
  held-refused (Some files) fault of opens is unopened into None held =
      let same = subst (λ (told : Option (File → List ℕ)). SameFiles told (files_of after)) (sym is) (unopened (inl held.1)).0 in
      kept-told (files_of after) fault of None (Pass-of name input None).after
      (told_held (files_of after) None (still_held (Some files) (files_of after) None same held))
  held-refused (Some files) fault of opens is unopened into (Some state) held =
      let ingests = into state held.0 held.1 in
      elim ingests.kept [
        | inl broken ↦ leaves_broken (outcome_of fault) (Some state) (Pass-of name input (Some state)).after (files_of after)
            (of.broken broken) (either-told (files_of after) state ingests.either)
        | inr holds ↦ kept-told (files_of after) fault of (Some state) (Pass-of name input (Some state)).after holds
      ]

  first-refused : (told : Option (File → List ℕ)) (fault : IngestFault) → OfIngest name how fault
      → IfSome told (OpensFirstIn {T = Summary} (Err fault)) → IfSome told (OpensFirst IsOfChunk (outcome_of fault))
  first-refused None fault of opens = tt
  first-refused (Some files) fault of opens = record {
    no_store = λ is. opens.no_store (refused_so (fault_is fault (Store store.NoStore) is));
    absent = λ none. elim (opens.absent none) [
      | inl broken ↦ inl (of.broken broken)
      | inr is ↦ inr (ap outcome_of is)
    ];
    damaged = λ flaw is. opens.damaged flaw (refused_so (fault_is fault (Store (store.Damaged flaw)) is));
    named = λ flaw found. elim (opens.named flaw found) [
      | inl broken ↦ inl (of.broken broken)
      | inr is ↦ inr (ap outcome_of is)
    ];
  }

  pub ingest_refused : (fault : IngestFault) → Ingested (Err fault) → Takes (Err (outcome_of fault))
  ingest_refused fault ingested =
      let of = of_ingest name how fault ingested.causes.only in record {
        on_state = λ state needs. (
          ends-refused (files_of before) fault of ingested.causes.opens ingested.into state needs,
          λ early. absurd (late name input state early),
        );
        held = held-refused (files_of before) fault of ingested.causes.opens refl ingested.unopened ingested.into;
        clean = tt;
        unmade = of.unmade;
        among = λ ending ends. subst (MayReturn (Ok (Ingest name how))) (sym ends) of.among;
        counts = counted_as _ _ faults faultless before after
            (λ is. refused_so (fault_is fault (Store store.ShelfFault) (in_error is))) ingested.counts;
        shelf = λ ending ends early.
            let unwritten = of.unwritten (subst IsBeforeReading ends early) in record {
              same_files = ingested.leaves.same_files unwritten;
              same_loose = ingested.leaves.same_loose unwritten;
            };
        verdict = λ ending ends. subst (λ (o : Outcome). IfSome (files_of before) (OpensFirst IsOfChunk o)) (sym ends)
            (first-refused (files_of before) fault of ingested.causes.opens);
        by_records = λ opened. no_records _ (files_of before);
      }

  -- ---- an input that was taken in

  text-on : (told : Option (File → List ℕ)) (summary : Summary) (text : String Global)
      → string_bytes text ≡ ingested_text name summary.bytes summary.places summary.fresh
      → IfSome told (OpensFirstIn {T = Summary} (Ok summary))
      → ((state : State) → IfSome told (λ files. IsLawful state → HoldState sha256 files state
      → IngestsInto sha256 state name input (Ok summary) files (files_of after)))
      → (state : Option State) → AreHeld told state → MakesTextOf (Pass-of name input state) (Ok text)
  text-on None summary text is opens into state held = absurd held
  text-on (Some files) summary text is opens into None held = absurd (opens.absent held.1)
  text-on (Some files) summary text is opens into (Some state) held =
      let ingests = into state held.0 held.1 in
      let whole : length (concat (chunks_of state.params input)) ≡ length input =
      ap length (concat-chunks_of state.params input (omega (arith, held.0.params.min)) held.0.params.max.0) in
      let printed = ap (λ (s : Summary). ingested_text name s.bytes s.places s.fresh) ingests.summary in
      let same : ingest_text (placed_chunks state.events) name (chunks_of state.params input)
      ≡ ingested_text name (summary_of state input).bytes (summary_of state input).places (summary_of state input).fresh =
      ap (λ n. ingested_text name n (length (chunks_of state.params input))
      (length (new_chunks (placed_chunks state.events) (chunks_of state.params input)))) whole in
      subst (λ (p : Pass). MakesTextOf p (Ok text)) (sym (accepted name input state ingests.accepted))
      (refl, same ∙ sym printed ∙ sym is)

  held-taken : (told : Option (File → List ℕ)) (summary : Summary)
      → IfSome told (OpensFirstIn {T = Summary} (Ok summary))
      → ((state : State) → IfSome told (λ files. IsLawful state → HoldState sha256 files state
      → IngestsInto sha256 state name input (Ok summary) files (files_of after)))
      → (state : Option State) → AreHeld told state
      → IfSome (files_of after) (λ files. Hold sha256 files (Pass-of name input state).after)
  held-taken None summary opens into state held = absurd held
  held-taken (Some files) summary opens into None held = absurd (opens.absent held.1)
  held-taken (Some files) summary opens into (Some state) held =
      let ingests = into state held.0 held.1 in
      subst (λ (p : Pass). IfSome (files_of after) (λ f. Hold sha256 f p.after)) (sym (accepted name input state ingests.accepted))
      ingests.taken_in

  clean-taken : (told : Option (File → List ℕ)) (summary : Summary)
      → IfSome told (OpensFirstIn {T = Summary} (Ok summary))
      → ((state : State) → IfSome told (λ files. IsLawful state → HoldState sha256 files state
      → IngestsInto sha256 state name input (Ok summary) files (files_of after)))
      → (state : Option State) → AreHeld told state
      → StayClean told (files_of after) state (Pass-of name input state).after
  clean-taken None summary opens into state held = tt
  clean-taken (Some files) summary opens into None held = absurd (opens.absent held.1)
  clean-taken (Some files) summary opens into (Some state) held =
      let ingests = into state held.0 held.1 in
      λ clean. subst (λ (p : Pass). IfSome (files_of after) (λ f. AreClean sha256 f p.after))
      (sym (accepted name input state ingests.accepted)) (ingests.clean clean)

  first-taken : (told : Option (File → List ℕ)) (summary : Summary) (ending : Outcome)
      → IfSome told (OpensFirstIn {T = Summary} (Ok summary)) → (ending ≡ outcome.NoStore → ⊥)
      → ((flaw : Damage) → ending ≡ outcome.Damaged flaw → ⊥) → IfSome told (OpensFirst IsOfChunk ending)
  first-taken None summary ending opens not_store not_damaged = tt
  first-taken (Some files) summary ending opens not_store not_damaged = record {
    no_store = λ is. absurd (not_store is);
    absent = λ none. absurd (opens.absent none);
    damaged = λ flaw is. absurd (not_damaged flaw is);
    named = λ flaw found. absurd (opens.named flaw found);
  }

  pub ingest_taken : (summary : Summary) (made : Made) → Ingested (Ok summary)
      → IfOk made (λ text. string_bytes text ≡ ingested_text name summary.bytes summary.places summary.fresh)
      → IfErr made (λ ending. ending ≡ outcome.OutOfMemory) → Takes made
  ingest_taken summary (Ok text) ingested is lacks = record {
    on_state = text-on (files_of before) summary text is ingested.causes.opens ingested.into;
    held = held-taken (files_of before) summary ingested.causes.opens ingested.into;
    clean = clean-taken (files_of before) summary ingested.causes.opens ingested.into;
    unmade = tt;
    among = λ ending ends. inl ((of_write ending ends).among (outcome.NoStore ∷ outcome.ShelfFault ∷ outcome.NameTaken
        ∷ outcome.TooManySessions ∷ outcome.SourceFault ∷ outcome.InputTooLong ∷ outcome.TooManyPlaces
        ∷ outcome.TooManyChunks ∷ []));
    counts = counted_as _ _ faults faultless before after (λ clash. absurd cc) ingested.counts;
    shelf = λ ending ends early. absurd ((of_write ending ends).unread early);
    verdict = λ ending ends. first-taken (files_of before) summary ending ingested.causes.opens
        (of_write ending ends).store (of_write ending ends).sound;
    by_records = λ opened. no_records _ (files_of before);
  }
  ingest_taken summary (Err ending) ingested is lacks = record {
    on_state = λ state needs. (
      ends_broken (Pass-of name input state).outcome ending (inr lacks),
      λ early. absurd (late name input state early),
    );
    held = λ state held. leaves_broken ending state (Pass-of name input state).after (files_of after) (inr lacks)
        (other_held state (Pass-of name input state).after (files_of after)
        (held-taken (files_of before) summary ingested.causes.opens ingested.into state held));
    clean = tt;
    unmade = subst IsUnmade (sym lacks) tt;
    among = λ other ends. inl (inr (inr (inl (ends ∙ lacks))));
    counts = counted_as _ _ faults faultless before after
        (λ is. absurd (let clash : outcome.OutOfMemory ≡ outcome.ShelfFault = sym lacks ∙ in_error is in cc)) ingested.counts;
    shelf = λ other ends early. absurd (subst IsBeforeReading (ends ∙ lacks) early);
    verdict = λ other ends. first-taken (files_of before) summary other ingested.causes.opens
        (λ same. let clash : outcome.OutOfMemory ≡ outcome.NoStore = sym (ends ∙ lacks) ∙ same in absurd cc)
        (λ flaw same. let clash : outcome.OutOfMemory ≡ outcome.Damaged flaw = sym (ends ∙ lacks) ∙ same in absurd cc);
    by_records = λ opened. no_records _ (files_of before);
  }

-- ---- the source

module _ {R : Type 0} (name : List ℕ) (how : How) (files : Option (File → List ℕ))
    (left : R → Option (List ℕ)) (read_faults : R → ℕ) (source_faultless : R → Type 0) (source_before source_after : R) where
  abbrev TakesIn : Made → Type 0
  TakesIn made = TakesInput name made files left read_faults source_faultless source_before source_after

  -- what an ingest promises of the source
  pub record Read (result : Ends) : Type 0 where
    pub reads : ReadsSource result left source_before source_after
    pub early : (state : State) → IfSome files (λ f. IsLawful state → HoldState sha256 f state → IsClosedTo state name
        → source_after ≡ source_before)
    pub counts : CountsFaults (result ≡ Err SourceFault) read_faults source_faultless source_before source_after
    pub unopened : IfSome files (λ f. HoldNoStore f ⊎ ((flaw : Damage) × IsOpeningDamage f flaw)
        → source_after ≡ source_before)

  closed : (told : Option (File → List ℕ)) (state : State)
      → IfSome told (λ f. IsLawful state → HoldState sha256 f state → IsClosedTo state name → source_after ≡ source_before)
      → AreHeld told (Some state) → IsClosedTo state name → source_after ≡ source_before
  closed None state early held is = absurd held
  closed (Some f) state early held is = early held.0 held.1 is

  pub takes_refused : (fault : IngestFault) → IsOfIngest fault → Read (Err fault) → TakesIn (Err (outcome_of fault))
  takes_refused fault only read =
      let of = of_ingest name how fault only in record {
        counts = counted_as _ _ read_faults source_faultless source_before source_after
            (λ is. refused_so (fault_is fault SourceFault (in_error is))) read.counts;
        whole = tt;
        fits = tt;
        read_first = λ late. read.reads.read_first (of.read late);
        fits_first = λ late. read.reads.fits_first (of.read late);
        unread = λ early. read.reads.untouched (of.unread early);
        refused_unread = λ state held is. closed files state (read.early state) held is;
        unopened = read.unopened;
        late = of.late;
        taken_at_most = read.reads.taken_at_most;
        taken = λ is. read.reads.taken (refused_so (fault_is fault InputTooLong (in_error is)));
        too_long = λ is. read.reads.too_long (refused_so (fault_is fault InputTooLong (in_error is)));
      }

  pub takes_taken : (summary : Summary) (made : Made) → IfErr made (λ ending. ending ≡ outcome.OutOfMemory)
      → Read (Ok summary) → TakesIn made
  takes_taken summary (Ok text) lacks read = record {
    counts = counted_as _ _ read_faults source_faultless source_before source_after (λ clash. absurd cc) read.counts;
    whole = read.reads.whole;
    fits = read.reads.fits;
    read_first = tt;
    fits_first = tt;
    unread = tt;
    refused_unread = λ state held is. closed files state (read.early state) held is;
    unopened = read.unopened;
    late = tt;
    taken_at_most = read.reads.taken_at_most;
    taken = λ clash. absurd cc;
    too_long = λ clash. absurd cc;
  }
  takes_taken summary (Err ending) lacks read = record {
    counts = counted_as _ _ read_faults source_faultless source_before source_after
        (λ is. absurd (let clash : outcome.OutOfMemory ≡ outcome.SourceFault = sym lacks ∙ in_error is in cc)) read.counts;
    whole = tt;
    fits = tt;
    read_first = λ late. absurd (subst IsAfterReading lacks late);
    fits_first = λ late. absurd (subst IsAfterReading lacks late);
    unread = λ early. absurd (subst IsBeforeReading lacks early);
    refused_unread = λ state held is. closed files state (read.early state) held is;
    unopened = read.unopened;
    late = λ early. subst IsEarly lacks early;
    taken_at_most = read.reads.taken_at_most;
    taken = λ is. absurd (let clash : outcome.OutOfMemory ≡ outcome.InputTooLong = sym lacks ∙ in_error is in cc);
    too_long = λ is. absurd (let clash : outcome.OutOfMemory ≡ outcome.InputTooLong = sym lacks ∙ in_error is in cc);
  }

  module _ {K : Type 0} (ending : Outcome) (written_to : K → Option (List ℕ)) (write_faults : K → ℕ)
      (sink_faultless : K → Type 0) (sink_before sink_after : K) where
    ingest_counts : (made : Made) → MayEnd made ending → ending ≡ outcome.SourceFault → made ≡ Err outcome.SourceFault
    ingest_counts (Ok text) ends is = absurd ((of_write ending ends).source is)
    ingest_counts (Err refused) ends is = err-of refused (sym ends ∙ is)

    ingest_untouched : (made : Made) → MayEnd made ending → IfErr made (λ refused. IsEarly refused → ⊥) → IsEarly ending
        → source_after ≡ source_before
    ingest_untouched (Ok text) ends late early = absurd ((of_write ending ends).late early)
    ingest_untouched (Err refused) ends late early = absurd (late (subst IsEarly ends early))

    ingest_reads : (made : Made) → TakesIn made
        → WritesMade made ending written_to write_faults sink_faultless sink_before sink_after
        → IngestReads name ending left files source_before source_after sink_before sink_after
    ingest_reads (Ok text) takes writes = record {
      reads = record {
        whole_input = λ _. takes.whole;
        written_last = inr takes.whole;
        taken_at_most = takes.taken_at_most;
        taken = λ long. absurd ((of_write ending writes.ends).fits long);
        too_long = λ long. absurd ((of_write ending writes.ends).fits long);
        fits = λ _. takes.fits;
      };
      unread = λ early. absurd ((of_write ending writes.ends).unread early);
      refused_unread = takes.refused_unread;
      unopened = takes.unopened;
    }
    ingest_reads (Err refused) takes writes = record {
      reads = record {
        whole_input = λ late. takes.read_first (subst IsAfterReading writes.ends late);
        written_last = inl writes.unwritten;
        taken_at_most = takes.taken_at_most;
        taken = λ long. takes.taken (err-of refused (sym writes.ends ∙ long));
        too_long = λ long. takes.too_long (err-of refused (sym writes.ends ∙ long));
        fits = λ late. takes.fits_first (subst IsAfterReading writes.ends late);
      };
      unread = λ early. takes.unread (subst IsBeforeReading writes.ends early);
      refused_unread = takes.refused_unread;
      unopened = takes.unopened;
    }

-- ---- by the records

-- what holds of the outcome if only chunks may be refused
of_offers : (fault : IngestFault) → IsOfOffers fault
    → IsOneOf (outcome.OutOfMemory ∷ outcome.ShelfFault ∷ outcome.TooManyChunks ∷ outcome.SourceFault ∷ []) (outcome_of fault)
    ⊎ IsDamage IsOfChunk (outcome_of fault)
of_offers (Store store.NoStore) is = absurd is
of_offers (Store store.StoreThere) is = absurd is
of_offers (Store (store.Damaged d)) is = inr (d, is, refl)
of_offers (Store store.NameTaken) is = absurd is
of_offers (Store store.NoSession) is = absurd is
of_offers (Store store.TooManySessions) is = absurd is
of_offers (Store store.TooManyPlaces) is = absurd is
of_offers (Store store.TooManyChunks) is = inl (inr (inr (inl refl)))
of_offers (Store store.ShelfFault) is = inl (inr (inl refl))
of_offers (Store store.SinkFault) is = absurd is
of_offers (Store store.OutOfMemory) is = inl (inl refl)
of_offers SourceFault is = inl (inr (inr (inr (inl refl))))
of_offers InputTooLong is = absurd is

fails_end : (fault : IngestFault) (expected : Outcome) → Fails fault → EndsAs expected (outcome_of fault)
fails_end (Store store.NoStore) expected is = absurd is
fails_end (Store store.StoreThere) expected is = absurd is
fails_end (Store (store.Damaged d)) expected is = absurd is
fails_end (Store store.NameTaken) expected is = absurd is
fails_end (Store store.NoSession) expected is = absurd is
fails_end (Store store.TooManySessions) expected is = absurd is
fails_end (Store store.TooManyPlaces) expected is = absurd is
fails_end (Store store.TooManyChunks) expected is = absurd is
fails_end (Store store.ShelfFault) expected is = tt
fails_end (Store store.SinkFault) expected is = absurd is
fails_end (Store store.OutOfMemory) expected is = tt
fails_end SourceFault expected is = tt
fails_end InputTooLong expected is = absurd is

refused-so : (opened : Opened) (name input : List ℕ) (fault : IngestFault) (refusal : Option Outcome)
    → IfSome refusal (λ expected. IsErrAnd (let r : Ends = Err fault in r) (λ f. Fails f ⊎ (outcome_of f ≡ expected)))
    → IfSome refusal (λ expected. EndsAs expected (outcome_of fault))
refused-so opened name input fault None why = tt
refused-so opened name input fault (Some expected) (inl fails) = fails_end fault expected fails
refused-so opened name input fault (Some expected) (inr is) = subst (λ (o : Outcome). EndsAs o (outcome_of fault)) is (ends_same (outcome_of fault))

none-refused : (refusal : Option Outcome) (summary : Summary) (P : Outcome → Type 0)
    → IfSome refusal (λ expected. IsErrAnd (let r : Ends = Ok summary in r) (λ f. Fails f ⊎ (outcome_of f ≡ expected)))
    → IfSome refusal P
none-refused None summary P why = tt
none-refused (Some expected) summary P why = absurd why

pub book_refused : (opened : Opened) (name input : List ℕ) (fault : IngestFault) → IngestsByBook opened name input (Err fault)
    → TakesByBook opened name input (Err (outcome_of fault))
book_refused opened name input fault by = record {
  refused = refused-so opened name input fault (refusal_by_book opened name input) by.refused;
  accepted = λ none. of_offers fault (by.accepted none);
}

pub book_taken : (opened : Opened) (name input : List ℕ) (summary : Summary) (made : Made)
    → IfErr made (λ ending. ending ≡ outcome.OutOfMemory) → IngestsByBook opened name input (Ok summary)
    → TakesByBook opened name input made
book_taken opened name input summary made lacks by = record {
  refused = none-refused (refusal_by_book opened name input) summary (λ refusal. IsErrAnd made (EndsAs refusal)) by.refused;
  accepted = λ none. only-memory made lacks;
} where
  only-memory : (m : Made) → IfErr m (λ ending. ending ≡ outcome.OutOfMemory) → IfErr m (λ refused.
      IsOneOf (outcome.OutOfMemory ∷ outcome.ShelfFault ∷ outcome.TooManyChunks ∷ outcome.SourceFault ∷ []) refused ⊎ IsDamage IsOfChunk refused)
  only-memory (Ok text) is = tt
  only-memory (Err ending) is = inl (inl is)

pub book_map : (told : Option (File → List ℕ)) (opened : Opened) (P Q : Type 0) → (P → Q)
    → IfSome told (λ files. OpenAs files opened → P) → IfSome told (λ files. OpenAs files opened → Q)
book_map None opened P Q step by = tt
book_map (Some files) opened P Q step by = λ opens. step (by opens)

ends-by : (opened : Opened) (name input : List ℕ) (made : Made) (ending : Outcome) → MayEnd made ending
    → TakesByBook opened name input made → IngestsByRecords opened name input ending
ends-by opened name input (Ok text) ending ends by = record {
  refused = never (refusal_by_book opened name input) by.refused;
  accepted = λ none. inl ((of_write ending ends).among (outcome.ShelfFault ∷ outcome.TooManyChunks ∷ outcome.SourceFault ∷ []));
} where
  never : (refusal : Option Outcome) → IfSome refusal (λ r. IsErrAnd (let m : Made = Ok text in m) (EndsAs r))
      → IfSome refusal (λ r. EndsAs r ending)
  never None there = tt
  never (Some r) there = absurd there
ends-by opened name input (Err other) ending ends by = record {
  refused = same (refusal_by_book opened name input) by.refused;
  accepted = λ none. chunk (by.accepted none);
} where
  same : (refusal : Option Outcome) → IfSome refusal (λ r. IsErrAnd (let m : Made = Err other in m) (EndsAs r))
      → IfSome refusal (λ r. EndsAs r ending)
  same None is = tt
  same (Some r) is = subst (EndsAs r) (sym ends) is

  chunk : IsOneOf (outcome.OutOfMemory ∷ outcome.ShelfFault ∷ outcome.TooManyChunks ∷ outcome.SourceFault ∷ []) other ⊎ IsDamage IsOfChunk other
      → IsOneOf (outcome.Done ∷ outcome.SinkFault ∷ outcome.OutOfMemory ∷ outcome.ShelfFault ∷ outcome.TooManyChunks ∷ outcome.SourceFault ∷ []) ending
      ⊎ IsDamage IsOfChunk ending
  chunk (inl among) = inl (inr (inr (subst (IsOneOf (outcome.OutOfMemory ∷ outcome.ShelfFault ∷ outcome.TooManyChunks ∷ outcome.SourceFault ∷ [])) (sym ends) among)))
  chunk (inr found) = inr (found.0, found.1, ends ∙ found.2)

pub by_records-told : (told : Option (File → List ℕ)) (opened : Opened) (name input : List ℕ) (made : Made) (ending : Outcome)
    → MayEnd made ending → IfSome told (λ files. OpenAs files opened → TakesByBook opened name input made)
    → IfSome told (λ files. OpenAs files opened → IngestsByRecords opened name input ending)
by_records-told told opened name input made ending ends by =
    book_map told opened _ _ (ends-by opened name input made ending ends) by

-- an input is taken in, and the text is written
pub ingest_runs : {R K F : Type 0} (name : List ℕ) (how : How) (made : Made) (ending : Outcome)
    (left : R → Option (List ℕ)) (read_faults : R → ℕ) (source_faultless : R → Type 0) (source_before source_after : R)
    (written_to : K → Option (List ℕ)) (write_faults : K → ℕ) (sink_faultless : K → Type 0) (sink_before sink_after : K)
    (files_of : F → Option (File → List ℕ)) (loose : F → File → Bool) (shelf_faults : F → ℕ)
    (shelf_faultless : F → Type 0) (shelf_before shelf_after : F)
    → (input : List ℕ) × IsInputOf (left source_before) input × MakesText (λ state. in_store (pass_of_ingest name input) state)
    (Ok (Ingest name how)) made files_of loose shelf_faults shelf_faultless shelf_before shelf_after
    × ((opened : Opened) → IfSome (files_of shelf_before) (λ files. OpenAs files opened → TakesByBook opened name input made))
    → TakesInput name made (files_of shelf_before) left read_faults source_faultless source_before source_after
    → WritesMade made ending written_to write_faults sink_faultless sink_before sink_after
    → IsRun (λ state input. in_store (pass_of_ingest name input) state) (Ok (Ingest name how)) ending
    left read_faults source_faultless source_before source_after
    written_to write_faults sink_faultless sink_before sink_after
    files_of loose shelf_faults shelf_faultless shelf_before shelf_after
ingest_runs name how made ending left read_faults source_faultless source_before source_after
    written_to write_faults sink_faultless sink_before sink_after
    files_of loose shelf_faults shelf_faultless shelf_before shelf_after makes takes writes = record {
      on_some_input = (
        makes.0,
        makes.1,
        carried_out (λ state. in_store (pass_of_ingest name makes.0) state) (Ok (Ingest name how)) ending
            written_to write_faults sink_faultless sink_before sink_after
            files_of loose shelf_faults shelf_faultless shelf_before shelf_after made (λ other sink leaves unmade. leaves) makes.2 writes,
        λ opened. by_records-told (files_of shelf_before) opened name makes.0 made ending writes.ends (makes.3 opened),
      );
      source_counts = counted_as _ _ read_faults source_faultless source_before source_after
          (ingest_counts name how (files_of shelf_before) left read_faults source_faultless source_before source_after
          ending written_to write_faults sink_faultless sink_before sink_after made writes.ends) takes.counts;
      untouched = ingest_untouched name how (files_of shelf_before) left read_faults source_faultless source_before source_after
          ending written_to write_faults sink_faultless sink_before sink_after made writes.ends takes.late;
      source = ingest_reads name how (files_of shelf_before) left read_faults source_faultless source_before source_after
          ending written_to write_faults sink_faultless sink_before sink_after made takes writes;
    }
