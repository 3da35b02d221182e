-- The parts of an ingest, put together.
use Rattle.std.proofs.Common.{◌≡◌, ℕ, ◌+◌, ◌≤◌, ◌<◌, List, [], Option, Some, None, Err, IfSome, length, refl, ap, sym, subst, ◌∙◌, inl, inr, arith}
use Rattle.std.specs.Prelude.{IsErrAnd, OnErr, ◌⊎◌, Bool, IfErr, Ok, Result, drop, option_map}
use Rattle.edge_traits.specs.Source.{IsAtEnd, LosesAtMost}
use Rattle.edge_traits.specs.Shelf.{SameFiles, SameLoose}
use Rattle.ingest_core.specs.ByBook.{IngestsByBook}
use Rattle.ingest_core.specs.Faults.{IsAfterReading, IsBeforeReading, Fails, IsBeforeWriting, IsOfChunks, IsOfIngest, IsOfOpenTo, IsOfReading, IsStoreFailure, outcome_of}
use Rattle.store_core.specs.Faults.{IsOfChunk}
use Rattle.ingest_core.specs.Ingests.{Ends, Ingests, IngestsInto, IsInputOf, LeavesShelf, ReadsSource, OpensFirst, RefusesWithCause}
use Rattle.ingest_core.specs.ByBook.{IsOpenTo}
use Rattle.ingest_core.specs.declared.fault.IngestFault.{IngestFault}
use Rattle.ingest_core.specs.declared.summary.Summary.{Summary}
use Rattle.ingest_core.specs.declared.fault.IngestFault.TheVariants.{InputTooLong, SourceFault, Store}
use Rattle.sd_base.specs.OnePass.{refusal_of_ingest}
use Rattle.sd_base.specs.Opening.{IsOpeningDamage, OpenAs, Opened}
use Rattle.sd_base.specs.States.{IsLawful, State}
use Rattle.sd_base.specs.Stores.{HoldNoStore, HoldState}
use Rattle.sd_base.specs.declared.damage.Damage.{Damage}
use Rattle.sd_base.specs.declared.file.File.{File}
use Rattle.sd_base.specs.declared.limits.TheConstants.{MAX_INPUT}
use Rattle.store_core.specs.StoreStates.{StandsFor, StoreState}
use Rattle.store_core.specs.declared.fault.StoreFault.TheVariants as store
use Rattle.store_core.proofs.StoreLemmas.{Told, told_map}
use Rattle.store_core.proofs.Verdicts.{no_store_is_not_opened, open_undamaged}
use Rattle.ingest_core.proofs.BookLemmas.{book-long, by-failure, by-refusal, failure-fails}
use Rattle.ingest_core.proofs.FaultLemmas.{at-error, err-is, err-of}
use Rattle.ingest_core.proofs.Inputs.{long_input, some_input}
use Rattle.ingest_core.proofs.OpeningLemmas.{IsBookRefusal, IsRefusalOf, Stands, if_held, opens-opened}
use Rattle.ingest_core.proofs.Refusals.{refused-long}
use Rattle.ingest_core.proofs.TakingLemmas.{open-few, open-free}

abbrev pub ends : IngestFault → Ends
ends fault = Err fault

-- ---- refusals that leave the files

-- the input is refused as the definition says, or a device failed
abbrev pub IsWhy : State → List ℕ → List ℕ → IngestFault → Type 0
IsWhy state name input fault = Fails fault ⊎ (refusal_of_ingest state name input ≡ Some (outcome_of fault))

-- a refusal that leaves the files as they are
left-so : (name_of : List ℕ → List ℕ) (state : State) (name input : List ℕ) (fault : IngestFault) (before : File → List ℕ)
    (after : Told) →
    IsWhy state name input fault → IfSome after (λ files. HoldState name_of files state) →
    IngestsInto name_of state name input (ends fault) before after
left-so name_of state name input fault before after why held = record {
  accepted = tt;
  summary = tt;
  taken_in = tt;
  clean = λ alone. tt;
  refused = why;
  kept = inr held;
  either = told_map after (λ files holds. inl holds) held;
}

pub refused-so : (name_of : List ℕ → List ℕ) (state : State) (name input : List ℕ) (fault : IngestFault) (told now : Told) →
    now ≡ told →
    IfSome told (λ files. IsLawful state → HoldState name_of files state → IsWhy state name input fault) →
    IfSome told (λ files. IsLawful state → HoldState name_of files state →
    IngestsInto name_of state name input (ends fault) files now)
refused-so name_of state name input fault None now same why = tt
refused-so name_of state name input fault (Some files) now same why = λ lawful held.
    left-so name_of state name input fault files now (why lawful held)
    (subst (λ (t : Told). IfSome t (λ f. HoldState name_of f state)) (sym same) held)

-- what refuses every input refuses this one
pub one-input : (state : State) (name input : List ℕ) (fault : IngestFault) → IsRefusalOf state name fault →
    IsWhy state name input fault
one-input state name input fault (inl fails) = inl fails
one-input state name input fault (inr all) = inr (all input)

-- ---- the opening

pub of-opening : (fault : IngestFault) → IsOfOpenTo fault → IsOfIngest fault
of-opening (Store store.NoStore) is = tt
of-opening (Store (store.Damaged d)) is = inl is
of-opening (Store store.NameTaken) is = tt
of-opening (Store store.TooManySessions) is = tt
of-opening (Store store.ShelfFault) is = tt
of-opening (Store store.OutOfMemory) is = tt
of-opening _ is = absurd is

-- ---- by the committed records

-- files that open refuse an ingest as the opening of its store was refused
pub opening-book : (told : Told) (name input : List ℕ) (fault : IngestFault) (opened : Opened) →
    IfSome told (λ files. OpenAs files opened → IsBookRefusal opened name fault) →
    IfSome told (λ files. OpenAs files opened → IngestsByBook opened name input (ends fault))
opening-book told name input fault opened refused =
    told_map {P = λ files. OpenAs files opened → IsBookRefusal opened name fault} told (λ files why opens. by (why opens)) refused where
      by : IsBookRefusal opened name fault → IngestsByBook opened name input (ends fault)
      by (inl failed) = by-failure opened name input fault (failure-fails fault failed)
      by (inr all) = by-refusal opened name input fault (all input)

-- what a store does that was opened holds of what the files open as
pub opened-book : (told : Told) (own : Opened) (P : Opened → Type 0) (opened : Opened) →
    IfSome told (λ files. OpenAs files opened → own ≡ opened) → P own → IfSome told (λ files. OpenAs files opened → P opened)
opened-book told own P opened same holds =
    told_map {P = λ files. OpenAs files opened → own ≡ opened} told (λ files is opens. subst P (is opens) holds) same

-- files that open hold a store without damage
pub opened-sound : (told : Told) (own : Opened) → IfSome told (λ files. OpenAs files own) →
    IfSome told (λ files. HoldNoStore files ⊎ ((damage : Damage) × IsOpeningDamage files damage) → ⊥)
opened-sound told own opens = told_map told (λ files here. sound files here) opens where
  sound : (files : File → List ℕ) → OpenAs files own → HoldNoStore files ⊎ ((damage : Damage) × IsOpeningDamage files damage) → ⊥
  sound files here (inl none) = no_store_is_not_opened files own none here
  sound files here (inr bad) = open_undamaged files own bad.0 here bad.1

-- an input that is not read
pub reading-book : (own : Opened) (name input : List ℕ) (fault : IngestFault) → IsOpenTo own.book name →
    Fails fault ⊎ ((fault ≡ InputTooLong) × (MAX_INPUT < length input)) → IngestsByBook own name input (ends fault)
reading-book own name input fault is_open (inl fails) = by-failure own name input fault fails
reading-book own name input fault is_open (inr long) =
    by-refusal own name input fault
    (book-long own name input is_open long.1 ∙ ap (λ (f : IngestFault). Some (outcome_of f)) (sym long.0))

-- ---- the reading

-- the fault of an input that is not read, and an input that explains it
pub reading-why : (left : Option (List ℕ)) (fault : IngestFault) → IsOfReading fault →
    (fault ≡ InputTooLong → IfSome left (λ held. MAX_INPUT < length held)) →
    (input : List ℕ) × IsInputOf left input × (Fails fault ⊎ ((fault ≡ InputTooLong) × (MAX_INPUT < length input)))
reading-why left SourceFault is long = let some = some_input left in (some.0, some.1, inl tt)
reading-why left InputTooLong is long = let some = long_input left (long refl) in (some.0, some.1, inr (refl, some.2))
reading-why left (Store store.OutOfMemory) is long = let some = some_input left in (some.0, some.1, inl tt)
reading-why left _ is long = absurd is

-- the definition refuses an input that is too long
long-why : (name_of : List ℕ → List ℕ) (first : StoreState) (name input : List ℕ) (fault : IngestFault) →
    IsOpenTo first.opened.book name → Fails fault ⊎ ((fault ≡ InputTooLong) × (MAX_INPUT < length input)) →
    (state : State) (files : File → List ℕ) → StandsFor name_of first files state [] → IsWhy state name input fault
long-why name_of first name input fault is_open (inl fails) state files stands = inl fails
long-why name_of first name input fault is_open (inr long) state files stands =
    inr (refused-long state name input (open-free name_of first files state stands name is_open)
    (open-few name_of first files state stands name is_open) long.1
    ∙ ap (λ (f : IngestFault). Some (outcome_of f)) (sym long.0))

pub reading-into : (name_of : List ℕ → List ℕ) (first : StoreState) (name : List ℕ) (told now : Told) (left : Option (List ℕ))
    (fault : IngestFault) → IsOpenTo first.opened.book name → now ≡ told →
    ((state : State) → Stands name_of first name state told now) →
    ((opened : Opened) → IfSome told (λ files. OpenAs files opened → first.opened ≡ opened)) → IsOfReading fault →
    (fault ≡ InputTooLong → IfSome left (λ held. MAX_INPUT < length held)) →
    Ingests name_of name left (ends fault) told now
reading-into name_of first name told now left fault is_open same stands records is long =
    let why = reading-why left fault is long in
    let explains = why.2 in
    let input = why.0 in (
      input,
      why.1,
      (λ state. refused-so name_of state name input fault told now same
          (if_held name_of first name (IsWhy state name input fault) told now state same (stands state)
          (long-why name_of first name input fault is_open explains state))),
      λ opened. opened-book told first.opened (λ o. IngestsByBook o name input (ends fault)) opened (records opened)
          (reading-book first.opened name input fault is_open explains),
    )

-- ---- the chunks

-- the store stood for the state when the input was taken in
pub taking-into : (name_of : List ℕ → List ℕ) (first : StoreState) (name input : List ℕ) (told now after : Told) (r : Ends)
    (state : State) → now ≡ told → Stands name_of first name state told now →
    IfSome now (λ files. StandsFor name_of first files state [] → IngestsInto name_of state name input r files after) →
    IfSome told (λ files. IsLawful state → HoldState name_of files state → IngestsInto name_of state name input r files after)
taking-into name_of first name input None now after r state same stands taken = tt
taking-into name_of first name input (Some files) now after r state same stands taken = λ lawful held.
    subst (λ (t : Told). IfSome t (λ f. StandsFor name_of first f state [] → IngestsInto name_of state name input r f after))
    same taken
    (subst (λ (t : Told). IfSome t (λ f. StandsFor name_of first f state [])) same (stands lawful held))

-- the chunks of an input are refused before they are offered only if there are too many places
only-places : (fault : IngestFault) → IsOfChunks fault → IsBeforeWriting fault → fault ≡ Store store.TooManyPlaces
only-places (Store store.TooManyPlaces) is early = refl
only-places (Store (store.Damaged d)) is early = absurd (early is)
only-places (Store store.TooManyChunks) is early = absurd early
only-places (Store store.ShelfFault) is early = absurd early
only-places (Store store.OutOfMemory) is early = absurd early
only-places _ is early = absurd is

pub as-it-was : {F : Type 0} (r : Ends) (files : F → Told) (loose : F → File → Bool) (before after : F) →
    SameFiles (files before) (files after) → SameLoose (loose before) (loose after) → LeavesShelf r files loose before after
as-it-was (Ok summary) files loose before after same same_loose = record { same_files = tt; same_loose = tt }
as-it-was (Err fault) files loose before after same same_loose = record {
  same_files = λ early. same;
  same_loose = λ early. same_loose;
}

pub taking-leaves : {F : Type 0} (r : Ends) (files : F → Told) (loose : F → File → Bool) (before mid after : F) →
    SameFiles (files before) (files mid) → SameLoose (loose before) (loose mid) → IfErr r IsOfChunks →
    (r ≡ Err (Store store.TooManyPlaces) → SameFiles (files mid) (files after) × SameLoose (loose mid) (loose after)) →
    LeavesShelf r files loose before after
taking-leaves (Ok summary) files loose before mid after same same_loose only unchanged = record {
  same_files = tt;
  same_loose = tt;
}
taking-leaves (Err fault) files loose before mid after same same_loose only unchanged = record {
  same_files = λ early file. (unchanged (err-of Summary (only-places fault only early))).0 file ∙ same file;
  same_loose = λ early file. (unchanged (err-of Summary (only-places fault only early))).1 file ∙ same_loose file;
}

-- the chunks of an input are refused neither as no store nor with a damage that opening may find
of-chunks : (fault : IngestFault) → IsOfChunks fault → IsOfIngest fault × (fault ≡ Store store.NoStore → ⊥)
    × ((damage : Damage) → fault ≡ Store (store.Damaged damage) → IsOfChunk damage)
of-chunks fault is = (only fault is, (λ same. subst IsOfChunks same is), λ damage same. subst IsOfChunks same is) where
  only : (f : IngestFault) → IsOfChunks f → IsOfIngest f
  only (Store (store.Damaged d)) of = inr of
  only (Store store.TooManyPlaces) of = tt
  only (Store store.TooManyChunks) of = tt
  only (Store store.ShelfFault) of = tt
  only (Store store.OutOfMemory) of = tt
  only _ of = absurd of

pub taking-causes : (told : Told) (opened : Opened) (r : Ends) → IfSome told (λ files. OpenAs files opened) →
    IfErr r IsOfChunks → RefusesWithCause r told
taking-causes told opened (Ok summary) opens is = record {
  only = tt;
  opens = opens-opened told opened (let r : Ends = Ok summary in r) opens (λ same. absurd cc) (λ damage same. absurd cc);
}
taking-causes told opened (Err fault) opens is = record {
  only = (of-chunks fault is).0;
  opens = opens-opened told opened (ends fault) opens (λ same. (of-chunks fault is).1 (err-is same))
      (λ damage same. (of-chunks fault is).2 damage (err-is same));
}

-- an input that is not read is refused neither as no store nor with a damage
of-reading : (fault : IngestFault) → IsOfReading fault → IsOfIngest fault × (fault ≡ Store store.NoStore → ⊥)
    × ((damage : Damage) → fault ≡ Store (store.Damaged damage) → IsOfChunk damage)
of-reading fault is = (only fault is, (λ same. subst IsOfReading same is), λ damage same. absurd (subst IsOfReading same is)) where
  only : (f : IngestFault) → IsOfReading f → IsOfIngest f
  only (Store store.OutOfMemory) of = tt
  only SourceFault of = tt
  only InputTooLong of = tt
  only _ of = absurd of

pub reading-causes : (told : Told) (opened : Opened) (fault : IngestFault) → IfSome told (λ files. OpenAs files opened) →
    IsOfReading fault → RefusesWithCause (ends fault) told
reading-causes told opened fault opens is = record {
  only = (of-reading fault is).0;
  opens = opens-opened told opened (ends fault) opens (λ same. (of-reading fault is).1 (err-is same))
      (λ damage same. (of-reading fault is).2 damage (err-is same));
}

pub opening-causes : {S : Type 0} (told : Told) (r : Result S IngestFault) (fault : IngestFault) → r ≡ Err fault →
    IfErr r IsOfOpenTo → OnErr r (IfSome told (OpensFirst r)) → RefusesWithCause (ends fault) told
opening-causes {S} told r fault is only opens = record {
  only = of-opening fault (at-error IsOfOpenTo r fault is only);
  opens = told_map told (λ files first. passed-first files first) (at-error (λ _. IfSome told (OpensFirst r)) r fault is opens);
} where
  passed-first : (files : File → List ℕ) → OpensFirst r files → OpensFirst (ends fault) files
  passed-first files first = record {
    no_store = λ same. first.no_store (is ∙ err-of S (err-is same));
    absent = λ absent. subst (λ (q : Result S IngestFault). IsErrAnd q (λ e. IsStoreFailure e ⊎ (e ≡ Store store.NoStore))) is (first.absent absent);
    damaged = λ damage same. first.damaged damage (is ∙ err-of S (err-is same));
    named = λ damage found. subst (λ (q : Result S IngestFault). IsErrAnd q (λ e. IsStoreFailure e ⊎ (e ≡ Store (store.Damaged damage)))) is
        (first.named damage found);
  }

-- the chunks of an input are refused after it was read
not-before : (fault : IngestFault) → IsOfChunks fault → IsBeforeReading fault → ⊥
not-before (Store (store.Damaged d)) is early = absurd (early is)
not-before (Store store.TooManyPlaces) is early = absurd early
not-before (Store store.TooManyChunks) is early = absurd early
not-before (Store store.ShelfFault) is early = absurd early
not-before (Store store.OutOfMemory) is early = absurd early
not-before _ is early = absurd is

pub taking-reads : {R : Type 0} (r : Ends) (left : R → Option (List ℕ)) (before after : R) → IfErr r IsOfChunks →
    IsAtEnd (left after) → IfSome (left before) (λ input. length input ≤ MAX_INPUT) →
    LosesAtMost (MAX_INPUT + 1) (left before) (left after) → ReadsSource r left before after
taking-reads (Ok summary) left before after is at_end fits most = record {
  whole = at_end;
  read_first = tt;
  fits = fits;
  fits_first = tt;
  untouched = tt;
  taken_at_most = most;
  too_long = λ same. absurd cc;
  taken = λ same. absurd cc;
}
taking-reads (Err fault) left before after is at_end fits most = record {
  whole = tt;
  read_first = λ late. at_end;
  fits = tt;
  fits_first = λ late. fits;
  untouched = λ early. absurd (not-before fault is early);
  taken_at_most = most;
  too_long = λ same. absurd (subst IsOfChunks (err-is same) is);
  taken = λ same. absurd (subst IsOfChunks (err-is same) is);
}

-- a fault of opening comes before reading
opening-early : (fault : IngestFault) → IsOfOpenTo fault → (IsAfterReading fault → ⊥) × (fault ≡ InputTooLong → ⊥)
opening-early (Store store.NoStore) is = (λ late. late, λ same. cc)
opening-early (Store (store.Damaged d)) is = (λ late. late, λ same. cc)
opening-early (Store store.NameTaken) is = (λ late. late, λ same. cc)
opening-early (Store store.TooManySessions) is = (λ late. late, λ same. cc)
opening-early (Store store.ShelfFault) is = (λ late. late, λ same. cc)
opening-early (Store store.OutOfMemory) is = (λ late. late, λ same. cc)
opening-early (Store store.StoreThere) is = absurd is
opening-early (Store store.NoSession) is = absurd is
opening-early (Store store.TooManyPlaces) is = absurd is
opening-early (Store store.TooManyChunks) is = absurd is
opening-early (Store store.SinkFault) is = absurd is
opening-early SourceFault is = absurd is
opening-early InputTooLong is = absurd is

pub opening-reads : {R : Type 0} (fault : IngestFault) (left : R → Option (List ℕ)) (same : R) → IsOfOpenTo fault →
    ReadsSource (ends fault) left same same
opening-reads fault left same is = record {
  whole = tt;
  read_first = λ late. absurd ((opening-early fault is).0 late);
  fits = tt;
  fits_first = λ late. absurd ((opening-early fault is).0 late);
  untouched = λ early. refl;
  taken_at_most = none_lost (left same);
  too_long = λ long. absurd ((opening-early fault is).1 (err-is long));
  taken = λ long. absurd ((opening-early fault is).1 (err-is long));
} where
  none_lost : (told : Option (List ℕ)) → LosesAtMost (MAX_INPUT + 1) told told
  none_lost None = (0, omega arith, refl)
  none_lost (Some held) = (0, omega arith, refl)

-- a fault of reading comes after the store was opened, and before all was read
reading-late : (fault : IngestFault) → IsOfReading fault → IsAfterReading fault → ⊥
reading-late SourceFault is late = absurd late
reading-late InputTooLong is late = absurd late
reading-late (Store store.OutOfMemory) is late = absurd late
reading-late _ is late = absurd is

reading-early : (fault : IngestFault) → IsOfReading fault → IsBeforeReading fault → ⊥
reading-early SourceFault is early = absurd early
reading-early InputTooLong is early = absurd early
reading-early (Store store.OutOfMemory) is early = absurd early
reading-early _ is early = absurd is

pub reading-reads : {R : Type 0} (fault : IngestFault) (left : R → Option (List ℕ)) (before after : R) → IsOfReading fault →
    LosesAtMost (MAX_INPUT + 1) (left before) (left after) →
    (fault ≡ InputTooLong → IfSome (left before) (λ input. MAX_INPUT < length input)) →
    (fault ≡ InputTooLong → left after ≡ option_map (λ input. drop (MAX_INPUT + 1) input) (left before)) →
    ReadsSource (ends fault) left before after
reading-reads fault left before after is most long taken = record {
  whole = tt;
  read_first = λ late. absurd (reading-late fault is late);
  fits = tt;
  fits_first = λ late. absurd (reading-late fault is late);
  untouched = λ early. absurd (reading-early fault is early);
  taken_at_most = most;
  too_long = λ same. long (err-is same);
  taken = λ same. taken (err-is same);
}
