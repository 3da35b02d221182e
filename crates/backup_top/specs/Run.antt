-- What a run does: how it ends, what it writes, and what it leaves of its devices. All rules here
-- are this project's own.
--
-- `IsRun` holds of every run. What depends on the command are `NeedsHeld`, `MayReturn`,
-- `LeavesSource`, `LeavesSink`, `LeavesShelf` and `GoesByVerdict`, and `GoesByRecords` and
-- `TakesByRecords` of `ByRecords.antt`, with a case for each command. The records take the ghost
-- functions of the devices, and the devices themselves before and after the run.
use Rattle.std.specs.Prelude.{◌≡◌, ◌≢◌, ◌⊎◌, ◌≤◌, ◌<◌, ◌+◌, ⊤, ℕ, Bool, false, List, [], ◌∷◌, drop, length, Option, Some, None, MatchOption, Result, Ok, Err, option_map, IfSome}
use Rattle.sha2.specs.Sha256.{sha256}
use Rattle.edge_traits.specs.Shelf.{SameFiles, SameLoose, content}
use Rattle.edge_traits.specs.Source.{IsAtEnd, LosesAtMost}
use Rattle.ingest_core.specs.Auditing.{IsFirstDamage}
use Rattle.ingest_core.specs.Ingests.{IsClosedTo, IsInputOf}
use Rattle.sd_base.specs.Flaws.{IsFlawOf}
use Rattle.sd_base.specs.OnePass.{Pass}
use Rattle.sd_base.specs.Opening.{IsOpeningDamage, OpenAs, Opened}
use Rattle.sd_base.specs.Parameters.{bad_parameter}
use Rattle.sd_base.specs.States.{IsLawful, State}
use Rattle.sd_base.specs.Stores.{AreClean, Hold, HoldNoStore, HoldState}
use Rattle.sd_base.specs.declared.damage.Damage.{Damage}
use Rattle.sd_base.specs.declared.file.File.{File}
use Rattle.sd_base.specs.declared.file.File.TheVariants.{Book, Head, Seal}
use Rattle.sd_base.specs.declared.limits.TheConstants.{MAX_INPUT, OPEN_HEAD_LEN}
use Rattle.sd_base.specs.declared.words.BadWords.{BadWords as Refusal}
use Rattle.sd_base.specs.declared.words.Command.{Command}
use Rattle.sd_base.specs.declared.words.Command.TheVariants.{Quiet as quiet, Ingest, Bulk}
use Rattle.sd_base.specs.declared.words.Quiet.TheVariants.{Plan, Init, List as ListSessions, Restore, Drop, Refs, Audit}
use Rattle.sd_base.specs.declared.outcome.Outcome.{Outcome}
use Rattle.sd_base.specs.declared.outcome.Outcome.TheVariants.{Done, BadWords, BadParams, NoStore, StoreThere, NameTaken, NoSession, Damaged, InputTooLong, TooManySessions, TooManyPlaces, TooManyChunks, SourceFault, SinkFault, ShelfFault, OutOfMemory}
use Rattle.store_core.specs.Faults.{IsOfChunk, IsOfOpening}
use Rattle.store_core.specs.Shelves.{CountsFaults}
use Rattle.backup_top.specs.ByRecords.{GoesByRecords, TakesByRecords}
use Rattle.backup_top.specs.Outcomes.{EndsAs, Writes, LeavesStore, IsEarly, IsOneOf, IsDamage, IsSilent, IsBroken, IsBrokenOff, IsAfterReading, IsBeforeReading}

-- ---- the store that a run finds

-- the files are observable, and they hold a store in this lawful state, or none
abbrev pub AreHeld : Option (File → List ℕ) → Option State → Type 0
AreHeld None state = ⊥
AreHeld (Some files) state = IfSome state IsLawful × Hold sha256 files state

-- What a run's clause on a state presumes of the files: nothing, if the run calls no file, and
-- otherwise that they hold the state.
abbrev pub NeedsHeld : Result Command Refusal → Option (File → List ℕ) → Option State → Type 0
NeedsHeld (Err bad) files state = ⊤
NeedsHeld (Ok (quiet (Plan raw workers segment))) files state = ⊤
NeedsHeld (Ok (quiet (Init raw))) files state = bad_parameter raw ≡ None → AreHeld files state
NeedsHeld (Ok (quiet ListSessions)) files state = AreHeld files state
NeedsHeld (Ok (quiet (Restore name))) files state = AreHeld files state
NeedsHeld (Ok (quiet (Drop name))) files state = AreHeld files state
NeedsHeld (Ok (quiet Refs)) files state = AreHeld files state
NeedsHeld (Ok (quiet Audit)) files state = AreHeld files state
NeedsHeld (Ok (Ingest name how)) files state = AreHeld files state
NeedsHeld (Ok (Bulk seed blocks how)) files state = AreHeld files state

-- ---- what a run may return, and what it leaves, by its command

-- What a run may return, whatever its devices hold.
abbrev pub MayReturn : Result Command Refusal → Outcome → Type 0
MayReturn (Err bad) outcome = outcome ≡ BadWords bad
MayReturn (Ok (quiet (Plan raw workers segment))) outcome = MatchOption (bad_parameter raw)
    (IsOneOf (Done ∷ SinkFault ∷ OutOfMemory ∷ InputTooLong ∷ SourceFault ∷ []) outcome)
    (λ kind. outcome ≡ BadParams kind)
MayReturn (Ok (quiet (Init raw))) outcome = MatchOption (bad_parameter raw)
    (IsOneOf (Done ∷ SinkFault ∷ OutOfMemory ∷ StoreThere ∷ ShelfFault ∷ []) outcome)
    (λ kind. outcome ≡ BadParams kind)
MayReturn (Ok (quiet ListSessions)) outcome =
    IsOneOf (Done ∷ SinkFault ∷ OutOfMemory ∷ NoStore ∷ ShelfFault ∷ []) outcome ⊎ IsDamage IsOfOpening outcome
MayReturn (Ok (quiet (Restore name))) outcome =
    IsOneOf (Done ∷ SinkFault ∷ OutOfMemory ∷ NoStore ∷ ShelfFault ∷ NoSession ∷ []) outcome
    ⊎ IsDamage (λ flaw. IsOfOpening flaw ⊎ IsOfChunk flaw) outcome
MayReturn (Ok (quiet (Drop name))) outcome =
    IsOneOf (Done ∷ SinkFault ∷ OutOfMemory ∷ NoStore ∷ ShelfFault ∷ NoSession ∷ []) outcome ⊎ IsDamage IsOfOpening outcome
MayReturn (Ok (quiet Refs)) outcome =
    IsOneOf (Done ∷ SinkFault ∷ OutOfMemory ∷ NoStore ∷ ShelfFault ∷ []) outcome ⊎ IsDamage IsOfOpening outcome
MayReturn (Ok (quiet Audit)) outcome =
    IsOneOf (Done ∷ SinkFault ∷ OutOfMemory ∷ NoStore ∷ ShelfFault ∷ []) outcome ⊎ IsDamage (λ flaw. ⊤) outcome
MayReturn (Ok (Ingest name how)) outcome =
    IsOneOf (Done ∷ SinkFault ∷ OutOfMemory ∷ NoStore ∷ ShelfFault ∷ NameTaken ∷ TooManySessions ∷ SourceFault
    ∷ InputTooLong ∷ TooManyPlaces ∷ TooManyChunks ∷ []) outcome
    ⊎ IsDamage (λ flaw. IsOfOpening flaw ⊎ IsOfChunk flaw) outcome
MayReturn (Ok (Bulk seed blocks how)) outcome =
    IsOneOf (Done ∷ SinkFault ∷ OutOfMemory ∷ NoStore ∷ ShelfFault ∷ NameTaken ∷ TooManySessions ∷ TooManyPlaces
    ∷ TooManyChunks ∷ []) outcome
    ⊎ IsDamage (λ flaw. IsOfOpening flaw ⊎ IsOfChunk flaw) outcome

-- What a run that reads its input leaves of the source.
pub record ReadsInput {R K : Type 0} (outcome : Outcome) (left : R → Option (List ℕ))
    (source_before source_after : R) (sink_before sink_after : K) : Type 0 where
  -- On Done, after a failed write, and if there would be too many places or chunks, the source was
  -- read to its end.
  pub whole_input : IsAfterReading outcome → IsAtEnd (left source_after)
  -- The sink is as it was, unless the source was read to its end.
  pub written_last : (sink_after ≡ sink_before) ⊎ IsAtEnd (left source_after)
  -- At most 2^28 + 1 bytes were taken from the source.
  pub taken_at_most : LosesAtMost (MAX_INPUT + 1) (left source_before) (left source_after)
  -- If the input is too long, 2^28 + 1 bytes were taken.
  pub taken :
      outcome ≡ InputTooLong
      → left source_after ≡ option_map (λ input. drop (MAX_INPUT + 1) input) (left source_before)
  -- An input is refused as too long only if it has more than 2^28 bytes, and is read to its end only
  -- if it has no more.
  pub too_long : outcome ≡ InputTooLong → IfSome (left source_before) (λ input. MAX_INPUT < length input)
  pub fits : IsAfterReading outcome → IfSome (left source_before) (λ input. length input ≤ MAX_INPUT)

-- What an ingest leaves of the source.
pub record IngestReads {R K : Type 0} (name : List ℕ) (outcome : Outcome) (left : R → Option (List ℕ))
    (files : Option (File → List ℕ)) (source_before source_after : R) (sink_before sink_after : K) : Type 0 where
  pub reads : ReadsInput outcome left source_before source_after sink_before sink_after
  -- Nothing is read before the store refuses the session, and nothing if it must refuse it: if the
  -- name is taken, or if there are as many sessions as there may be.
  pub unread : IsBeforeReading outcome → source_after ≡ source_before
  pub refused_unread :
      (state : State) → AreHeld files (Some state) → IsClosedTo state name → source_after ≡ source_before
  -- Nothing is read where there is no store, and where opening finds a damage.
  pub unopened : IfSome files (λ bytes_of. HoldNoStore bytes_of ⊎ ((flaw : Damage) × IsOpeningDamage bytes_of flaw)
      → source_after ≡ source_before)

-- What a run leaves of the source.
abbrev pub LeavesSource : {R K : Type 0} → Result Command Refusal → Outcome → (R → Option (List ℕ))
    → Option (File → List ℕ) → R → R → K → K → Type 0
LeavesSource (Err bad) outcome left files source_before source_after sink_before sink_after =
    source_after ≡ source_before
LeavesSource (Ok (quiet (Plan raw workers segment))) outcome left files source_before source_after sink_before sink_after =
    ReadsInput outcome left source_before source_after sink_before sink_after
LeavesSource (Ok (quiet (Init raw))) outcome left files source_before source_after sink_before sink_after =
    source_after ≡ source_before
LeavesSource (Ok (quiet ListSessions)) outcome left files source_before source_after sink_before sink_after =
    source_after ≡ source_before
LeavesSource (Ok (quiet (Restore name))) outcome left files source_before source_after sink_before sink_after =
    source_after ≡ source_before
LeavesSource (Ok (quiet (Drop name))) outcome left files source_before source_after sink_before sink_after =
    source_after ≡ source_before
LeavesSource (Ok (quiet Refs)) outcome left files source_before source_after sink_before sink_after =
    source_after ≡ source_before
LeavesSource (Ok (quiet Audit)) outcome left files source_before source_after sink_before sink_after =
    source_after ≡ source_before
LeavesSource (Ok (Ingest name how)) outcome left files source_before source_after sink_before sink_after =
    IngestReads name outcome left files source_before source_after sink_before sink_after
LeavesSource (Ok (Bulk seed blocks how)) outcome left files source_before source_after sink_before sink_after =
    source_after ≡ source_before

-- the files hold a lawful state
abbrev pub HoldLawfulState : (File → List ℕ) → Type 0
HoldLawfulState files = (state : State) × IsLawful state × HoldState sha256 files state

-- What an audit leaves of the sink. After a failed call on the store's files and a damage it is as it
-- was, and so it is whatever the outcome, unless the files hold a lawful state.
pub record WritesIfLawful {K : Type 0} (outcome : Outcome) (files : Option (File → List ℕ)) (before after : K) : Type 0 where
  pub broken_off : IsBrokenOff outcome → after ≡ before
  pub only_lawful : (after ≡ before) ⊎ IfSome files HoldLawfulState

-- What a run leaves of the sink after a failed call on the store's files and a damage: it is as it
-- was. Only a restore may have written, if opening finds no damage. Of an audit `WritesIfLawful` says
-- more.
abbrev pub LeavesSink : {K : Type 0} → Result Command Refusal → Outcome → Option (File → List ℕ) → K → K → Type 0
LeavesSink (Err bad) outcome files before after = after ≡ before
LeavesSink (Ok (quiet (Plan raw workers segment))) outcome files before after = IsBrokenOff outcome → after ≡ before
LeavesSink (Ok (quiet (Init raw))) outcome files before after = IsBrokenOff outcome → after ≡ before
LeavesSink (Ok (quiet ListSessions)) outcome files before after = IsBrokenOff outcome → after ≡ before
LeavesSink (Ok (quiet (Restore name))) outcome files before after =
    IfSome files (λ bytes_of. (flaw : Damage) → IsOpeningDamage bytes_of flaw → after ≡ before)
LeavesSink (Ok (quiet (Drop name))) outcome files before after = IsBrokenOff outcome → after ≡ before
LeavesSink (Ok (quiet Refs)) outcome files before after = IsBrokenOff outcome → after ≡ before
LeavesSink (Ok (quiet Audit)) outcome files before after = WritesIfLawful outcome files before after
LeavesSink (Ok (Ingest name how)) outcome files before after = IsBrokenOff outcome → after ≡ before
LeavesSink (Ok (Bulk seed blocks how)) outcome files before after = IsBrokenOff outcome → after ≡ before

-- no file has changed, and the same files are loose
pub record KeepsFiles {F : Type 0} (files_of : F → Option (File → List ℕ)) (loose : F → File → Bool)
    (before after : F) : Type 0 where
  pub same_files : SameFiles (files_of before) (files_of after)
  pub same_loose : SameLoose (loose before) (loose after)

-- What the making of a store leaves of the shelf.
pub record MakesStore {F : Type 0} (outcome : Outcome) (files_of : F → Option (File → List ℕ))
    (loose : F → File → Bool) (before after : F) : Type 0 where
  -- Nothing is called before parameters are refused.
  pub early : IsEarly outcome → after ≡ before
  pub refused : outcome ≡ StoreThere → KeepsFiles files_of loose before after
  -- Only the head and the seal of generation 0 change.
  pub other_files : (f : File) → f ≢ Head → f ≢ Seal 0 → content (files_of after) f ≡ content (files_of before) f
  pub other_loose : (f : File) → f ≢ Head → f ≢ Seal 0 → loose after f ≡ loose before f
  -- If there is a store, nothing changes.
  pub kept : IfSome (files_of before) (λ files. OPEN_HEAD_LEN ≤ length (files Head) → KeepsFiles files_of loose before after)
  -- On Done and after a failed write both are flushed.
  pub flushed : (outcome ≡ Done) ⊎ (outcome ≡ SinkFault) → (loose after Head ≡ false) × (loose after (Seal 0) ≡ false)

-- the record of a commit and the byte of the seal that commits it are flushed
abbrev pub AreFlushed : ℕ → (File → Bool) → Type 0
AreFlushed generation loose = (loose (Book generation) ≡ false) × (loose (Seal generation) ≡ false)

-- What the drop of a session leaves of the shelf.
pub record DropsSession {F : Type 0} (outcome : Outcome) (files_of : F → Option (File → List ℕ))
    (loose : F → File → Bool) (before after : F) : Type 0 where
  -- If there is no store or no such session, and if opening finds a damage, nothing changes.
  pub refused :
      IsOneOf (NoStore ∷ NoSession ∷ []) outcome ⊎ IsDamage IsOfOpening outcome → KeepsFiles files_of loose before after
  -- On Done and after a failed write the book and the seal of the store are flushed.
  pub flushed : (outcome ≡ Done) ⊎ (outcome ≡ SinkFault) → (opened : Opened)
      → IfSome (files_of before) (λ files. OpenAs files opened → AreFlushed opened.head.generation (loose after))

-- What a run leaves of the shelf.
abbrev pub LeavesShelf : {F : Type 0} → Result Command Refusal → Outcome → (F → Option (File → List ℕ))
    → (F → File → Bool) → F → F → Type 0
LeavesShelf (Err bad) outcome files_of loose before after = after ≡ before
LeavesShelf (Ok (quiet (Plan raw workers segment))) outcome files_of loose before after = after ≡ before
LeavesShelf (Ok (quiet (Init raw))) outcome files_of loose before after =
    MakesStore outcome files_of loose before after
LeavesShelf (Ok (quiet ListSessions)) outcome files_of loose before after =
    KeepsFiles files_of loose before after
LeavesShelf (Ok (quiet (Restore name))) outcome files_of loose before after =
    KeepsFiles files_of loose before after
LeavesShelf (Ok (quiet (Drop name))) outcome files_of loose before after =
    DropsSession outcome files_of loose before after
LeavesShelf (Ok (quiet Refs)) outcome files_of loose before after =
    KeepsFiles files_of loose before after
LeavesShelf (Ok (quiet Audit)) outcome files_of loose before after =
    KeepsFiles files_of loose before after
LeavesShelf (Ok (Ingest name how)) outcome files_of loose before after =
    IsBeforeReading outcome → KeepsFiles files_of loose before after
LeavesShelf (Ok (Bulk seed blocks how)) outcome files_of loose before after =
    IsBeforeReading outcome → KeepsFiles files_of loose before after

-- What opening makes of a run, whatever the files hold. A damage is named only if opening finds it,
-- or it is one that the command may find later.
pub record OpensFirst (IsLater : Damage → Type 0) (outcome : Outcome) (files : File → List ℕ) : Type 0 where
  pub no_store : outcome ≡ NoStore → HoldNoStore files
  pub absent : HoldNoStore files → IsBroken outcome ⊎ (outcome ≡ NoStore)
  pub damaged : (flaw : Damage) → outcome ≡ Damaged flaw → IsOpeningDamage files flaw ⊎ IsLater flaw
  pub named : (flaw : Damage) → IsOpeningDamage files flaw → IsBroken outcome ⊎ (outcome ≡ Damaged flaw)

-- What the head of a store makes of a run that is to make one, whatever the files hold.
pub record LooksForStore (outcome : Outcome) (files : File → List ℕ) : Type 0 where
  pub there : outcome ≡ StoreThere → OPEN_HEAD_LEN ≤ length (files Head)
  -- If there is a store, it is refused so, unless the shelf failed or memory ran out.
  pub refused : OPEN_HEAD_LEN ≤ length (files Head) → IsBroken outcome ⊎ (outcome ≡ StoreThere)

-- how an audit ends over files that open and have this first flaw, or none
abbrev pub EndsByFlaw : Option Damage → Outcome → Type 0
EndsByFlaw None outcome = EndsAs Done outcome
EndsByFlaw (Some damage) outcome = IsBroken outcome ⊎ (outcome ≡ Damaged damage)

-- What an audit makes of files, whatever they hold.
pub record JudgesFiles (outcome : Outcome) (files : File → List ℕ) : Type 0 where
  -- If it is done, or only its write failed, the files hold a lawful state.
  pub lawful : (outcome ≡ Done) ⊎ (outcome ≡ SinkFault) → HoldLawfulState files
  -- A damage is named only if the files hold no lawful state, and it is their first: that of opening
  -- or, if they open, their first flaw.
  pub unlawful : (damage : Damage) → outcome ≡ Damaged damage → HoldLawfulState files → ⊥
  pub damaged : (damage : Damage) → outcome ≡ Damaged damage → IsFirstDamage sha256 files damage
  -- It is refused as no store only if there is none. If there is none it is refused so, unless the
  -- shelf failed or memory ran out.
  pub no_store : outcome ≡ NoStore → HoldNoStore files
  pub absent : HoldNoStore files → IsBroken outcome ⊎ (outcome ≡ NoStore)
  -- What opening finds wrong is named and, if the files open, their first flaw, unless the shelf
  -- failed or memory ran out. Without a flaw it is done, unless a device failed or memory ran out.
  pub opening : (damage : Damage) → IsOpeningDamage files damage → IsBroken outcome ⊎ (outcome ≡ Damaged damage)
  pub first_flaw : (opened : Opened) → OpenAs files opened → (flaw : Option Damage)
      → IsFlawOf sha256 files opened flaw → EndsByFlaw flaw outcome

-- The same, by command.
abbrev pub GoesByVerdict : Result Command Refusal → Outcome → Option (File → List ℕ) → Type 0
GoesByVerdict (Err bad) outcome files = ⊤
GoesByVerdict (Ok (quiet (Plan raw workers segment))) outcome files = ⊤
GoesByVerdict (Ok (quiet (Init raw))) outcome files = bad_parameter raw ≡ None → IfSome files (LooksForStore outcome)
GoesByVerdict (Ok (quiet ListSessions)) outcome files = IfSome files (OpensFirst (λ flaw. ⊥) outcome)
GoesByVerdict (Ok (quiet (Restore name))) outcome files = IfSome files (OpensFirst IsOfChunk outcome)
GoesByVerdict (Ok (quiet (Drop name))) outcome files = IfSome files (OpensFirst (λ flaw. ⊥) outcome)
GoesByVerdict (Ok (quiet Refs)) outcome files = IfSome files (OpensFirst (λ flaw. ⊥) outcome)
GoesByVerdict (Ok (quiet Audit)) outcome files = IfSome files (JudgesFiles outcome)
GoesByVerdict (Ok (Ingest name how)) outcome files = IfSome files (OpensFirst IsOfChunk outcome)
GoesByVerdict (Ok (Bulk seed blocks how)) outcome files = IfSome files (OpensFirst IsOfChunk outcome)

-- if the files before had the state and nothing else, those after have the next state and nothing else
abbrev pub StayClean : Option (File → List ℕ) → Option (File → List ℕ) → Option State → Option State → Type 0
StayClean before after state next =
    IfSome before (λ had. AreClean sha256 had state → IfSome after (λ files. AreClean sha256 files next))

-- ---- a run

-- How a run ends and what it writes, from the pass that the definition has for its input and the
-- state before.
pub record IsRunOn {K : Type 0} (pass : Pass) (outcome : Outcome) (written_to : K → Option (List ℕ)) (before after : K)
    : Type 0 where
  -- The outcome is that of the definition, or the fault of a device, or out of memory.
  pub answer : EndsAs pass.outcome outcome
  -- Bad words and bad parameters are always refused, whatever the devices do and whether there is
  -- memory.
  pub refused : IsEarly pass.outcome → outcome ≡ pass.outcome
  -- The sink received the text of the definition, as `Writes` says.
  pub written : Writes outcome pass.text (written_to before) (written_to after)
  -- If the text is empty, the sink is as it was.
  pub nothing_to_write : pass.text ≡ [] → after ≡ before

-- What a run does apart from its source. `pass` is the definition's pass for each state.
pub record IsCarriedOut {K F : Type 0} (pass : Option State → Pass) (command : Result Command Refusal)
    (outcome : Outcome)
    (written_to : K → Option (List ℕ)) (write_faults : K → ℕ) (sink_faultless : K → Type 0)
    (sink_before sink_after : K)
    (files_of : F → Option (File → List ℕ)) (loose : F → File → Bool) (shelf_faults : F → ℕ)
    (shelf_faultless : F → Type 0) (shelf_before shelf_after : F) : Type 0 where
  -- The run is that of the definition on each state that the files may hold.
  pub on_state : (state : Option State) → NeedsHeld command (files_of shelf_before) state
      → IsRunOn (pass state) outcome written_to sink_before sink_after
  -- The files then hold the state of the definition, as `LeavesStore` says.
  pub held : (state : Option State) → AreHeld (files_of shelf_before) state
      → IfSome (files_of shelf_after) (LeavesStore outcome state (pass state).after)
  -- From clean files a run that is done leaves clean files.
  pub clean : outcome ≡ Done → (state : Option State) → AreHeld (files_of shelf_before) state
      → StayClean (files_of shelf_before) (files_of shelf_after) state (pass state).after
  -- The outcome is one that the command may have.
  pub among : MayReturn command outcome
  -- The fault of a device is returned only if its own count of faults rose.
  pub sink_counts : CountsFaults (outcome ≡ SinkFault) write_faults sink_faultless sink_before sink_after
  pub shelf_counts : CountsFaults (outcome ≡ ShelfFault) shelf_faults shelf_faultless shelf_before shelf_after
  -- What is left of the sink and of the shelf, whatever the files hold.
  pub silent : IsSilent outcome → sink_after ≡ sink_before
  pub sink : LeavesSink command outcome (files_of shelf_before) sink_before sink_after
  pub shelf : LeavesShelf command outcome files_of loose shelf_before shelf_after
  pub verdict : GoesByVerdict command outcome (files_of shelf_before)
  -- What is done by the committed records, if the files open.
  pub by_records : (opened : Opened) → IfSome (files_of shelf_before) (λ files. OpenAs files opened
      → GoesByRecords command outcome files opened (written_to sink_before) (written_to sink_after))

-- Every run: `pass` is the definition's pass for each state and each input.
pub record IsRun {R K F : Type 0} (pass : Option State → List ℕ → Pass) (command : Result Command Refusal)
    (outcome : Outcome)
    (left : R → Option (List ℕ)) (read_faults : R → ℕ) (source_faultless : R → Type 0)
    (source_before source_after : R)
    (written_to : K → Option (List ℕ)) (write_faults : K → ℕ) (sink_faultless : K → Type 0)
    (sink_before sink_after : K)
    (files_of : F → Option (File → List ℕ)) (loose : F → File → Bool) (shelf_faults : F → ℕ)
    (shelf_faultless : F → Type 0) (shelf_before shelf_after : F) : Type 0 where
  -- There is an input, which is the source's bytes if the source is observable, and the run is that
  -- of the definition on it. If the files open, it goes by the committed records.
  pub on_some_input :
      (input : List ℕ) × IsInputOf (left source_before) input
      × IsCarriedOut (λ state. pass state input) command outcome
      written_to write_faults sink_faultless sink_before sink_after
      files_of loose shelf_faults shelf_faultless shelf_before shelf_after
      × ((opened : Opened) → IfSome (files_of shelf_before) (λ files. OpenAs files opened
      → TakesByRecords command outcome opened input))
  pub source_counts : CountsFaults (outcome ≡ SourceFault) read_faults source_faultless source_before source_after
  -- After bad words and bad parameters the source is as it was.
  pub untouched : IsEarly outcome → source_after ≡ source_before
  pub source :
      LeavesSource command outcome left (files_of shelf_before) source_before source_after sink_before sink_after
