-- What a command does before its text is written: it makes the text, or it is refused.
use Rattle.std.specs.Prelude.{◌≡◌, ◌⊎◌, ◌+◌, ◌<◌, ◌≤◌, ℕ, Bool, true, List, [], ◌∷◌, drop, length, Option, Some, None, option_map, Result, Ok, Err, IfErr, IfOk, OnErr, OnOk, IfSome, IsErrAnd, String, string_bytes, ⊤}
use Rattle.std.specs.declared.alloc.Global.{Global}
use Rattle.sha2.specs.Sha256.{sha256}
use Rattle.edge_traits.specs.Source.{IsAtEnd, LosesAtMost}
use Rattle.ingest_core.specs.ByBook.{refusal_by_book}
use Rattle.ingest_core.specs.Ingests.{IsClosedTo, IsInputOf}
use Rattle.sd_base.specs.Audits.{audit_text, counts_of_book}
use Rattle.sd_base.specs.Books.{live_session}
use Rattle.sd_base.specs.OnePass.{Pass, pass_of_drop}
use Rattle.sd_base.specs.Opening.{IsOpeningDamage, OpenAs, Opened}
use Rattle.sd_base.specs.Rows.{reference_rows_of_book, rows_of_book}
use Rattle.sd_base.specs.States.{State, live_session_named, sessions_in}
use Rattle.sd_base.specs.Stores.{AreClean, Hold, HoldNoStore}
use Rattle.sd_base.specs.Texts.{dropped_text, list_text, refs_text}
use Rattle.sd_base.specs.declared.damage.Damage.{Damage}
use Rattle.sd_base.specs.declared.file.File.{File}
use Rattle.sd_base.specs.declared.limits.TheConstants.{MAX_INPUT}
use Rattle.sd_base.specs.declared.params.BadParams.{BadParams as BadParameter}
use Rattle.sd_base.specs.declared.words.BadWords.{BadWords as Refusal}
use Rattle.sd_base.specs.declared.words.Command.{Command}
use Rattle.sd_base.specs.declared.words.Command.TheVariants.{Quiet as quiet, Ingest, Bulk}
use Rattle.sd_base.specs.declared.words.Quiet.TheVariants.{Plan, Init, List as ListSessions, Restore, Drop, Refs, Audit}
use Rattle.sd_base.specs.declared.outcome.Outcome.{Outcome}
use Rattle.sd_base.specs.declared.outcome.Outcome.TheVariants.{Done, BadWords, BadParams, NoStore, StoreThere, NameTaken, NoSession, Damaged, InputTooLong, TooManySessions, TooManyPlaces, TooManyChunks, SourceFault, SinkFault, ShelfFault, OutOfMemory}
use Rattle.store_core.specs.Faults.{IsOfChunk, IsOfOpening}
use Rattle.store_core.specs.Shelves.{CountsFaults}
use Rattle.store_core.specs.StoreStates.{StandsFor, StoreState}
use Rattle.backup_top.specs.ByRecords.{places_named}
use Rattle.backup_top.specs.Outcomes.{EndsAs, IsAfterReading, IsBeforeReading, IsBroken, IsDamage, IsEarly, IsOneOf, LeavesStore, Writes}
use Rattle.backup_top.specs.Run.{AreFlushed, AreHeld, GoesByVerdict, KeepsFiles, LeavesShelf, MayReturn, NeedsHeld, OpensFirst, StayClean}

-- the text of a command, or why it is refused
abbrev pub Made : Type 0
Made = Result (String Global) Outcome

-- an outcome of a command that has made its text: nothing but the write is left
abbrev pub IsOfWrite : Outcome → Type 0
IsOfWrite Done = ⊤
IsOfWrite SinkFault = ⊤
IsOfWrite OutOfMemory = ⊤
IsOfWrite (BadWords bad) = ⊥
IsOfWrite (BadParams kind) = ⊥
IsOfWrite NoStore = ⊥
IsOfWrite StoreThere = ⊥
IsOfWrite NameTaken = ⊥
IsOfWrite NoSession = ⊥
IsOfWrite (Damaged damage) = ⊥
IsOfWrite InputTooLong = ⊥
IsOfWrite TooManySessions = ⊥
IsOfWrite TooManyPlaces = ⊥
IsOfWrite TooManyChunks = ⊥
IsOfWrite SourceFault = ⊥
IsOfWrite ShelfFault = ⊥

-- an outcome of a command that has made no text
abbrev pub IsUnmade : Outcome → Type 0
IsUnmade Done = ⊥
IsUnmade SinkFault = ⊥
IsUnmade (BadWords bad) = ⊤
IsUnmade (BadParams kind) = ⊤
IsUnmade NoStore = ⊤
IsUnmade StoreThere = ⊤
IsUnmade NameTaken = ⊤
IsUnmade NoSession = ⊤
IsUnmade (Damaged damage) = ⊤
IsUnmade InputTooLong = ⊤
IsUnmade TooManySessions = ⊤
IsUnmade TooManyPlaces = ⊤
IsUnmade TooManyChunks = ⊤
IsUnmade SourceFault = ⊤
IsUnmade ShelfFault = ⊤
IsUnmade OutOfMemory = ⊤

-- the outcomes that may follow
abbrev pub MayEnd : Made → Outcome → Type 0
MayEnd (Ok text) outcome = IsOfWrite outcome
MayEnd (Err refused) outcome = outcome ≡ refused

-- the text is that of a pass that is done, or the refusal is that of the pass
abbrev pub MakesTextOf : Pass → Made → Type 0
MakesTextOf pass (Ok text) = (pass.outcome ≡ Done) × (pass.text ≡ string_bytes text)
MakesTextOf pass (Err refused) = EndsAs pass.outcome refused × (IsEarly pass.outcome → refused ≡ pass.outcome)

-- the store in which the files are then: the one after if the text was made
abbrev pub MakesStoreOf : Made → Option State → Option State → (File → List ℕ) → Type 0
MakesStoreOf (Ok text) before after files = Hold sha256 files after
MakesStoreOf (Err refused) before after files = LeavesStore refused before after files

-- what dropping the session of a name makes by the committed records of files that open
pub record DropsByBook (opened : Opened) (name : List ℕ) (made : Made) : Type 0 where
  pub no_session : made ≡ Err NoSession → live_session opened.book.sessions name ≡ None
  pub absent : live_session opened.book.sessions name ≡ None → IsErrAnd made (λ refused. IsBroken refused ⊎ (refused ≡ NoSession))
  pub found : IfSome (places_named opened.book.sessions name) (λ places.
      IfOk made (λ text. string_bytes text ≡ dropped_text name places) × IfErr made IsBroken)

-- what is made by the committed records of files that open, by command
abbrev pub MakesByRecords : Result Command Refusal → Made → Opened → Type 0
MakesByRecords (Err bad) made opened = ⊤
MakesByRecords (Ok (quiet (Plan raw workers segment))) made opened = ⊤
MakesByRecords (Ok (quiet (Init raw))) made opened = ⊤
MakesByRecords (Ok (quiet ListSessions)) made opened =
    IfOk made (λ text. string_bytes text ≡ list_text (rows_of_book opened.book)) × IfErr made IsBroken
MakesByRecords (Ok (quiet (Restore name))) made opened = ⊥
MakesByRecords (Ok (quiet (Drop name))) made opened = DropsByBook opened name made
MakesByRecords (Ok (quiet Refs)) made opened =
    IfOk made (λ text. string_bytes text ≡ refs_text (reference_rows_of_book opened.book)) × IfErr made IsBroken
MakesByRecords (Ok (quiet Audit)) made opened =
    IfOk made (λ text. string_bytes text ≡ audit_text (counts_of_book opened.book))
MakesByRecords (Ok (Ingest name how)) made opened = ⊤
MakesByRecords (Ok (Bulk seed blocks how)) made opened = ⊤

-- What making the text of a command does. `pass` is the definition's pass on each state.
pub record MakesText {F : Type 0} (pass : Option State → Pass) (command : Result Command Refusal) (made : Made)
    (files_of : F → Option (File → List ℕ)) (loose : F → File → Bool) (shelf_faults : F → ℕ)
    (shelf_faultless : F → Type 0) (before after : F) : Type 0 where
  pub on_state : (state : Option State) → NeedsHeld command (files_of before) state → MakesTextOf (pass state) made
  pub held : (state : Option State) → AreHeld (files_of before) state
      → IfSome (files_of after) (MakesStoreOf made state (pass state).after)
  pub clean : OnOk made ((state : Option State) → AreHeld (files_of before) state
      → StayClean (files_of before) (files_of after) state (pass state).after)
  pub unmade : IfErr made IsUnmade
  pub among : (outcome : Outcome) → MayEnd made outcome → MayReturn command outcome
  pub counts : CountsFaults (made ≡ Err ShelfFault) shelf_faults shelf_faultless before after
  pub shelf : (outcome : Outcome) → MayEnd made outcome → LeavesShelf command outcome files_of loose before after
  pub verdict : (outcome : Outcome) → MayEnd made outcome → GoesByVerdict command outcome (files_of before)
  pub by_records : (opened : Opened) → IfSome (files_of before) (λ files. OpenAs files opened
      → MakesByRecords command made opened)

-- a refusal of `plan`
abbrev pub IsOfPlan : Outcome → Type 0
IsOfPlan (BadParams kind) = ⊤
IsOfPlan InputTooLong = ⊤
IsOfPlan SourceFault = ⊤
IsOfPlan OutOfMemory = ⊤
IsOfPlan Done = ⊥
IsOfPlan (BadWords bad) = ⊥
IsOfPlan NoStore = ⊥
IsOfPlan StoreThere = ⊥
IsOfPlan NameTaken = ⊥
IsOfPlan NoSession = ⊥
IsOfPlan (Damaged damage) = ⊥
IsOfPlan TooManySessions = ⊥
IsOfPlan TooManyPlaces = ⊥
IsOfPlan TooManyChunks = ⊥
IsOfPlan SinkFault = ⊥
IsOfPlan ShelfFault = ⊥

-- What making the text of `plan` does, from the first parameter that is out of its range, if one is.
-- `pass` is the definition's pass on each state and input.
pub record MakesPlan {R : Type 0} (flaw : Option BadParameter) (pass : Option State → List ℕ → Pass) (made : Made)
    (left : R → Option (List ℕ)) (faults : R → ℕ) (faultless : R → Type 0) (before after : R) : Type 0 where
  pub on_some_input : (input : List ℕ) × IsInputOf (left before) input
      × ((state : Option State) → MakesTextOf (pass state input) made)
  pub only : IfErr made IsOfPlan
  pub flawed : (kind : BadParameter) → flaw ≡ Some kind → made ≡ Err (BadParams kind)
  pub sound : flaw ≡ None → IfErr made (IsOneOf (OutOfMemory ∷ InputTooLong ∷ SourceFault ∷ []))
  pub counts : CountsFaults (made ≡ Err SourceFault) faults faultless before after
  pub untouched : IfErr made (λ refused. IsEarly refused → after ≡ before)
  pub whole_input : OnOk made (IsAtEnd (left after))
  pub taken_at_most : LosesAtMost (MAX_INPUT + 1) (left before) (left after)
  pub taken : made ≡ Err InputTooLong → left after ≡ option_map (λ input. drop (MAX_INPUT + 1) input) (left before)
  pub too_long : made ≡ Err InputTooLong → IfSome (left before) (λ input. MAX_INPUT < length input)
  pub fits : OnOk made (IfSome (left before) (λ input. length input ≤ MAX_INPUT))

-- What writing the text does, if it was made.
pub record WritesMade {K : Type 0} (made : Made) (outcome : Outcome) (written_to : K → Option (List ℕ))
    (write_faults : K → ℕ) (sink_faultless : K → Type 0) (before after : K) : Type 0 where
  pub ends : MayEnd made outcome
  pub written : IfOk made (λ text. Writes outcome (string_bytes text) (written_to before) (written_to after))
  pub nothing_to_write : IfOk made (λ text. string_bytes text ≡ [] → after ≡ before)
  pub unwritten : OnErr made (after ≡ before)
  pub counts : OnOk made (CountsFaults (outcome ≡ SinkFault) write_faults sink_faultless before after)

-- how opening a store may be refused
abbrev pub OnlyFailsToOpen : Outcome → Type 0
OnlyFailsToOpen outcome = IsBroken outcome ⊎ (outcome ≡ NoStore) ⊎ IsDamage IsOfOpening outcome

-- a store that was opened over files that hold a state
abbrev pub OpensOn : Option State → Result StoreState Outcome → Option (File → List ℕ) → Type 0
OpensOn None (Ok store) after = ⊥
OpensOn None (Err outcome) after = IsBroken outcome ⊎ (outcome ≡ NoStore)
OpensOn (Some state) (Ok store) after = IfSome after (λ files. StandsFor sha256 store files state [])
OpensOn (Some state) (Err outcome) after = IsBroken outcome

-- What opening a store does.
pub record OpensStore {F : Type 0} (result : Result StoreState Outcome) (files_of : F → Option (File → List ℕ))
    (loose : F → File → Bool) (faults : F → ℕ) (faultless : F → Type 0) (before after : F) : Type 0 where
  pub on_state : (state : Option State) → AreHeld (files_of before) state → OpensOn state result (files_of after)
  pub opened : IfOk result (λ store. IfSome (files_of before) (λ files. OpenAs files store.opened))
  pub fresh : IfOk result (λ store. (store.offered ≡ []) × (store.sound ≡ true))
  pub refused : IfErr result (λ outcome. OnlyFailsToOpen outcome × IfSome (files_of before) (OpensFirst (λ flaw. ⊥) outcome))
  pub kept : KeepsFiles files_of loose before after
  pub counts : CountsFaults (result ≡ Err ShelfFault) faults faultless before after

-- the state after the session of a name is dropped, if there is one
abbrev pub after_drop : List ℕ → State → Option State
after_drop name state = (pass_of_drop name (live_session_named (sessions_in state) name) state).after

-- What dropping the session of a name from a store that was opened does.
pub record DropsFrom {F : Type 0} (store : StoreState) (name : List ℕ) (made : Made)
    (files_of : F → Option (File → List ℕ)) (loose : F → File → Bool) (faults : F → ℕ) (faultless : F → Type 0)
    (before after : F) : Type 0 where
  pub refused : IfErr made (λ ending. IsBroken ending ⊎ (ending ≡ NoSession))
  pub by_book : DropsByBook store.opened name made
  pub kept : made ≡ Err NoSession → KeepsFiles files_of loose before after
  pub flushed : OnOk made (AreFlushed store.opened.head.generation (loose after))
  -- If the store stands for a state, the files then hold the state of the definition.
  pub held : (state : State) → IfSome (files_of before) (λ files. StandsFor sha256 store files state []
      → IfSome (files_of after) (MakesStoreOf made (Some state) (after_drop name state)))
  pub clean : OnOk made ((state : State) → IfSome (files_of before) (λ files. StandsFor sha256 store files state []
      → AreClean sha256 files (Some state) → IfSome (files_of after) (λ then. AreClean sha256 then (after_drop name state))))
  pub counts : CountsFaults (made ≡ Err ShelfFault) faults faultless before after

-- what making the text of an ingest does by the committed records of files that open
pub record TakesByBook (opened : Opened) (name input : List ℕ) (made : Made) : Type 0 where
  pub refused : IfSome (refusal_by_book opened name input) (λ refusal. IsErrAnd made (EndsAs refusal))
  pub accepted : refusal_by_book opened name input ≡ None → IfErr made (λ refused.
      IsOneOf (OutOfMemory ∷ ShelfFault ∷ TooManyChunks ∷ SourceFault ∷ []) refused ⊎ IsDamage IsOfChunk refused)

-- What making the text of an ingest takes from its source.
pub record TakesInput {R : Type 0} (name : List ℕ) (made : Made) (files : Option (File → List ℕ))
    (left : R → Option (List ℕ)) (faults : R → ℕ) (faultless : R → Type 0) (before after : R) : Type 0 where
  pub counts : CountsFaults (made ≡ Err SourceFault) faults faultless before after
  pub whole : OnOk made (IsAtEnd (left after))
  pub fits : OnOk made (IfSome (left before) (λ input. length input ≤ MAX_INPUT))
  pub read_first : IfErr made (λ refused. IsAfterReading refused → IsAtEnd (left after))
  pub fits_first : IfErr made (λ refused. IsAfterReading refused → IfSome (left before) (λ input. length input ≤ MAX_INPUT))
  pub unread : IfErr made (λ refused. IsBeforeReading refused → after ≡ before)
  pub refused_unread : (state : State) → AreHeld files (Some state) → IsClosedTo state name → after ≡ before
  pub unopened : IfSome files (λ bytes_of. HoldNoStore bytes_of ⊎ ((flaw : Damage) × IsOpeningDamage bytes_of flaw)
      → after ≡ before)
  pub late : IfErr made (λ refused. IsEarly refused → ⊥)
  pub taken_at_most : LosesAtMost (MAX_INPUT + 1) (left before) (left after)
  pub taken : made ≡ Err InputTooLong → left after ≡ option_map (λ input. drop (MAX_INPUT + 1) input) (left before)
  pub too_long : made ≡ Err InputTooLong → IfSome (left before) (λ input. MAX_INPUT < length input)
