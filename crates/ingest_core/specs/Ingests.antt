-- What an ingest does. Its outcome and the state after it are those of the one-pass definition.
use Rattle.std.specs.Prelude.{◌≡◌, ◌⊎◌, ◌≤◌, ◌<◌, ◌+◌, ℕ, Bool, List, drop, length, None, Some, Option, option_map, is_some, true, Result, Err, IfErr, IfOk, IfSome, IsErrAnd, OnErr, OnOk}
use Rattle.edge_traits.specs.Shelf.{SameFiles, SameLoose}
use Rattle.edge_traits.specs.Source.{IsAtEnd, LosesAtMost}
use Rattle.ingest_core.specs.ByBook.{IngestsByBook}
use Rattle.ingest_core.specs.Faults.{Fails, IsAfterReading, IsBeforeReading, IsBeforeWriting, IsOfIngest, IsStoreFailure, outcome_of}
use Rattle.store_core.specs.Faults.{IsOfChunk}
use Rattle.ingest_core.specs.declared.fault.IngestFault.{IngestFault}
use Rattle.ingest_core.specs.declared.fault.IngestFault.TheVariants.{InputTooLong, Store}
use Rattle.ingest_core.specs.declared.summary.Summary.{Summary}
use Rattle.sd_base.specs.Cutting.{chunks_of}
use Rattle.sd_base.specs.Distinct.{new_chunks}
use Rattle.sd_base.specs.OnePass.{refusal_of_ingest}
use Rattle.sd_base.specs.Opening.{IsOpeningDamage, OpenAs, Opened}
use Rattle.sd_base.specs.States.{IsLawful, State, live_session_named, placed_chunks, sessions_in, with_session}
use Rattle.sd_base.specs.Stores.{AreClean, HoldNoStore, HoldState}
use Rattle.sd_base.specs.declared.damage.Damage.{Damage}
use Rattle.sd_base.specs.declared.file.File.{File}
use Rattle.sd_base.specs.declared.limits.TheConstants.{MAX_INPUT, MAX_SESSIONS}
use Rattle.store_core.specs.declared.fault.StoreFault.TheVariants.{Damaged, NoStore}

-- how an ingest ends
abbrev pub Ends : Type 0
Ends = Result Summary IngestFault

-- The bytes may be the input of a run: they are what the source had left, if the source is
-- observable.
abbrev pub IsInputOf : Option (List ℕ) → List ℕ → Type 0
IsInputOf left input = IfSome left (λ held. input ≡ held)

-- the numbers of an input that is taken into a state, as the text of an ingest has them
abbrev pub summary_of : State → List ℕ → Summary
summary_of state input = record {
  session = length (sessions_in state);
  bytes = length input;
  places = length (chunks_of state.params input);
  fresh = length (new_chunks (placed_chunks state.events) (chunks_of state.params input));
}

-- An ingest of an input under a name over files that hold a state.
pub record IngestsInto (name_of : List ℕ → List ℕ) (state : State) (name input : List ℕ) (result : Ends)
    (before : File → List ℕ) (after : Option (File → List ℕ)) : Type 0 where
  -- After Ok the definition does not refuse the input, the numbers are those of the definition, and
  -- the files hold the state with the session.
  pub accepted : OnOk result (refusal_of_ingest state name input ≡ None)
  pub summary : IfOk result (λ summary. summary ≡ summary_of state input)
  pub taken_in : OnOk result (IfSome after (λ files. HoldState name_of files (with_session state name input)))
  -- If the files had nothing else, they have nothing else then.
  pub clean : AreClean name_of before (Some state)
      → OnOk result (IfSome after (λ files. AreClean name_of files (Some (with_session state name input))))
  -- It is refused as the definition says, unless a device failed or memory ran out.
  pub refused : IfErr result (λ fault. Fails fault ⊎ (refusal_of_ingest state name input ≡ Some (outcome_of fault)))
  -- After a refusal the files hold the state, unless the shelf failed or memory ran out.
  pub kept : IfErr result (λ fault. IsStoreFailure fault ⊎ IfSome after (λ files. HoldState name_of files state))
  -- After every refusal they hold the state or, if the definition does not refuse the input, the
  -- state with the session.
  pub either : OnErr result (IfSome after (λ files. HoldState name_of files state
      ⊎ ((refusal_of_ingest state name input ≡ None) × HoldState name_of files (with_session state name input))))

-- An ingest over the files of a shelf, from what a source had left: there is an input on which it is
-- that of the definition, for every lawful state that the files hold, and goes by the records of
-- every book that they open with.
abbrev pub Ingests : (List ℕ → List ℕ) → List ℕ → Option (List ℕ) → Ends → Option (File → List ℕ)
    → Option (File → List ℕ) → Type 0
Ingests name_of name left result before after =
    (input : List ℕ) × IsInputOf left input
    × ((state : State) → IfSome before (λ files.
    IsLawful state → HoldState name_of files state → IngestsInto name_of state name input result files after))
    × ((opened : Opened) → IfSome before (λ files. OpenAs files opened → IngestsByBook opened name input result))

-- no input is taken into this state under this name: a live session has the name, or there are as
-- many sessions as there may be
abbrev pub IsClosedTo : State → List ℕ → Type 0
IsClosedTo state name =
    (is_some (live_session_named (sessions_in state) name) ≡ true) ⊎ (MAX_SESSIONS ≤ length (sessions_in state))

-- What an ingest takes from its source, whatever the shelf holds.
pub record ReadsSource {R : Type 0} (result : Ends) (left : R → Option (List ℕ)) (before after : R) : Type 0 where
  -- After Ok the source was read to its end, and had at most 2^28 bytes. So it was if there are too
  -- many places or chunks.
  pub whole : OnOk result (IsAtEnd (left after))
  pub read_first : IfErr result (λ fault. IsAfterReading fault → IsAtEnd (left after))
  pub fits : OnOk result (IfSome (left before) (λ input. length input ≤ MAX_INPUT))
  pub fits_first : IfErr result (λ fault. IsAfterReading fault → IfSome (left before) (λ input. length input ≤ MAX_INPUT))
  -- After a refusal that comes before reading the source is as it was.
  pub untouched : IfErr result (λ fault. IsBeforeReading fault → after ≡ before)
  -- At most 2^28 + 1 bytes were taken, and exactly so many if the input is too long. It is too long
  -- only if it has more than 2^28 bytes.
  pub taken_at_most : LosesAtMost (MAX_INPUT + 1) (left before) (left after)
  pub too_long : result ≡ Err InputTooLong → IfSome (left before) (λ input. MAX_INPUT < length input)
  pub taken : result ≡ Err InputTooLong → left after ≡ option_map (λ input. drop (MAX_INPUT + 1) input) (left before)

-- What an ingest leaves of its shelf, whatever it reads: after a refusal that comes before the first
-- chunk is offered no file has changed, and the same files are loose.
pub record LeavesShelf {F : Type 0} (result : Ends) (files : F → Option (File → List ℕ)) (loose : F → File → Bool)
    (before after : F) : Type 0 where
  pub same_files : IfErr result (λ fault. IsBeforeWriting fault → SameFiles (files before) (files after))
  pub same_loose : IfErr result (λ fault. IsBeforeWriting fault → SameLoose (loose before) (loose after))

-- What opening the store makes of a call over these files, whether or not they hold a state.
pub record OpensFirst {T : Type 0} (result : Result T IngestFault) (files : File → List ℕ) : Type 0 where
  -- If there is no store, it is refused so, unless the shelf failed or memory ran out, and only then.
  pub no_store : result ≡ Err (Store NoStore) → HoldNoStore files
  pub absent : HoldNoStore files → IsErrAnd result (λ fault. IsStoreFailure fault ⊎ (fault ≡ Store NoStore))
  -- The same of each damage that is found when it is opened. Only the bytes of a chunk may be found
  -- damaged later.
  pub damaged : (damage : Damage) → result ≡ Err (Store (Damaged damage)) → IsOpeningDamage files damage ⊎ IsOfChunk damage
  pub named : (damage : Damage) → IsOpeningDamage files damage
      → IsErrAnd result (λ fault. IsStoreFailure fault ⊎ (fault ≡ Store (Damaged damage)))

-- With what an ingest may be refused, and why the store refuses it.
pub record RefusesWithCause (result : Ends) (before : Option (File → List ℕ)) : Type 0 where
  pub only : IfErr result IsOfIngest
  pub opens : IfSome before (OpensFirst result)
