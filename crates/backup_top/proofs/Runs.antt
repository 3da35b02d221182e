-- Runs, put together from what the parts of a command do.
use Rattle.std.proofs.Common.{◌≡◌, inl, inr, ℕ, Bool, List, ◌∷◌, refl, ap, sym, subst, ◌∙◌, append-nil, arith}
use Rattle.std.specs.Prelude.{⊤, Err, IfSome, IsErr, IsErrAnd, None, Ok, OnErr, OnOk, Option, Result, Some, String, string_bytes}
use Rattle.std.specs.declared.alloc.Global.{Global}
use Rattle.sha2.specs.Sha256.{sha256}
use Rattle.edge_traits.specs.Sink.{AppendsPrefix}
use Rattle.ingest_core.proofs.Inputs.{some_input}
use Rattle.sd_base.specs.Audits.{audit_text, counts_of_book}
use Rattle.sd_base.specs.OnePass.{Pass, pass_of, refusal}
use Rattle.sd_base.specs.Opening.{OpenAs, Opened}
use Rattle.sd_base.specs.Rows.{reference_rows_of_book, rows_of_book}
use Rattle.sd_base.specs.Texts.{dropped_text, list_text, refs_text}
use Rattle.sd_base.specs.States.{State}
use Rattle.sd_base.specs.Stores.{AreClean, Hold}
use Rattle.sd_base.specs.declared.damage.Damage.{Damage}
use Rattle.sd_base.specs.declared.file.File.{File}
use Rattle.sd_base.specs.declared.words.BadWords.{BadWords as Refusal}
use Rattle.sd_base.specs.declared.words.Command.{Command}
use Rattle.sd_base.specs.declared.words.Command.TheVariants.{Quiet as quiet, Ingest, Bulk}
use Rattle.sd_base.specs.declared.words.Quiet.TheVariants.{Plan, Init, List as ListSessions, Restore, Drop, Refs, Audit}
use Rattle.sd_base.specs.declared.outcome.Outcome.{Outcome}
use Rattle.sd_base.specs.declared.outcome.Outcome.TheVariants.{Done, BadWords, BadParams, NoStore, StoreThere, NameTaken, NoSession, Damaged, InputTooLong, TooManySessions, TooManyPlaces, TooManyChunks, SourceFault, SinkFault, ShelfFault, OutOfMemory}
use Rattle.store_core.specs.Shelves.{CountsFaults}
use Rattle.backup_top.specs.ByRecords.{GoesByRecords, TakesByRecords, places_named}
use Rattle.backup_top.specs.Outcomes.{EndsAs, IsBeforeReading, IsBroken, IsBrokenOff, IsEarly, IsOneOf, IsSilent, LeavesStore, Writes}
use Rattle.backup_top.specs.Run.{AreHeld, IsCarriedOut, IsRun, LeavesSink, LeavesSource, StayClean}
use Rattle.backup_top.specs.Steps.{IsOfWrite, IsUnmade, Made, MakesByRecords, MakesText, WritesMade}

-- a call that passes an error on returns it
pub passed-is : {T E : Type 0} (error : E) (r : Result T E) → IsErrAnd r (λ e. e ≡ error) → r ≡ Err error
passed-is error (Ok x) same = absurd same
passed-is {T} {E} error (Err e) same = ap (λ (x : E). let q : Result T E = Err x in q) same

pub fails-with : {T E : Type 0} (r : Result T E) → IsErr r → (error : E) × (r ≡ Err error)
fails-with (Ok x) fails = absurd cc
fails-with (Err e) fails = (e, refl)

-- it returned an error only if the call did
pub passed-of : {S T E : Type 0} (error : E) (call : Result S E) (r : Result T E) (other : E) → call ≡ Err error →
    IsErrAnd r (λ e. e ≡ error) → r ≡ Err other → call ≡ Err other
passed-of error call (Ok x) other was same is = absurd same
passed-of error call (Err e) other was same is = cc

-- nothing is a prefix of each text
pub prefix_of_nothing : (before : Option (List ℕ)) (text : List ℕ) → AppendsPrefix before before text
prefix_of_nothing None text = (0, omega arith, refl)
prefix_of_nothing (Some had) text = (0, omega arith, rw append-nil refl)

-- ---- what devices count

-- a device that was not called counted no fault
pub uncalled : {D : Type 0} (fails : Type 0) (faults : D → ℕ) (faultless : D → Type 0) (device : D)
    → (fails → ⊥) → CountsFaults fails faults faultless device device
uncalled fails faults faultless device not = record {
  failed = λ failed. absurd (not failed);
  never_falls = omega arith;
  faultless_serves = λ _ failed. not failed;
  faultless_counts_none = λ _. refl;
  stays_faultless = λ still. still;
}

-- what was counted in a call that fails at least whenever the run does
pub counted_as : {D : Type 0} (call run : Type 0) (faults : D → ℕ) (faultless : D → Type 0) (before after : D)
    → (run → call) → CountsFaults call faults faultless before after → CountsFaults run faults faultless before after
counted_as call run faults faultless before after only counts = record {
  failed = λ failed. counts.failed (only failed);
  never_falls = counts.never_falls;
  faultless_serves = λ still failed. counts.faultless_serves still (only failed);
  faultless_counts_none = counts.faultless_counts_none;
  stays_faultless = counts.stays_faultless;
}

-- ---- outcomes, case by case

-- what holds of an outcome of a command that has made its text
pub record OfWrite (outcome : Outcome) : Type 0 where
  pub ends : (expected : Outcome) → expected ≡ Done → EndsAs expected outcome
  pub among : (others : List Outcome) → IsOneOf (Done ∷ SinkFault ∷ OutOfMemory ∷ others) outcome
  pub held : (before after : Option State) (files : File → List ℕ) → Hold sha256 files after
      → LeavesStore outcome before after files
  pub loud : IsSilent outcome → ⊥
  pub whole : IsBrokenOff outcome → ⊥
  pub late : IsEarly outcome → ⊥
  pub shelf : outcome ≡ ShelfFault → ⊥
  pub source : outcome ≡ SourceFault → ⊥
  pub fits : outcome ≡ InputTooLong → ⊥
  pub store : outcome ≡ NoStore → ⊥
  pub there : outcome ≡ StoreThere → ⊥
  pub sound : (flaw : Damage) → outcome ≡ Damaged flaw → ⊥
  pub unread : IsBeforeReading outcome → ⊥

pub of_write : (outcome : Outcome) → IsOfWrite outcome → OfWrite outcome
of_write Done is = record {
  ends = λ expected done. sym done;
  among = λ others. inl refl;
  held = λ before after files holds. holds;
  loud = λ no. no;
  whole = λ no. no;
  late = λ no. no;
  shelf = λ clash. absurd cc;
  source = λ clash. absurd cc;
  fits = λ clash. absurd cc;
  store = λ clash. absurd cc;
  there = λ clash. absurd cc;
  sound = λ flaw clash. absurd cc;
  unread = λ no. no;
}
of_write (BadWords bad) is = absurd is
of_write (BadParams kind) is = absurd is
of_write NoStore is = absurd is
of_write StoreThere is = absurd is
of_write NameTaken is = absurd is
of_write NoSession is = absurd is
of_write (Damaged damage) is = absurd is
of_write InputTooLong is = absurd is
of_write TooManySessions is = absurd is
of_write TooManyPlaces is = absurd is
of_write TooManyChunks is = absurd is
of_write SourceFault is = absurd is
of_write SinkFault is = record {
  ends = λ expected done. tt;
  among = λ others. inr (inl refl);
  held = λ before after files holds. holds;
  loud = λ no. no;
  whole = λ no. no;
  late = λ no. no;
  shelf = λ clash. absurd cc;
  source = λ clash. absurd cc;
  fits = λ clash. absurd cc;
  store = λ clash. absurd cc;
  there = λ clash. absurd cc;
  sound = λ flaw clash. absurd cc;
  unread = λ no. no;
}
of_write ShelfFault is = absurd is
of_write OutOfMemory is = record {
  ends = λ expected done. tt;
  among = λ others. inr (inr (inl refl));
  held = λ before after files holds. inr holds;
  loud = λ no. no;
  whole = λ no. no;
  late = λ no. no;
  shelf = λ clash. absurd cc;
  source = λ clash. absurd cc;
  fits = λ clash. absurd cc;
  store = λ clash. absurd cc;
  there = λ clash. absurd cc;
  sound = λ flaw clash. absurd cc;
  unread = λ no. no;
}

-- what holds of an outcome of a command that has made no text
pub record Unmade (outcome : Outcome) : Type 0 where
  pub writes : (text : List ℕ) (written : Option (List ℕ)) → Writes outcome text written written
  pub sink : outcome ≡ SinkFault → ⊥
  pub undone : outcome ≡ Done → ⊥

pub unmade_of : (outcome : Outcome) → IsUnmade outcome → Unmade outcome
unmade_of Done is = absurd is
unmade_of (BadWords bad) is = record { writes = λ text written. refl; sink = λ clash. absurd cc; undone = λ clash. absurd cc }
unmade_of (BadParams kind) is = record { writes = λ text written. refl; sink = λ clash. absurd cc; undone = λ clash. absurd cc }
unmade_of NoStore is = record { writes = λ text written. refl; sink = λ clash. absurd cc; undone = λ clash. absurd cc }
unmade_of StoreThere is = record { writes = λ text written. refl; sink = λ clash. absurd cc; undone = λ clash. absurd cc }
unmade_of NameTaken is = record { writes = λ text written. refl; sink = λ clash. absurd cc; undone = λ clash. absurd cc }
unmade_of NoSession is = record { writes = λ text written. refl; sink = λ clash. absurd cc; undone = λ clash. absurd cc }
unmade_of (Damaged damage) is = record { writes = λ text written. refl; sink = λ clash. absurd cc; undone = λ clash. absurd cc }
unmade_of InputTooLong is = record { writes = λ text written. refl; sink = λ clash. absurd cc; undone = λ clash. absurd cc }
unmade_of TooManySessions is = record { writes = λ text written. refl; sink = λ clash. absurd cc; undone = λ clash. absurd cc }
unmade_of TooManyPlaces is = record { writes = λ text written. refl; sink = λ clash. absurd cc; undone = λ clash. absurd cc }
unmade_of TooManyChunks is = record { writes = λ text written. refl; sink = λ clash. absurd cc; undone = λ clash. absurd cc }
unmade_of SourceFault is = record { writes = λ text written. refl; sink = λ clash. absurd cc; undone = λ clash. absurd cc }
unmade_of SinkFault is = absurd is
unmade_of ShelfFault is = record { writes = λ text written. prefix_of_nothing written text; sink = λ clash. absurd cc; undone = λ clash. absurd cc }
unmade_of OutOfMemory is = record { writes = λ text written. prefix_of_nothing written text; sink = λ clash. absurd cc; undone = λ clash. absurd cc }

-- ---- a command that makes its text and writes it

-- the outcome in a refusal, or this one
outcome-in : Outcome → Made → Outcome
outcome-in other (Ok text) = other
outcome-in other (Err refused) = refused

pub in-err : {refused outcome : Outcome} → ◌≡◌ {A = Made} (Err refused) (Err outcome) → refused ≡ outcome
unfolding outcome-in
in-err {refused = refused} is = ap (outcome-in refused) is

pub err-of : (refused : Outcome) {outcome : Outcome} → refused ≡ outcome → ◌≡◌ {A = Made} (Err refused) (Err outcome)
err-of refused is = ap (λ (o : Outcome). let m : Made = Err o in m) is

held-after : (outcome : Outcome) → OfWrite outcome → (told : Option (File → List ℕ)) (before after : Option State)
    → IfSome told (λ files. Hold sha256 files after) → IfSome told (LeavesStore outcome before after)
held-after outcome of None before after holds = tt
held-after outcome of (Some files) before after holds = of.held before after files holds

-- a fault ends any run
pub ends_broken : (expected ending : Outcome) → IsBroken ending → EndsAs expected ending
ends_broken expected ending (inl is) = subst (EndsAs expected) (sym is) tt
ends_broken expected ending (inr is) = subst (EndsAs expected) (sym is) tt

records-told : (told : Option (File → List ℕ)) (P : Opened → Type 0) (Opens Q : (File → List ℕ) → Opened → Type 0)
    → ((files : File → List ℕ) (opened : Opened) → P opened → Q files opened) → (opened : Opened)
    → IfSome told (λ files. Opens files opened → P opened) → IfSome told (λ files. Opens files opened → Q files opened)
records-told None P Opens Q step opened makes = tt
records-told (Some files) P Opens Q step opened makes = λ opens. step files opened (makes opens)

found-text : (outcome : Outcome) (name : List ℕ) (before after : Option (List ℕ)) (text : List ℕ) → OfWrite outcome
    → Writes outcome text before after → (found : Option ℕ)
    → IfSome found (λ places. (text ≡ dropped_text name places) × ⊤)
    → IfSome found (λ places. EndsAs Done outcome × Writes outcome (dropped_text name places) before after)
found-text outcome name before after text of written None makes = tt
found-text outcome name before after text of written (Some places) makes =
    (of.ends Done refl, subst (λ (t : List ℕ). Writes outcome t before after) makes.0 written)

found-refused : (refused : Outcome) (name : List ℕ) (written : Option (List ℕ)) → Unmade refused → (found : Option ℕ)
    → IfSome found (λ places. ⊤ × IsBroken refused)
    → IfSome found (λ places. EndsAs Done refused × Writes refused (dropped_text name places) written written)
found-refused refused name written unmade None makes = tt
found-refused refused name written unmade (Some places) makes =
    (ends_broken Done refused makes.1, unmade.writes (dropped_text name places) written)

-- what is written by the records, from what was made by them
text-by_records : (command : Result Command Refusal) (text : String Global) (outcome : Outcome) (files : File → List ℕ)
    (opened : Opened) (before after : Option (List ℕ)) → OfWrite outcome → Writes outcome (string_bytes text) before after
    → MakesByRecords command (Ok text) opened → GoesByRecords command outcome files opened before after
text-by_records (Err bad) text outcome files opened before after of written makes = tt
text-by_records (Ok (quiet (Plan raw workers segment))) text outcome files opened before after of written makes = tt
text-by_records (Ok (quiet (Init raw))) text outcome files opened before after of written makes = tt
text-by_records (Ok (quiet ListSessions)) text outcome files opened before after of written makes = record {
  answer = of.ends Done refl;
  written = subst (λ (t : List ℕ). Writes outcome t before after) makes.0 written;
}
text-by_records (Ok (quiet (Restore name))) text outcome files opened before after of written makes = absurd makes
text-by_records (Ok (quiet (Drop name))) text outcome files opened before after of written makes = record {
  no_session = λ is. absurd (of.loud (subst IsSilent (sym is) tt));
  absent = λ none. absurd (makes.absent none);
  found = found-text outcome name before after (string_bytes text) of written (places_named opened.book.sessions name) makes.found;
}
text-by_records (Ok (quiet Refs)) text outcome files opened before after of written makes = record {
  answer = of.ends Done refl;
  written = subst (λ (t : List ℕ). Writes outcome t before after) makes.0 written;
}
text-by_records (Ok (quiet Audit)) text outcome files opened before after of written makes =
    subst (λ (t : List ℕ). Writes outcome t before after) makes written
text-by_records (Ok (Ingest name how)) text outcome files opened before after of written makes = tt
text-by_records (Ok (Bulk seed blocks how)) text outcome files opened before after of written makes = tt

refusal-by_records : (command : Result Command Refusal) (refused : Outcome) (files : File → List ℕ)
    (opened : Opened) (written : Option (List ℕ)) → Unmade refused
    → MakesByRecords command (Err refused) opened → GoesByRecords command refused files opened written written
refusal-by_records (Err bad) refused files opened written unmade makes = tt
refusal-by_records (Ok (quiet (Plan raw workers segment))) refused files opened written unmade makes = tt
refusal-by_records (Ok (quiet (Init raw))) refused files opened written unmade makes = tt
refusal-by_records (Ok (quiet ListSessions)) refused files opened written unmade makes = record {
  answer = ends_broken Done refused makes.1;
  written = unmade.writes (list_text (rows_of_book opened.book)) written;
}
refusal-by_records (Ok (quiet (Restore name))) refused files opened written unmade makes = absurd makes
refusal-by_records (Ok (quiet (Drop name))) refused files opened written unmade makes = record {
  no_session = λ is. makes.no_session (err-of refused is);
  absent = makes.absent;
  found = found-refused refused name written unmade (places_named opened.book.sessions name) makes.found;
}
refusal-by_records (Ok (quiet Refs)) refused files opened written unmade makes = record {
  answer = ends_broken Done refused makes.1;
  written = unmade.writes (refs_text (reference_rows_of_book opened.book)) written;
}
refusal-by_records (Ok (quiet Audit)) refused files opened written unmade makes =
    unmade.writes (audit_text (counts_of_book opened.book)) written
refusal-by_records (Ok (Ingest name how)) refused files opened written unmade makes = tt
refusal-by_records (Ok (Bulk seed blocks how)) refused files opened written unmade makes = tt

pub always-told : (P : (File → List ℕ) → Type 0) (Q : Type 0) (told : Option (File → List ℕ)) → Q
    → IfSome told (λ files. P files → Q)
always-told P Q None holds = tt
always-told P Q (Some files) holds = λ opens. holds

pub no_records : (P : (File → List ℕ) → Type 0) (told : Option (File → List ℕ)) → IfSome told (λ files. P files → ⊤)
no_records P None = tt
no_records P (Some files) = λ opens. tt

early-done : (outcome : Outcome) → outcome ≡ Done → IsEarly outcome → ⊥
early-done outcome done early = subst IsEarly done early

module _ {K F : Type 0} (pass : Option State → Pass) (command : Result Command Refusal) (outcome : Outcome)
    (written_to : K → Option (List ℕ)) (write_faults : K → ℕ) (sink_faultless : K → Type 0) (sink_before sink_after : K)
    (files_of : F → Option (File → List ℕ)) (loose : F → File → Bool) (shelf_faults : F → ℕ)
    (shelf_faultless : F → Type 0) (shelf_before shelf_after : F) where
  -- a command that writes at once leaves the sink if it is broken off, and if it made no text
  abbrev pub LeavesSinkAtOnce : Made → Type 0
  LeavesSinkAtOnce made =
      (ending : Outcome) (sink : K) → (IsBrokenOff ending → sink ≡ sink_before) → OnErr made (sink ≡ sink_before)
      → LeavesSink command ending (files_of shelf_before) sink_before sink

  -- the run of a command that made no text, so that the sink was not called
  not_made : (refused : Outcome) → Unmade refused → LeavesSinkAtOnce (Err refused)
      → MakesText pass command (Err refused) files_of loose shelf_faults shelf_faultless shelf_before shelf_after
      → IsCarriedOut pass command refused written_to write_faults sink_faultless sink_before sink_before
      files_of loose shelf_faults shelf_faultless shelf_before shelf_after
  not_made refused unmade leaves makes = record {
    on_state = λ state needs.
        let is = makes.on_state state needs in record {
          answer = is.0;
          refused = is.1;
          written = unmade.writes (pass state).text (written_to sink_before);
          nothing_to_write = λ _. refl;
        };
    held = makes.held;
    sink_counts = uncalled _ write_faults sink_faultless sink_before unmade.sink;
    shelf_counts = counted_as _ _ shelf_faults shelf_faultless shelf_before shelf_after (err-of refused) makes.counts;
    clean = λ done. absurd (unmade.undone done);
    among = makes.among refused refl;
    silent = λ _. refl;
    sink = leaves refused sink_before (λ broken. refl) refl;
    shelf = makes.shelf refused refl;
    verdict = makes.verdict refused refl;
    by_records = λ opened. records-told (files_of shelf_before) (MakesByRecords command (Err refused)) (λ files o. OpenAs files o)
        (λ files o. GoesByRecords command refused files o (written_to sink_before) (written_to sink_before))
        (λ files o. refusal-by_records command refused files o (written_to sink_before) unmade)
        opened (makes.by_records opened);
  }

  pub carried_out : (made : Made) → LeavesSinkAtOnce made
      → MakesText pass command made files_of loose shelf_faults shelf_faultless shelf_before shelf_after
      → WritesMade made outcome written_to write_faults sink_faultless sink_before sink_after
      → IsCarriedOut pass command outcome written_to write_faults sink_faultless sink_before sink_after
      files_of loose shelf_faults shelf_faultless shelf_before shelf_after
  carried_out (Ok text) leaves makes writes =
      let of = of_write outcome writes.ends in record {
        on_state = λ state needs.
            let is = makes.on_state state needs in record {
              answer = of.ends (pass state).outcome is.0;
              refused = λ early. absurd (early-done (pass state).outcome is.0 early);
              written = subst (λ (t : List ℕ). Writes outcome t (written_to sink_before) (written_to sink_after))
                  (sym is.1) writes.written;
              nothing_to_write = λ empty. writes.nothing_to_write (sym is.1 ∙ empty);
            };
        held = λ state held. held-after outcome of (files_of shelf_after) state (pass state).after (makes.held state held);
        sink_counts = writes.counts;
        shelf_counts = counted_as _ _ shelf_faults shelf_faultless shelf_before shelf_after
            (λ is. absurd (of.shelf is)) makes.counts;
        clean = λ done. makes.clean;
        among = makes.among outcome writes.ends;
        silent = λ silent. absurd (of.loud silent);
        sink = leaves outcome sink_after (λ broken. absurd (of.whole broken)) tt;
        shelf = makes.shelf outcome writes.ends;
        verdict = makes.verdict outcome writes.ends;
        by_records = λ opened. records-told (files_of shelf_before) (MakesByRecords command (Ok text)) (λ files o. OpenAs files o)
            (λ files o. GoesByRecords command outcome files o (written_to sink_before) (written_to sink_after))
            (λ files o. text-by_records command text outcome files o (written_to sink_before) (written_to sink_after) of writes.written)
            opened (makes.by_records opened);
      }
  carried_out (Err refused) leaves makes writes = subst
      (λ (sink : K). IsCarriedOut pass command outcome written_to write_faults sink_faultless sink_before sink
      files_of loose shelf_faults shelf_faultless shelf_before shelf_after) (sym writes.unwritten)
      (subst
      (λ (o : Outcome). IsCarriedOut pass command o written_to write_faults sink_faultless sink_before sink_before
      files_of loose shelf_faults shelf_faultless shelf_before shelf_after) (sym writes.ends)
      (not_made refused (unmade_of refused makes.unmade) leaves makes))

  -- ---- a command that reads nothing

  pub without_source : {R : Type 0} (left : R → Option (List ℕ)) (read_faults : R → ℕ) (source_faultless : R → Type 0)
      (source : R) → (outcome ≡ SourceFault → ⊥) → LeavesSource command outcome left (files_of shelf_before) source source sink_before sink_after
      → ((opened : Opened) (input : List ℕ) → TakesByRecords command outcome opened input)
      → IsCarriedOut pass command outcome written_to write_faults sink_faultless sink_before sink_after
      files_of loose shelf_faults shelf_faultless shelf_before shelf_after
      → IsRun (λ state input. pass state) command outcome left read_faults source_faultless source source
      written_to write_faults sink_faultless sink_before sink_after
      files_of loose shelf_faults shelf_faultless shelf_before shelf_after
  without_source left read_faults source_faultless source never leaves takes carried =
      let some = some_input (left source) in record {
        on_some_input = (some.0, some.1, carried, λ opened. always-told _ _ (files_of shelf_before) (takes opened some.0));
        source_counts = uncalled _ read_faults source_faultless source never;
        untouched = λ _. refl;
        source = leaves;
      }

-- ---- clean files

-- files that have not changed are as clean as they were
pub stay_clean : (before after : Option (File → List ℕ)) (state next : Option State) → after ≡ before → next ≡ state
    → StayClean before after state next
stay_clean None after state next files same = tt
stay_clean (Some had) after state next files same = λ clean. subst
    (λ (told : Option (File → List ℕ)). IfSome told (λ f. AreClean sha256 f next)) (sym files)
    (subst (AreClean sha256 had) (sym same) clean)

pub on_ok : (P : Type 0) (made : Made) → P → OnOk made P
on_ok P (Ok text) holds = holds
on_ok P (Err refused) holds = tt

-- ---- words that name no command

pub held-told : (told : Option (File → List ℕ)) (state : Option State) (P : (File → List ℕ) → Type 0)
    → ((files : File → List ℕ) → Hold sha256 files state → P files) → AreHeld told state → IfSome told P
held-told None state P all held = absurd held
held-told (Some files) state P all held = all files held.1

pub bad_words : {R K F : Type 0} (bad : Refusal)
    (left : R → Option (List ℕ)) (read_faults : R → ℕ) (source_faultless : R → Type 0) (source : R)
    (written_to : K → Option (List ℕ)) (write_faults : K → ℕ) (sink_faultless : K → Type 0) (sink : K)
    (files_of : F → Option (File → List ℕ)) (loose : F → File → Bool) (shelf_faults : F → ℕ)
    (shelf_faultless : F → Type 0) (shelf : F)
    → IsRun (pass_of (Err bad)) (Err bad) (BadWords bad) left read_faults source_faultless source source
    written_to write_faults sink_faultless sink sink files_of loose shelf_faults shelf_faultless shelf shelf
bad_words bad left read_faults source_faultless source written_to write_faults sink_faultless sink files_of loose
    shelf_faults shelf_faultless shelf =
    without_source (λ state. refusal state (BadWords bad)) (Err bad) (BadWords bad) written_to write_faults
    sink_faultless sink sink files_of loose shelf_faults shelf_faultless shelf shelf
    left read_faults source_faultless source (λ clash. absurd cc) refl (λ opened input. tt)
    (record {
      on_state = λ state _. record {
        answer = refl;
        refused = λ _. refl;
        written = refl;
        nothing_to_write = λ _. refl;
      };
      held = λ state held. held-told (files_of shelf) state (LeavesStore (BadWords bad) state state)
          (λ files holds. holds) held;
      sink_counts = uncalled _ write_faults sink_faultless sink (λ clash. absurd cc);
      shelf_counts = uncalled _ shelf_faults shelf_faultless shelf (λ clash. absurd cc);
      clean = λ clash. absurd cc;
      among = refl;
      silent = λ _. refl;
      sink = refl;
      shelf = refl;
      verdict = tt;
      by_records = λ opened. no_records _ (files_of shelf);
    })
