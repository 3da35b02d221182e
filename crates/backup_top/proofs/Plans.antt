-- A run of `plan`: its text is made from the input alone, and no file is touched.
use Rattle.std.proofs.Common.{◌≡◌, inl, inr, ℕ, ◌+◌, ◌<◌, ◌≤◌, drop, ltb, Bool, List, [], ◌∷◌, ◌++◌, length, refl, ap, sym, subst, ◌∙◌, arith}
use Rattle.std.specs.Prelude.{Err, IfErr, IfSome, option_map, MatchOption, None, Ok, Option, Result, Some, String, string_bytes}
use Rattle.std.specs.declared.alloc.Global.{Global}
use Rattle.std.proofs.lemmas.Bool.{cases_Bool, lt-ltb}
use Rattle.sha2.specs.Sha256.{sha256}
use Rattle.edge_traits.specs.Faults.{Rose}
use Rattle.edge_traits.specs.declared.source_reader.ReadFault.{ReadFault}
use Rattle.edge_traits.specs.declared.source_reader.ReadFault.TheVariants as read
use Rattle.edge_traits.specs.Source.{IsAtEnd, LosesAtMost}
use Rattle.sd_base.specs.OnePass.{Pass, pass_of_plan, pass_of_valid_plan, refusal, success}
use Rattle.sd_base.specs.Parameters.{bad_parameter}
use Rattle.sd_base.specs.States.{State}
use Rattle.sd_base.specs.Stores.{Hold}
use Rattle.sd_base.specs.Texts.{plan_line, plan_lines}
use Rattle.ingest_core.specs.Ingests.{IsInputOf}
use Rattle.ingest_core.specs.Plans.{lines_of}
use Rattle.store_core.specs.Shelves.{CountsFaults}
use Rattle.backup_top.specs.Lines.{printed_lines}
use Rattle.sd_base.specs.declared.file.File.{File}
use Rattle.sd_base.specs.declared.limits.TheConstants.{MAX_INPUT}
use Rattle.sd_base.specs.declared.params.BadParams.{BadParams as BadParameter}
use Rattle.sd_base.specs.declared.raw_params.RawParams.{RawParams}
use Rattle.sd_base.specs.declared.words.Command.TheVariants.{Quiet as quiet}
use Rattle.sd_base.specs.declared.words.Quiet.TheVariants.{Plan}
use Rattle.sd_base.specs.declared.outcome.Outcome.{Outcome}
use Rattle.sd_base.specs.declared.outcome.Outcome.TheVariants.{Done, BadWords, BadParams, NoStore, StoreThere, NameTaken, NoSession, Damaged, InputTooLong, TooManySessions, TooManyPlaces, TooManyChunks, SourceFault, SinkFault, ShelfFault, OutOfMemory}
use Rattle.backup_top.specs.Outcomes.{IsAfterReading, IsEarly, IsOneOf, LeavesStore}
use Rattle.backup_top.specs.Run.{IsRun, MayReturn, ReadsInput}
use Rattle.backup_top.specs.Steps.{IsOfPlan, IsUnmade, Made, MakesPlan, MakesStoreOf, MakesText, MakesTextOf, MayEnd, WritesMade}
use Rattle.ingest_core.proofs.Inputs.{long_input, some_input}
use Rattle.backup_top.proofs.Runs.{carried_out, counted_as, err-of, held-told, in-err, no_records, of_write, on_ok, stay_clean, uncalled}

-- ---- the text

-- the lines of chunks are printed as the text of a plan
pub print_lines : (offset : ℕ) (chunks : List (List ℕ)) → printed_lines (lines_of sha256 offset chunks) ≡ plan_lines offset chunks
print_lines offset [] = refl
print_lines offset (chunk ∷ chunks) = ap (λ rest. plan_line offset chunk ++ rest) (print_lines (offset + length chunk) chunks)

-- an input that is too long is refused
pub too_long : (params : RawParams) (state : Option State) (input : List ℕ) → MAX_INPUT < length input
    → pass_of_valid_plan params state input ≡ refusal state InputTooLong
too_long params state input long = rw (lt-ltb MAX_INPUT (length input) long) refl

-- valid parameters are not refused
pub not_early : (params : RawParams) (state : Option State) (input : List ℕ)
    → IsEarly (pass_of_valid_plan params state input).outcome → ⊥
not_early params state input early = elim (cases_Bool (ltb MAX_INPUT (length input))) [
  | inl long ↦ absurd (rw long at early)
  | inr fits ↦ absurd (rw fits at early)
]

-- the text of a pass that is done was made
pub makes_text : (pass : Pass) (state : Option State) (text : String Global) → pass ≡ success state (string_bytes text)
    → MakesTextOf pass (Ok text)
makes_text pass state text same = (ap (λ (p : Pass). p.outcome) same, ap (λ (p : Pass). p.text) same)

-- the refusal of a pass
pub refuses_long : (params : RawParams) (state : Option State) (input : List ℕ) → MAX_INPUT < length input
    → MakesTextOf (pass_of_valid_plan params state input) (Err InputTooLong)
refuses_long params state input long = (
  sym (ap (λ (p : Pass). p.outcome) (too_long params state input long)),
  λ early. absurd (not_early params state input early),
)

-- ---- the reading of an input

-- a run counts the faults of the source that it read
pub counts_of_reading : {R run call : Type 0} {faults : R → ℕ} {faultless : R → Type 0} {before after : R} → (run → call) →
    (call → Rose (faults before) (faults after)) → faults before ≤ faults after → (faultless before → call → ⊥) →
    (faultless before → faults after ≡ faults before) → (faultless before → faultless after) →
    CountsFaults run faults faultless before after
counts_of_reading only failed never_falls serves none stays = record {
  failed = λ is. failed (only is);
  never_falls = never_falls;
  faultless_serves = λ still is. serves still (only is);
  faultless_counts_none = none;
  stays_faultless = stays;
}

pub ok-not : {T E : Type 0} {x : T} {e : E} → ◌≡◌ {A = Result T E} (Ok x) (Err e) → ⊥
ok-not is = cc

pub memory-not-failed : {T : Type 0} (r : Result T ReadFault) → r ≡ Err read.OutOfMemory → r ≡ Err read.SourceFault → ⊥
memory-not-failed r gave is = cc

pub memory-not-long : {T : Type 0} (r : Result T ReadFault) → r ≡ Err read.OutOfMemory → r ≡ Err read.InputTooLong → ⊥
memory-not-long r gave is = cc

-- ---- the outcome of a plan with valid parameters, by how its text was made

module _ {R : Type 0} (params : RawParams) (left : R → Option (List ℕ)) (faults : R → ℕ) (faultless : R → Type 0)
    (before after : R) (call : Type 0) (counts : CountsFaults call faults faultless before after)
    (most : LosesAtMost (MAX_INPUT + 1) (left before) (left after)) where
  pub plan_made : (text : String Global) → ((input : List ℕ) × IsInputOf (left before) input
      × ((state : Option State) → pass_of_valid_plan params state input ≡ success state (string_bytes text))) →
      IsAtEnd (left after) → IfSome (left before) (λ input. length input ≤ MAX_INPUT) →
      MakesPlan None (pass_of_valid_plan params) (Ok text) left faults faultless before after
  plan_made text made at_end fits = record {
    on_some_input = (made.0, made.1, λ state. makes_text _ state text (made.2 state));
    only = tt;
    flawed = λ kind clash. absurd cc;
    sound = λ _. tt;
    counts = counted_as _ _ _ _ _ _ (λ clash. absurd cc) counts;
    untouched = tt;
    whole_input = at_end;
    taken_at_most = most;
    taken = λ clash. absurd cc;
    too_long = λ clash. absurd cc;
    fits = fits;
  }

  pub plan_unread : call → MakesPlan None (pass_of_valid_plan params) (Err SourceFault) left faults faultless before after
  plan_unread failed =
      let some = some_input (left before) in
      record {
        on_some_input = (some.0, some.1, λ state. (tt, λ early. absurd (not_early params state some.0 early)));
        only = tt;
        flawed = λ kind clash. absurd cc;
        sound = λ _. inr (inr (inl refl));
        counts = counted_as _ _ _ _ _ _ (λ same. failed) counts;
        untouched = λ early. absurd early;
        whole_input = tt;
        taken_at_most = most;
        taken = λ clash. absurd cc;
        too_long = λ clash. absurd cc;
        fits = tt;
      }

  pub plan_too_long : IfSome (left before) (λ input. MAX_INPUT < length input) →
      left after ≡ option_map (λ input. drop (MAX_INPUT + 1) input) (left before) →
      MakesPlan None (pass_of_valid_plan params) (Err InputTooLong) left faults faultless before after
  plan_too_long too_long taken =
      let long = long_input (left before) too_long in
      record {
        on_some_input = (long.0, long.1, λ state. refuses_long params state long.0 long.2);
        only = tt;
        flawed = λ kind clash. absurd cc;
        sound = λ _. inr (inl refl);
        counts = counted_as _ _ _ _ _ _ (λ clash. absurd cc) counts;
        untouched = λ early. absurd early;
        whole_input = tt;
        taken_at_most = most;
        taken = λ same. taken;
        too_long = λ same. too_long;
        fits = tt;
      }

  pub plan_no_memory : MakesPlan None (pass_of_valid_plan params) (Err OutOfMemory) left faults faultless before after
  plan_no_memory =
      let some = some_input (left before) in
      record {
        on_some_input = (some.0, some.1, λ state. (tt, λ early. absurd (not_early params state some.0 early)));
        only = tt;
        flawed = λ kind clash. absurd cc;
        sound = λ _. inl refl;
        counts = counted_as _ _ _ _ _ _ (λ clash. absurd cc) counts;
        untouched = λ early. absurd early;
        whole_input = tt;
        taken_at_most = most;
        taken = λ clash. absurd cc;
        too_long = λ clash. absurd cc;
        fits = tt;
      }

-- the numbers of valid parameters are those that the command has
pub pass_for_numbers : (P : Option BadParameter → (Option State → List ℕ → Pass) → Type 0) (raw valid : RawParams)
    → None ≡ bad_parameter raw → valid ≡ raw → P None (λ state input. pass_of_valid_plan valid state input)
    → P (bad_parameter raw) (λ state input. pass_of_plan (bad_parameter raw) raw state input)
pass_for_numbers P raw valid none same holds =
    let at_raw : P None (λ state input. pass_of_valid_plan raw state input) =
    subst (λ (numbers : RawParams). P None (λ state input. pass_of_valid_plan numbers state input)) same holds in
    subst (λ (kind : Option BadParameter). P kind (λ state input. pass_of_plan kind raw state input)) none at_raw

some-in : BadParameter → Option BadParameter → BadParameter
some-in other None = other
some-in other (Some kind) = kind

in-some : {kind other : BadParameter} → ◌≡◌ {A = Option BadParameter} (Some kind) (Some other) → kind ≡ other
unfolding some-in
in-some {kind = kind} same = ap (some-in kind) same

nothing_lost : (left : Option (List ℕ)) → LosesAtMost (MAX_INPUT + 1) left left
nothing_lost None = (0, omega arith, refl)
nothing_lost (Some held) = (0, omega arith, refl)

-- a parameter that is out of its range is refused, and the source is not called
pub refuses_parameter : {R : Type 0} (kind : BadParameter) (raw : RawParams) (left : R → Option (List ℕ)) (faults : R → ℕ)
    (faultless : R → Type 0) (source : R)
    → MakesPlan (Some kind) (pass_of_plan (Some kind) raw) (Err (BadParams kind)) left faults faultless source source
refuses_parameter kind raw left faults faultless source =
    let some = some_input (left source) in record {
      on_some_input = (some.0, some.1, λ state. (refl, λ early. refl));
      only = tt;
      flawed = λ other same. ap (λ (k : BadParameter). let m : Made = Err (BadParams k) in m) (in-some same);
      sound = λ clash. absurd cc;
      counts = uncalled _ faults faultless source (λ clash. absurd cc);
      untouched = λ early. refl;
      whole_input = tt;
      taken_at_most = nothing_lost (left source);
      taken = λ clash. absurd cc;
      too_long = λ clash. absurd cc;
      fits = tt;
    }

-- ---- a refusal of `plan`

-- what holds of a refusal of `plan`
record OfPlan (outcome : Outcome) : Type 0 where
  pub unmade : IsUnmade outcome
  pub shelf : outcome ≡ ShelfFault → ⊥
  pub reading : IsAfterReading outcome → ⊥
  -- it leaves the store
  pub held : (state : Option State) (files : File → List ℕ) → Hold sha256 files state
      → LeavesStore outcome state state files

of_plan : (outcome : Outcome) → IsOfPlan outcome → OfPlan outcome
of_plan Done is = absurd is
of_plan (BadWords bad) is = absurd is
of_plan (BadParams kind) is = record {
  unmade = tt;
  shelf = λ clash. absurd cc;
  reading = λ no. no;
  held = λ state files holds. holds;
}
of_plan NoStore is = absurd is
of_plan StoreThere is = absurd is
of_plan NameTaken is = absurd is
of_plan NoSession is = absurd is
of_plan (Damaged damage) is = absurd is
of_plan InputTooLong is = record {
  unmade = tt;
  shelf = λ clash. absurd cc;
  reading = λ no. no;
  held = λ state files holds. holds;
}
of_plan TooManySessions is = absurd is
of_plan TooManyPlaces is = absurd is
of_plan TooManyChunks is = absurd is
of_plan SourceFault is = record {
  unmade = tt;
  shelf = λ clash. absurd cc;
  reading = λ no. no;
  held = λ state files holds. holds;
}
of_plan SinkFault is = absurd is
of_plan ShelfFault is = absurd is
of_plan OutOfMemory is = record {
  unmade = tt;
  shelf = λ clash. absurd cc;
  reading = λ no. no;
  held = λ state files holds. inl holds;
}

-- ---- a command that uses no store

-- `plan` leaves the state as it is
pub plan_leaves : (flaw : Option BadParameter) (raw : RawParams) (state : Option State) (input : List ℕ)
    → (pass_of_plan flaw raw state input).after ≡ state
plan_leaves (Some kind) raw state input = refl
plan_leaves None raw state input = elim (cases_Bool (ltb MAX_INPUT (length input))) [
  | inl long ↦ rw long refl
  | inr fits ↦ rw fits refl
]

-- the files that were not called still hold their state
plan-held : (made : Made) (state after : Option State) (files : File → List ℕ) → IfErr made IsOfPlan → after ≡ state
    → Hold sha256 files state → MakesStoreOf made state after files
plan-held (Ok text) state after files only same holds = subst (Hold sha256 files) (sym same) holds
plan-held (Err refused) state after files only same holds =
    subst (λ (s : Option State). LeavesStore refused state s files) (sym same) ((of_plan refused only).held state files holds)

plan-unmade : (made : Made) → IfErr made IsOfPlan → IfErr made IsUnmade
plan-unmade (Ok text) only = tt
plan-unmade (Err refused) only = (of_plan refused only).unmade

plan-shelf : (made : Made) → IfErr made IsOfPlan → made ≡ Err ShelfFault → ⊥
plan-shelf (Ok text) only clash = absurd cc
plan-shelf (Err refused) only clash = (of_plan refused only).shelf (in-err clash)

module _ {R F : Type 0} (raw : RawParams) (workers segment : ℕ) (made : Made)
    (left : R → Option (List ℕ)) (read_faults : R → ℕ) (source_faultless : R → Type 0) (source_before source_after : R)
    (files_of : F → Option (File → List ℕ)) (loose : F → File → Bool) (shelf_faults : F → ℕ)
    (shelf_faultless : F → Type 0) (shelf : F) where
  abbrev pub planned : Option State → List ℕ → Pass
  planned state input = pass_of_plan (bad_parameter raw) raw state input

  -- the outcomes that may follow
  plan_among : (flaw : Option BadParameter) (m : Made)
      → ((kind : BadParameter) → flaw ≡ Some kind → m ≡ Err (BadParams kind))
      → (flaw ≡ None → IfErr m (IsOneOf (OutOfMemory ∷ InputTooLong ∷ SourceFault ∷ []))) → (outcome : Outcome)
      → MayEnd m outcome → MatchOption flaw
      (IsOneOf (Done ∷ SinkFault ∷ OutOfMemory ∷ InputTooLong ∷ SourceFault ∷ []) outcome)
      (λ kind. outcome ≡ BadParams kind)
  plan_among None (Ok text) flawed sound outcome ends =
      (of_write outcome ends).among (InputTooLong ∷ SourceFault ∷ [])
  plan_among None (Err refused) flawed sound outcome ends =
      inr (inr (subst (IsOneOf (OutOfMemory ∷ InputTooLong ∷ SourceFault ∷ [])) (sym ends) (sound refl)))
  plan_among (Some kind) (Ok text) flawed sound outcome ends = absurd (let clash = flawed kind refl in cc)
  plan_among (Some kind) (Err refused) flawed sound outcome ends = ends ∙ in-err (flawed kind refl)

  plan_makes : (input : List ℕ) → ((state : Option State) → MakesTextOf (planned state input) made) → IfErr made IsOfPlan
      → ((outcome : Outcome) → MayEnd made outcome → MayReturn (Ok (quiet (Plan raw workers segment))) outcome)
      → MakesText (λ state. planned state input) (Ok (quiet (Plan raw workers segment))) made
      files_of loose shelf_faults shelf_faultless shelf shelf
  plan_makes input makes only among = record {
    on_state = λ state _. makes state;
    held = λ state held. held-told (files_of shelf) state (MakesStoreOf made state (planned state input).after)
        (λ files holds. plan-held made state (planned state input).after files only
        (plan_leaves (bad_parameter raw) raw state input) holds) held;
    clean = on_ok _ made (λ state held. stay_clean (files_of shelf) (files_of shelf) state (planned state input).after refl
        (plan_leaves (bad_parameter raw) raw state input));
    unmade = plan-unmade made only;
    among = among;
    counts = uncalled _ shelf_faults shelf_faultless shelf (plan-shelf made only);
    shelf = λ outcome ends. refl;
    verdict = λ outcome ends. tt;
    by_records = λ opened. no_records _ (files_of shelf);
  }

  module _ {K : Type 0} (outcome : Outcome) (written_to : K → Option (List ℕ)) (write_faults : K → ℕ)
      (sink_faultless : K → Type 0) (sink_before sink_after : K) where
    plan_counts : (m : Made) → MayEnd m outcome → outcome ≡ SourceFault → m ≡ Err SourceFault
    plan_counts (Ok text) ends is = absurd ((of_write outcome ends).source is)
    plan_counts (Err refused) ends is = err-of refused (sym ends ∙ is)

    plan_untouched : (m : Made) → MayEnd m outcome → IfErr m (λ refused. IsEarly refused → source_after ≡ source_before)
        → IsEarly outcome → source_after ≡ source_before
    plan_untouched (Ok text) ends untouched early = absurd ((of_write outcome ends).late early)
    plan_untouched (Err refused) ends untouched early = untouched (subst IsEarly ends early)

    plan_reads : (m : Made) → MakesPlan (bad_parameter raw) planned m left read_faults source_faultless source_before source_after
        → WritesMade m outcome written_to write_faults sink_faultless sink_before sink_after
        → ReadsInput outcome left source_before source_after sink_before sink_after
    plan_reads (Ok text) makes writes = record {
      whole_input = λ _. makes.whole_input;
      written_last = inr makes.whole_input;
      taken_at_most = makes.taken_at_most;
      taken = λ long. absurd ((of_write outcome writes.ends).fits long);
      too_long = λ long. absurd ((of_write outcome writes.ends).fits long);
      fits = λ _. makes.fits;
    }
    plan_reads (Err refused) makes writes = record {
      whole_input = λ after. absurd ((of_plan refused makes.only).reading (subst IsAfterReading writes.ends after));
      written_last = inl writes.unwritten;
      taken_at_most = makes.taken_at_most;
      taken = λ long. makes.taken (err-of refused (sym writes.ends ∙ long));
      too_long = λ long. makes.too_long (err-of refused (sym writes.ends ∙ long));
      fits = λ after. absurd ((of_plan refused makes.only).reading (subst IsAfterReading writes.ends after));
    }

    -- a plan is made and written, and the shelf is not called
    pub plan_runs : MakesPlan (bad_parameter raw) planned made left read_faults source_faultless source_before source_after
        → WritesMade made outcome written_to write_faults sink_faultless sink_before sink_after
        → IsRun planned (Ok (quiet (Plan raw workers segment))) outcome
        left read_faults source_faultless source_before source_after
        written_to write_faults sink_faultless sink_before sink_after
        files_of loose shelf_faults shelf_faultless shelf shelf
    plan_runs makes writes =
        let input = makes.on_some_input.0 in record {
          on_some_input = (
            input,
            makes.on_some_input.1,
            carried_out (λ state. planned state input) (Ok (quiet (Plan raw workers segment))) outcome
                written_to write_faults sink_faultless sink_before sink_after
                files_of loose shelf_faults shelf_faultless shelf shelf made
                (λ ending sink leaves unmade. leaves)
                (plan_makes input makes.on_some_input.2 makes.only
                (plan_among (bad_parameter raw) made makes.flawed makes.sound)) writes,
            λ opened. no_records _ (files_of shelf),
          );
          source_counts = counted_as _ _ read_faults source_faultless source_before source_after
              (plan_counts made writes.ends) makes.counts;
          untouched = plan_untouched made writes.ends makes.untouched;
          source = plan_reads made makes writes;
        }
