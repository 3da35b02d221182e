-- A run over devices in memory, of which the source and the sink do not fail.
use Rattle.std.proofs.Common.{◌≡◌, ◌≢◌, inl, inr, ℕ, List, [], length, refl, ap, sym, subst, ◌∙◌, arith}
use Rattle.std.proofs.lemmas.List.{take_all}
use Rattle.std.specs.Prelude.{Err, None, Ok, Option, Result, Some}
use Rattle.sha2.specs.Sha256.{sha256}
use Rattle.sd_base.specs.OnePass.{Pass, pass_of, refusal}
use Rattle.sd_base.specs.States.{State}
use Rattle.sd_base.specs.Stores.{Hold}
use Rattle.sd_base.specs.declared.file.File.{File}
use Rattle.sd_base.specs.declared.outcome.Outcome.{Outcome}
use Rattle.sd_base.specs.declared.outcome.Outcome.TheVariants.{Done, BadWords, BadParams, NoStore, StoreThere, NameTaken, NoSession, Damaged, InputTooLong, TooManySessions, TooManyPlaces, TooManyChunks, SourceFault, SinkFault, ShelfFault, OutOfMemory}
use Rattle.sd_base.specs.declared.words.BadWords.{BadWords as Refusal}
use Rattle.sd_base.specs.declared.words.Command.{Command}
use Rattle.sd_base.specs.declared.words.Command.TheVariants.{Quiet as quiet, Ingest, Bulk}
use Rattle.sd_base.specs.declared.words.Quiet.TheVariants.{Plan, Init, List as ListSessions, Restore, Drop, Refs, Audit}
use Rattle.sd_base.proofs.Passes.{state-stays}
use Rattle.backup_top.specs.InMemory.{EndsInMemory, IsPass, WritesPrefix}
use Rattle.backup_top.specs.Outcomes.{EndsAs, LeavesStore, Writes}
use Rattle.backup_top.specs.Run.{AreHeld, NeedsHeld}

-- files that hold a state are all that a run may need
pub needs_held : (command : Result Command Refusal) (files : Option (File → List ℕ)) (state : Option State)
    → AreHeld files state → NeedsHeld command files state
needs_held (Err bad) files state held = tt
needs_held (Ok (quiet (Plan raw workers segment))) files state held = tt
needs_held (Ok (quiet (Init raw))) files state held = λ valid. held
needs_held (Ok (quiet ListSessions)) files state held = held
needs_held (Ok (quiet (Restore name))) files state held = held
needs_held (Ok (quiet (Drop name))) files state held = held
needs_held (Ok (quiet Refs)) files state held = held
needs_held (Ok (quiet Audit)) files state held = held
needs_held (Ok (Ingest name how)) files state held = held
needs_held (Ok (Bulk seed blocks how)) files state held = held

some-in : List ℕ → Option (List ℕ) → List ℕ
some-in other None = other
some-in other (Some bytes) = bytes

told : {x y : List ℕ} → ◌≡◌ {A = Option (List ℕ)} (Some x) (Some y) → x ≡ y
unfolding some-in
told {x = x} same = ap (some-in x) same

module _ (pass : Pass) (state : Option State) (written : List ℕ) (files : File → List ℕ) (faultless : Type 0)
    (stays : pass.outcome ≢ Done → pass ≡ refusal state pass.outcome) where
  -- a refusal prints nothing and leaves the state
  refused : (ending : Outcome) → ending ≢ Done → ending ≡ pass.outcome → Some written ≡ Some []
      → Hold sha256 files state → IsPass pass ending written files
  refused ending not_done is wrote holds =
      let same = stays (λ done. not_done (is ∙ done)) in record {
        outcome_is = is;
        text_is = told wrote ∙ sym (ap (λ (p : Pass). p.text) same);
        held = subst (Hold sha256 files) (sym (ap (λ (p : Pass). p.after) same)) holds;
      }

  done : Done ≡ pass.outcome → Some written ≡ Some pass.text → Hold sha256 files pass.after → IsPass pass Done written files
  done is wrote holds = record { outcome_is = is; text_is = told wrote; held = holds }

  -- a run whose source and sink do not fail
  pub ends_in_memory : (ending : Outcome) → EndsAs pass.outcome ending → (ending ≡ SourceFault → ⊥) → (ending ≡ SinkFault → ⊥)
      → (ending ≡ ShelfFault → faultless → ⊥) → Writes ending pass.text (Some []) (Some written)
      → LeavesStore ending state pass.after files → EndsInMemory pass ending written files faultless
  ends_in_memory Done ends source sink shelf wrote holds = inl (done ends wrote holds)
  ends_in_memory (BadWords bad) ends source sink shelf wrote holds = inl (refused (BadWords bad) (λ clash. absurd cc) ends wrote holds)
  ends_in_memory (BadParams kind) ends source sink shelf wrote holds = inl (refused (BadParams kind) (λ clash. absurd cc) ends wrote holds)
  ends_in_memory NoStore ends source sink shelf wrote holds = inl (refused NoStore (λ clash. absurd cc) ends wrote holds)
  ends_in_memory StoreThere ends source sink shelf wrote holds = inl (refused StoreThere (λ clash. absurd cc) ends wrote holds)
  ends_in_memory NameTaken ends source sink shelf wrote holds = inl (refused NameTaken (λ clash. absurd cc) ends wrote holds)
  ends_in_memory NoSession ends source sink shelf wrote holds = inl (refused NoSession (λ clash. absurd cc) ends wrote holds)
  ends_in_memory (Damaged flaw) ends source sink shelf wrote holds = inl (refused (Damaged flaw) (λ clash. absurd cc) ends wrote holds)
  ends_in_memory InputTooLong ends source sink shelf wrote holds = inl (refused InputTooLong (λ clash. absurd cc) ends wrote holds)
  ends_in_memory TooManySessions ends source sink shelf wrote holds = inl (refused TooManySessions (λ clash. absurd cc) ends wrote holds)
  ends_in_memory TooManyPlaces ends source sink shelf wrote holds = inl (refused TooManyPlaces (λ clash. absurd cc) ends wrote holds)
  ends_in_memory TooManyChunks ends source sink shelf wrote holds = inl (refused TooManyChunks (λ clash. absurd cc) ends wrote holds)
  ends_in_memory SourceFault ends source sink shelf wrote holds = absurd (source refl)
  ends_in_memory SinkFault ends source sink shelf wrote holds = absurd (sink refl)
  ends_in_memory ShelfFault ends source sink shelf wrote holds = inr (inr (refl, shelf refl))
  ends_in_memory OutOfMemory ends source sink shelf wrote holds = inr (inl refl)

  -- whatever the outcome, a prefix of the text was written
  pub writes_prefix : (ending : Outcome) → Writes ending pass.text (Some []) (Some written) → WritesPrefix pass written
  writes_prefix Done wrote = (length pass.text, told wrote ∙ sym (take_all (length pass.text) pass.text (omega arith)))
  writes_prefix (BadWords bad) wrote = (0, told wrote)
  writes_prefix (BadParams kind) wrote = (0, told wrote)
  writes_prefix NoStore wrote = (0, told wrote)
  writes_prefix StoreThere wrote = (0, told wrote)
  writes_prefix NameTaken wrote = (0, told wrote)
  writes_prefix NoSession wrote = (0, told wrote)
  writes_prefix (Damaged flaw) wrote = (0, told wrote)
  writes_prefix InputTooLong wrote = (0, told wrote)
  writes_prefix TooManySessions wrote = (0, told wrote)
  writes_prefix TooManyPlaces wrote = (0, told wrote)
  writes_prefix TooManyChunks wrote = (0, told wrote)
  writes_prefix SourceFault wrote = (0, told wrote)
  writes_prefix SinkFault wrote = (wrote.0, told wrote.2)
  writes_prefix ShelfFault wrote = (wrote.0, told wrote.2)
  writes_prefix OutOfMemory wrote = (wrote.0, told wrote.2)

-- the same of the command of words
pub stays_of : (command : Result Command Refusal) (state : Option State) (input : List ℕ)
    → (pass_of command state input).outcome ≢ Done
    → pass_of command state input ≡ refusal state (pass_of command state input).outcome
stays_of command state input refused = state-stays command state input refused
