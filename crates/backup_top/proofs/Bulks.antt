-- A run of `bulk`: an ingest from a source that makes its bytes, which never fails and whose bytes are
-- not too many.
use Rattle.std.proofs.Common.{◌≡◌, inl, inr, ℕ, ◌<◌, Bool, List, length, refl, ap, sym, ◌∙◌, arith}
use Rattle.std.specs.Prelude.{Err, IfSome, Ok, Option}
use Rattle.sd_base.specs.Commands.{AreBlocks}
use Rattle.sd_base.specs.Generator.{bulk_input, bulk_name}
use Rattle.sd_base.specs.OnePass.{Pass, in_store, pass_of_ingest}
use Rattle.sd_base.specs.Opening.{OpenAs, Opened}
use Rattle.sd_base.specs.States.{State}
use Rattle.sd_base.specs.declared.file.File.{File}
use Rattle.sd_base.specs.declared.how.How.{How}
use Rattle.sd_base.specs.declared.limits.TheConstants.{MAX_INPUT}
use Rattle.sd_base.specs.declared.outcome.Outcome.{Outcome}
use Rattle.sd_base.specs.declared.outcome.Outcome.TheVariants.{SourceFault, InputTooLong}
use Rattle.sd_base.specs.declared.words.Command.TheVariants.{Bulk, Ingest}
use Rattle.sd_base.proofs.Generator.{bulk_input-fits}
use Rattle.backup_top.specs.Run.{IsRun, MayReturn}
use Rattle.backup_top.specs.Steps.{Made, MakesText, MayEnd, TakesByBook, WritesMade}
use Rattle.ingest_core.proofs.Inputs.{some_input}
use Rattle.backup_top.proofs.Ingests.{by_records-told}
use Rattle.backup_top.proofs.Runs.{carried_out, err-of, of_write, uncalled}
use Rattle.backup_top.proofs.Unread.{bulk_unread}

module _ (seed blocks : ℕ) (how : How) where
  abbrev Pass-of : Option State → Pass
  Pass-of state = in_store (pass_of_ingest (bulk_name seed blocks) (bulk_input seed blocks)) state

  -- an outcome of an ingest that is no fault of a source and no input that is too long
  among : (name : List ℕ) (outcome : Outcome) → MayReturn (Ok (Ingest name how)) outcome
      → (outcome ≡ SourceFault → ⊥) → (outcome ≡ InputTooLong → ⊥) → MayReturn (Ok (Bulk seed blocks how)) outcome
  among name outcome (inl (inl is)) read short = inl (inl is)
  among name outcome (inl (inr (inl is))) read short = inl (inr (inl is))
  among name outcome (inl (inr (inr (inl is)))) read short = inl (inr (inr (inl is)))
  among name outcome (inl (inr (inr (inr (inl is))))) read short = inl (inr (inr (inr (inl is))))
  among name outcome (inl (inr (inr (inr (inr (inl is)))))) read short = inl (inr (inr (inr (inr (inl is)))))
  among name outcome (inl (inr (inr (inr (inr (inr (inl is))))))) read short = inl (inr (inr (inr (inr (inr (inl is))))))
  among name outcome (inl (inr (inr (inr (inr (inr (inr (inl is)))))))) read short =
      inl (inr (inr (inr (inr (inr (inr (inl is)))))))
  among name outcome (inl (inr (inr (inr (inr (inr (inr (inr (inl is))))))))) read short = absurd (read is)
  among name outcome (inl (inr (inr (inr (inr (inr (inr (inr (inr (inl is)))))))))) read short = absurd (short is)
  among name outcome (inl (inr (inr (inr (inr (inr (inr (inr (inr (inr rest)))))))))) read short =
      inl (inr (inr (inr (inr (inr (inr (inr rest)))))))
  among name outcome (inr found) read short = inr found

  module _ {F : Type 0} (files_of : F → Option (File → List ℕ)) (loose : F → File → Bool) (faults : F → ℕ)
      (faultless : F → Type 0) (before after : F) where
    among-made : (made : Made) → (made ≡ Err SourceFault → ⊥) → (made ≡ Err InputTooLong → ⊥)
        → ((outcome : Outcome) → MayEnd made outcome → MayReturn (Ok (Ingest (bulk_name seed blocks) how)) outcome)
        → (outcome : Outcome) → MayEnd made outcome → MayReturn (Ok (Bulk seed blocks how)) outcome
    among-made (Ok text) read short may outcome ends =
        let of = of_write outcome ends in among (bulk_name seed blocks) outcome (may outcome ends) of.source of.fits
    among-made (Err refused) read short may outcome ends =
        among (bulk_name seed blocks) outcome (may outcome ends)
        (λ is. read (err-of refused (sym ends ∙ is))) (λ is. short (err-of refused (sym ends ∙ is)))

    -- what an ingest of this input makes is what `bulk` makes
    pub bulk_made : (made : Made) → (made ≡ Err SourceFault → ⊥) → (made ≡ Err InputTooLong → ⊥)
        → MakesText Pass-of (Ok (Ingest (bulk_name seed blocks) how)) made files_of loose faults faultless before after
        → MakesText Pass-of (Ok (Bulk seed blocks how)) made files_of loose faults faultless before after
    bulk_made made read short makes = record {
      on_state = makes.on_state;
      held = makes.held;
      clean = makes.clean;
      unmade = makes.unmade;
      among = among-made made read short makes.among;
      counts = makes.counts;
      shelf = makes.shelf;
      verdict = makes.verdict;
      by_records = makes.by_records;
    }

  -- the input is made and taken in, and the text is written
  pub bulk_runs : {R K F : Type 0} (made : Made) (ending : Outcome)
      (left : R → Option (List ℕ)) (read_faults : R → ℕ) (source_faultless : R → Type 0) (source : R)
      (written_to : K → Option (List ℕ)) (write_faults : K → ℕ) (sink_faultless : K → Type 0) (sink_before sink_after : K)
      (files_of : F → Option (File → List ℕ)) (loose : F → File → Bool) (shelf_faults : F → ℕ)
      (shelf_faultless : F → Type 0) (shelf_before shelf_after : F)
      → MakesText Pass-of (Ok (Bulk seed blocks how)) made files_of loose shelf_faults shelf_faultless shelf_before shelf_after
      → ((opened : Opened) → IfSome (files_of shelf_before) (λ files. OpenAs files opened
      → TakesByBook opened (bulk_name seed blocks) (bulk_input seed blocks) made))
      → WritesMade made ending written_to write_faults sink_faultless sink_before sink_after
      → IsRun (λ state input. Pass-of state) (Ok (Bulk seed blocks how)) ending left read_faults source_faultless source source
      written_to write_faults sink_faultless sink_before sink_after
      files_of loose shelf_faults shelf_faultless shelf_before shelf_after
  bulk_runs made ending left read_faults source_faultless source written_to write_faults sink_faultless sink_before sink_after
      files_of loose shelf_faults shelf_faultless shelf_before shelf_after makes by writes =
      let some = some_input (left source) in record {
        on_some_input = (
          some.0,
          some.1,
          carried_out Pass-of (Ok (Bulk seed blocks how)) ending written_to write_faults sink_faultless sink_before sink_after
              files_of loose shelf_faults shelf_faultless shelf_before shelf_after made (λ other sink leaves unmade. leaves) makes writes,
          λ opened. by_records-told (files_of shelf_before) opened (bulk_name seed blocks) (bulk_input seed blocks) made ending
              writes.ends (by opened),
        );
        source_counts = uncalled _ read_faults source_faultless source
            (bulk_unread seed blocks how ending (makes.among ending writes.ends));
        untouched = λ _. refl;
        source = refl;
      }

-- the input of `bulk` is not too long
pub never_too_long : (seed blocks : ℕ) (left : List ℕ) → AreBlocks blocks → left ≡ bulk_input seed blocks
    → MAX_INPUT < length left → ⊥
never_too_long seed blocks left are is long = absurd (omega (arith, bulk_input-fits seed blocks are, ap length is))
