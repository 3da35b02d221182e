-- The refusals of the source are those of the run.
use Rattle.edge_traits.specs.declared.source_reader.ReadFault.TheVariants.{InputTooLong, OutOfMemory, SourceFault}
use Rattle.ingest_core.proofs.Inputs.{all_lost, none_left}
use Rattle.backup_top.proofs.Plans.{counts_of_reading, memory-not-failed, memory-not-long, ok-not}
use Rattle.backup_top.proofs.Runs.{passed-is, passed-of}
use Rattle.backup_top.proofs.plan.read_plan_text.Goals as goal

pub returns-in_err-input : goal.returns-in_err-input
returns-in_err-input g c =
    let read = c.read_all.ensures in
    let fault = c.in_err-input.field-0.0 in
    let result = c.from_residual.result in
    let same = c.from_residual.ensures.1 in
    let gave = passed-is fault result same in
    record {
      pass = rw gave tt;
      at_end = rw gave tt;
      counts = counts_of_reading (passed-of fault c.read_all.result result SourceFault c.in_err-input.was same)
          read.source_fault read.never_falls read.faultless_serves read.faultless_counts_none read.stays_faultless;
      too_long = λ is. read.too_long (passed-of fault c.read_all.result result InputTooLong c.in_err-input.was same is);
      taken = λ is. read.too_long_left (passed-of fault c.read_all.result result InputTooLong c.in_err-input.was same is);
      fits = rw gave tt;
      taken_at_most = c.in_err-input.ensures.refused;
    }

pub returns-in_err-text_of_input : goal.returns-in_err-text_of_input
returns-in_err-text_of_input g c =
    let read = c.read_all.ensures in
    let input = c.in_ok-input.ensures in
    let result = c.from_residual-in_err-text_of_input.result in
    let gave = passed-is OutOfMemory result c.from_residual-in_err-text_of_input.ensures.1 in
    record {
      pass = rw gave tt;
      at_end = rw gave tt;
      counts = counts_of_reading (λ is. absurd (memory-not-failed result gave is))
          read.source_fault read.never_falls read.faultless_serves read.faultless_counts_none read.stays_faultless;
      too_long = λ is. absurd (memory-not-long result gave is);
      taken = λ is. absurd (memory-not-long result gave is);
      fits = rw gave tt;
      taken_at_most = all_lost _ _ input.at_end input.fits;
    }

pub returns-clause-at_end : goal.returns-clause-at_end
returns-clause-at_end g c = none_left _ _ c.in_ok-input.ensures.at_end

pub returns-clause-counts : goal.returns-clause-counts
returns-clause-counts g c =
    let read = c.read_all.ensures in
    counts_of_reading (λ is. absurd (ok-not is))
    read.source_fault read.never_falls read.faultless_serves read.faultless_counts_none read.stays_faultless

pub returns-clause-too_long : goal.returns-clause-too_long
returns-clause-too_long g c = λ is. absurd (ok-not is)

pub returns-clause-taken : goal.returns-clause-taken
returns-clause-taken g c = λ is. absurd (ok-not is)

pub returns-clause-fits : goal.returns-clause-fits
returns-clause-fits g c = c.in_ok-input.ensures.fits

pub returns-clause-taken_at_most : goal.returns-clause-taken_at_most
returns-clause-taken_at_most g c = all_lost _ _ c.in_ok-input.ensures.at_end c.in_ok-input.ensures.fits
