use Rattle.std.proofs.Common.{◌∙◌, arith, ap, sym, Vec, Global, ℕ}
use Rattle.sd_base.specs.Cutting.{cuts_of}
use Rattle.sd_base.specs.Params.{numbers_of}
use Rattle.store_core.specs.declared.fault.StoreFault.TheVariants.{OutOfMemory}
use Rattle.ingest_core.specs.Faults.{IsOfReading, ingest_fault_of}
use Rattle.ingest_core.specs.declared.fault.IngestFault.TheVariants.{Store}
use Rattle.ingest_core.proofs.FaultLemmas.{err-is, err-of, memory-not-long, memory-not-source, ok-not, passed-holds, passed-is, reading-is, source-fault-is, too-long-is}
use Rattle.ingest_core.proofs.Inputs.{all_lost, none_left}
use Rattle.ingest_core.proofs.reading.read_cut.Goals as goal

pub returns-in_err-input : goal.returns-in_err-input
returns-in_err-input g c =
    let fault = c.in_err-input.field-0.0 in
    let result = c.from_residual.result in
    let read = c.read_all.ensures in
    let gave = passed-is (ingest_fault_of fault) result c.from_residual.ensures.1 in
    record {
      input = rw gave tt;
      cuts = rw gave tt;
      fits = rw gave tt;
      at_end = rw gave tt;
      fits_left = rw gave tt;
      refused = passed-holds IsOfReading result (ingest_fault_of fault) c.from_residual.ensures.1 (reading-is fault);
      too_long = λ is. read.too_long (c.in_err-input.was ∙ err-of (Vec ℕ Global) (too-long-is fault (err-is (sym gave ∙ is))));
      taken = λ is. read.too_long_left (c.in_err-input.was ∙ err-of (Vec ℕ Global) (too-long-is fault (err-is (sym gave ∙ is))));
      taken_at_most = c.in_err-input.ensures.refused;
      counts = record {
        failed = λ is. read.source_fault (c.in_err-input.was ∙ err-of (Vec ℕ Global) (source-fault-is fault (err-is (sym gave ∙ is))));
        never_falls = read.never_falls;
        faultless_serves = λ never is. read.faultless_serves never
            (c.in_err-input.was ∙ err-of (Vec ℕ Global) (source-fault-is fault (err-is (sym gave ∙ is))));
        faultless_counts_none = read.faultless_counts_none;
        stays_faultless = read.stays_faultless;
      };
    }

pub returns-in_err-cuts : goal.returns-in_err-cuts
returns-in_err-cuts g c =
    let result = c.from_residual-in_err-cuts.result in
    let read = c.read_all.ensures in
    let gave = passed-is (Store OutOfMemory) result c.from_residual-in_err-cuts.ensures.1 in
    record {
      input = rw gave tt;
      cuts = rw gave tt;
      fits = rw gave tt;
      at_end = rw gave tt;
      fits_left = rw gave tt;
      refused = passed-holds IsOfReading result (Store OutOfMemory) c.from_residual-in_err-cuts.ensures.1 tt;
      too_long = λ is. absurd (memory-not-long (err-is (sym gave ∙ is)));
      taken = λ is. absurd (memory-not-long (err-is (sym gave ∙ is)));
      taken_at_most = all_lost _ _ c.in_ok-input.ensures.at_end c.in_ok-input.ensures.fits;
      counts = record {
        failed = λ is. absurd (memory-not-source (err-is (sym gave ∙ is)));
        never_falls = read.never_falls;
        faultless_serves = λ never is. memory-not-source (err-is (sym gave ∙ is));
        faultless_counts_none = read.faultless_counts_none;
        stays_faultless = read.stays_faultless;
      };
    }

pub returns : goal.returns
returns g c =
    let read = c.read_all.ensures in
    let input = c.in_ok-input.ensures in
    record {
      input = input.bytes;
      cuts = c.in_ok-cuts.ensures.cuts ∙ ap (cuts_of (numbers_of c.args.params.now)) c.deref.ensures.value;
      fits = omega (arith, input.within_limit, c.in_ok-input.input.ok);
      at_end = none_left _ _ input.at_end;
      fits_left = input.fits;
      refused = tt;
      too_long = λ is. absurd (ok-not is);
      taken = λ is. absurd (ok-not is);
      taken_at_most = all_lost _ _ input.at_end input.fits;
      counts = record {
        failed = λ is. absurd (ok-not is);
        never_falls = read.never_falls;
        faultless_serves = λ never is. ok-not is;
        faultless_counts_none = read.faultless_counts_none;
        stays_faultless = read.stays_faultless;
      };
    }
