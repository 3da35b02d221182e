use Rattle.std.proofs.Common.{◌+◌, arith, refl, sym, ◌∙◌}
use Rattle.sd_base.specs.Params.{numbers_of}
use Rattle.ingest_core.proofs.WindowLemmas.{fingerprint_rolled, none_before_next}
use Rattle.ingest_core.proofs.auditing.chunk_cuts.has_no_candidate.Goals as goal

pub loop-p-preserved : goal.loop-p-preserved
loop-p-preserved c =
    let chunk = c.args.chunk.now in
    let polynomial = c.args.tables.now.polynomial in
    let p = c.loop-p.p in
    record {
      value = fingerprint_rolled chunk polynomial c.loop-p.value c.roll-value.result p (p + 1) (omega arith) (omega arith) refl
          c.loop-p.invariant.value c.roll-value.ensures.rolled;
      reduced = c.roll-value.ensures.reduced;
      none = none_before_next (numbers_of c.args.params.now) chunk p c.loop-p.value polynomial (omega arith) (omega arith)
          c.requires.same_polynomial c.loop-p.invariant.value (sym c.is_match.ensures ∙ c.if-is_match.false)
          c.loop-p.invariant.none;
    }
