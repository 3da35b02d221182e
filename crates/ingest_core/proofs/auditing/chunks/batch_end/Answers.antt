use Rattle.std.proofs.Common.{arith, ◌≤◌, inl, inr}
use Rattle.std.proofs.lemmas.Bool.{cases_lt}
use Rattle.ingest_core.proofs.AuditChunks.{length-of, range-bytes, range-none}
use Rattle.sd_base.specs.declared.limits.TheConstants.{MAX_CHUNK_LEN}
use Rattle.ingest_core.proofs.auditing.chunks.batch_end.Goals as goal

pub overflow_add-bytes : goal.overflow_add-bytes
overflow_add-bytes c =
    let size = length-of (λ n. n ≤ MAX_CHUNK_LEN) c.args.kept.now c.loop-number.number (omega arith) c.requires.bounded in
    let fits = c.loop-number.invariant.fits in
    omega (arith, size, fits)

pub returns-then-bytes-gt-MAX_BATCH-clause-some : goal.returns-then-bytes-gt-MAX_BATCH-clause-some
returns-then-bytes-gt-MAX_BATCH-clause-some c =
    let first = c.args.first in
    let number = c.loop-number.number in
    let size = length-of (λ n. n ≤ MAX_CHUNK_LEN) c.args.kept.now number (omega arith) c.requires.bounded in
    let bytes = c.loop-number.invariant.bytes in
    let more = c.if-bytes-gt-MAX_BATCH.true in
    elim (cases_lt first number) [
      | inl after ↦ after
      | inr past ↦ let none = range-none c.args.kept.now first number past in absurd (omega (arith, size, bytes, more, none))
    ]

pub loop-number-preserved : goal.loop-number-preserved
loop-number-preserved c =
    let from = c.loop-number.invariant.from in
    let bytes = c.loop-number.invariant.bytes in
    let next = range-bytes c.args.kept.now c.args.first c.loop-number.number from (omega arith) in
    let few = c.if-bytes-gt-MAX_BATCH.false in
    record {
      bytes = omega (arith, bytes, next);
      fits = omega (arith, few);
      from = omega (arith, from);
    }
