use Rattle.std.proofs.Common.{◌≡◌, ◌≤◌}
use Rattle.std.specs.List.{slice_range}
use Rattle.ingest_core.specs.AuditChunks.{bytes_kept}
use Rattle.ingest_core.specs.declared.auditing.chunks.TheConstants.{MAX_BATCH}
use Rattle.ingest_core.proofs.auditing.chunks.batch_end.Given as goal

abbrev pub invariant-loop-number : goal.invariant-loop-number
invariant-loop-number l = record {
  bytes : l.bytes ≡ bytes_kept (slice_range l.kept l.first l.number);
  fits : l.bytes ≤ MAX_BATCH;
  from : l.first ≤ l.number;
}
