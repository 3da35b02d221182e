use Rattle.std.proofs.Common.{◌≡◌, ◌++◌, drop}
use Rattle.ingest_core.specs.AuditChunks.{lengths_kept}
use Rattle.ingest_core.proofs.auditing.chunks.lengths_of.Given as goal

abbrev pub invariant-loop-chunk : goal.invariant-loop-chunk
invariant-loop-chunk l = record {
  lengths : l.lengths.items ++ lengths_kept (drop l.chunk-index l.kept) ≡ lengths_kept l.kept;
}
