use Rattle.std.proofs.Common.{◌≡◌, ◌+◌, ◌++◌, drop}
use Rattle.ingest_core.specs.AuditChunks.{bytes_kept, ends_from}
use Rattle.ingest_core.proofs.auditing.chunks.ends_of.Given as goal

abbrev pub invariant-loop-chunk : goal.invariant-loop-chunk
invariant-loop-chunk l = record {
  ends : l.ends.items ++ ends_from l.offset (drop l.chunk-index l.kept) ≡ ends_from 0 l.kept;
  bytes : l.offset + bytes_kept (drop l.chunk-index l.kept) ≡ bytes_kept l.kept;
}
