use Rattle.std.proofs.Common.{◌≡◌, ◌*◌, length, take}
use Rattle.std.specs.List.{All, flat_map}
use Rattle.sd_base.specs.Records.{new_chunk}
use Rattle.session_book.proofs.record_writer.chunks_len.Given as goal

abbrev pub invariant-loop-chunk : goal.invariant-loop-chunk
invariant-loop-chunk l = record {
  spelled : l.size ≡ length (flat_map new_chunk (take l.chunk-index l.chunks));
  names : All (λ chunk. length chunk.name ≡ 32) (take l.chunk-index l.chunks);
  each : l.size ≡ 36 * l.chunk-index;
}
