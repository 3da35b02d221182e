use Rattle.std.proofs.Common.{◌≡◌, ◌++◌, length, take}
use Rattle.std.specs.List.{flat_map}
use Rattle.sd_base.specs.Records.{u32_bytes, new_chunk}
use Rattle.session_book.proofs.record_writer.append_chunks.Given as goal

abbrev pub invariant-loop-chunk : goal.invariant-loop-chunk
invariant-loop-chunk l = l.out.items ≡ l.fn.out.items ++ (u32_bytes (length l.chunks) ++ flat_map new_chunk (take l.chunk-index l.chunks))
