use Rattle.std.proofs.Common.{◌≡◌, ◌++◌, drop, map}
use Rattle.store_core.proofs.store.lengths_of.Given as goal

abbrev pub invariant-loop-chunk : goal.invariant-loop-chunk
invariant-loop-chunk l = record {
  lengths : l.lengths.items ++ map (λ chunk. chunk.length) (drop l.chunk-index l.chunks) ≡ map (λ chunk. chunk.length) l.chunks;
}
