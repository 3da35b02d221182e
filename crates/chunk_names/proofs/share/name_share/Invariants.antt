use Rattle.std.proofs.Common.{◌≡◌, ℕ, ◌+◌, ◌<◌, ◌≤◌, List, length, slice_index_or}
use Rattle.chunk_names.specs.Shares.{chunk_at}
use Rattle.chunk_names.proofs.share.name_share.Given as goal

abbrev pub invariant-loop-i : goal.invariant-loop-i
invariant-loop-i g l = record {
  from : l.first ≤ l.i;
  len : length l.share ≡ length l.fn.share;
  named : (k : ℕ) (d : List ℕ) → k < length l.share → l.first + k < l.i
      → slice_index_or l.share k d ≡ g.N.Namer.name_of (chunk_at l.text l.start l.ends (l.first + k));
}
