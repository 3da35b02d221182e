use Rattle.std.proofs.Common.{◌≡◌, ℕ, ◌+◌, length, take}
use Rattle.std.specs.List.{sum}
use Rattle.sd_base.specs.References.{occurrences}
use Rattle.ref_ledger.specs.Counts.{count_at}
use Rattle.ref_ledger.proofs.ledger.Ledger.drop_places.Given as goal

abbrev pub invariant-loop-place : goal.invariant-loop-place
invariant-loop-place l = record {
  chunks : length l.self-inside.counts.items ≡ length l.fn.self;
  counted : (i : ℕ)
      → count_at l.self-inside.counts.items i + occurrences i (take l.place-index l.places) ≡ count_at l.fn.self i;
  total : sum l.self-inside.counts.items + l.place-index ≡ sum l.fn.self;
}
