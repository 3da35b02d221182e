use Rattle.std.proofs.Common.{◌≡◌, ℕ, length, ◌||◌}
use Rattle.candidate_map.specs.Positions.{has}
use Rattle.candidate_map.proofs.OrLemmas.{has_before}
use Rattle.candidate_map.proofs.plain_map.PlainMap.or_map.Given as goal

-- the positions of the other set's first words were added
abbrev pub invariant-loop-index : goal.invariant-loop-index
invariant-loop-index l = record {
  bits : length l.self ≡ length l.fn.self;
  added : (p : ℕ) → has l.self p ≡ (has l.fn.self p || has_before l.other l.index p);
}
