use Rattle.std.proofs.Common.{◌≡◌, ℕ, ◌+◌, ◌*◌, ◌<◌, ◌≤◌, false}
use Rattle.candidate_map.specs.Words.{is_set}
use Rattle.candidate_map.proofs.plain_map.PlainMap.next_in_words.Given as goal

-- from position p up to the place that comes next no bit is set
abbrev pub invariant-loop-index : goal.invariant-loop-index
invariant-loop-index l = record {
  in_word : l.from < 64;
  reached : l.p ≤ 64 * l.index + l.from;
  before : (q : ℕ) → l.p ≤ q → q < 64 * l.index + l.from → is_set l.self-inside.words.items q ≡ false;
}
