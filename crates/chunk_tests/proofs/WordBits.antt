-- A set bit of a word is one of its 64.
use Rattle.std.proofs.Common.{◌≡◌, ℕ, ◌^◌, ◌<◌, inl, inr, arith}
use Rattle.std.specs.Int.{bit_at}
use Rattle.std.proofs.lemmas.Bool.{cases_lt}
use Rattle.std.proofs.lemmas.Nat.Bits.{bit_at_above}

pub bit_below : (word b : ℕ) → word < 2 ^ 64 → bit_at word b ≡ 1 → b < 64
bit_below word b fits set =
    elim (cases_lt b 64) [
      | inl small ↦ small
      | inr large ↦ absurd (omega (arith, bit_at_above word 64 b fits large, set))
    ]
