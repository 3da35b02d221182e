-- Linear functions of a byte, and what the oldest byte of a window adds as one of them.
use Rattle.std.proofs.Common.{◌≡◌, ℕ, suc, ◌+◌, ◌-◌, ◌*◌, ◌^◌, ◌<◌, ◌≤◌, List, length, get_or, set, replicate, arith, sym, ap, ap₂, ◌∙◌, inl, inr, get_or-set_other, get_or-set_same, below_more, ◌≢◌}
use Rattle.std.specs.Prelude.{bit_xor}
use Rattle.std.specs.Int.Bits.{xor_comm, xor_self, xor_shifted}
use Rattle.std.specs.List.{fold}
use Rattle.std.proofs.lemmas.Bool.{cases_lt}
use Rattle.std.proofs.lemmas.Nat.{xor_lt, pow_pos}
use Rattle.std.proofs.Math.Nat.{pow-suc, pow-le-pow_right}
use Rattle.sd_base.specs.Parameters.{IsPolynomial}
use Rattle.sd_base.specs.Polynomial.{degree}
use Rattle.rabin_window.specs.Division.{append_byte}
use Rattle.rabin_window.specs.Linear.{IsLinear}
use Rattle.rabin_window.specs.Tables.{leaving_entry}
use Rattle.rabin_window.proofs.Degree.{degree_place, degree_at_least}
use Rattle.rabin_window.proofs.Roll.{append_byte_small, bytes_xor}

-- the highest bit of a byte that is not 0
pub highest_of_byte : (b : ℕ) → 0 < b → b < 256 → (2 ^ degree b ≤ b) × (b - 2 ^ degree b < 2 ^ degree b) × (degree b < 8)
highest_of_byte b some few =
    let at = degree_place b some (omega arith) in
    let twice : 2 ^ suc (degree b) ≡ 2 ^ degree b * 2 = pow-suc 2 (degree b) in (
      at.0,
      omega (arith, at.0, at.1, twice),
      elim (cases_lt (degree b) 8) [
        | inl small ↦ small
        | inr large ↦ (let power : 2 ^ 8 ≤ 2 ^ degree b = pow-le-pow_right {n = 2} (omega arith) large in absurd (omega (arith, at.0, power)))
      ],
    )

module _ (f : ℕ → ℕ) (linear : IsLinear f) where
  pub linear-zero : f 0 ≡ 0
  linear-zero = linear.xor 0 0 (omega arith) (omega arith) ∙ xor_self (f 0)

  -- so a table of zeros has its first entry
  pub linear-start : (b : ℕ) → b < 1 → get_or (replicate 256 0) b 0 ≡ f b
  linear-start b below =
      let first : b ≡ 0 = omega arith in
      ap (λ i. get_or (replicate 256 0) i 0) first ∙ sym (linear-zero) ∙ ap f (sym first)

  -- a byte is the exclusive or of its highest bit and what is left
  pub linear-highest : (b : ℕ) → 0 < b → b < 256 → f b ≡ bit_xor (f (b - 2 ^ degree b)) (f (2 ^ degree b))
  linear-highest b some few =
      let at = highest_of_byte b some few in
      let rest : ℕ = b - 2 ^ degree b in
      let parts : 1 * 2 ^ degree b + rest ≡ b = omega (arith, at.0) in
      let power : 1 * 2 ^ degree b ≡ 2 ^ degree b = omega arith in
      ap f (sym (ap (λ x. bit_xor x rest) (sym power) ∙ xor_shifted 1 (degree b) rest at.1 ∙ parts))
      ∙ linear.xor (2 ^ degree b) rest (omega (arith, at.0)) (omega arith)
      ∙ xor_comm (f (2 ^ degree b)) (f rest)

  -- one entry more of its table
  pub linear-more : (table : List ℕ) (b entry power : ℕ) → 0 < b → b < 256 → b < length table
      → entry ≡ bit_xor (get_or table (b - 2 ^ degree b) 0) power → power ≡ f (2 ^ degree b)
      → ((a : ℕ) → a < b → get_or table a 0 ≡ f a) → (a : ℕ) → a < b + 1 → get_or (set table b entry) a 0 ≡ f a
  linear-more table b entry power some few within is power_is so_far =
      let rest : b - 2 ^ degree b < b = omega (arith, pow_pos (degree b)) in
      below_more (λ a. get_or (set table b entry) a 0 ≡ f a) b
      (λ a before. let other : a ≢ b = omega arith in get_or-set_other table b a entry 0 other ∙ so_far a before)
      (get_or-set_same table b entry 0 within ∙ is ∙ ap₂ bit_xor (so_far (b - 2 ^ degree b) rest) power_is ∙ sym (linear-highest b some few))

-- the oldest byte adds a linear function of it
pub leaving_entry-linear : (p : ℕ) → IsPolynomial p → IsLinear (leaving_entry p)
unfolding leaving_entry
leaving_entry-linear p valid = record {
  xor = λ a b few_a few_b.
      let zeros = replicate 47 0 in
      ap (λ r. fold (append_byte p) r zeros)
      (itself (bit_xor a b) (xor_lt 8 a b few_a few_b) ∙ sym (ap₂ bit_xor (itself a few_a) (itself b few_b)))
      ∙ bytes_xor p (append_byte p 0 a) (append_byte p 0 b) zeros;
}
  where
    -- a byte is its own remainder
    itself : (b : ℕ) → b < 256 → append_byte p 0 b ≡ b
    itself b few =
        let power : 2 ^ 16 ≤ 2 ^ degree p = pow-le-pow_right {n = 2} (omega arith) (degree_at_least p valid.0 valid.1) in
        let value : 0 * 256 + b ≡ b = omega arith in
        append_byte_small p 0 b few (omega (arith, power)) ∙ value
