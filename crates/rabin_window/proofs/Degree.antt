-- The degree of a polynomial is the place of its highest set bit, and a reduced number has only
-- bits below that place.
use Rattle.std.proofs.Common.{◌≡◌, ℕ, suc, ◌+◌, ◌-◌, ◌*◌, ◌/◌, ◌%◌, ◌^◌, ◌<◌, ◌≤◌, arith, subst, sym, ap, ap₂, ◌∙◌, inl, inr, eq-eqb}
use Rattle.std.proofs.Math.Nat.{pow-suc, mul-le-mul_right, mul_comm, pow-le-pow_right}
use Rattle.std.proofs.lemmas.Bool.{cases_eq, cases_lt, ne_eqb}
use Rattle.std.specs.Prelude.{bit_xor}
use Rattle.std.proofs.lemmas.Nat.{leading_top, xor_lt, xor_block, shr_split, mod_below, pow_pos, div_below}
use Rattle.sd_base.specs.Polynomial.{degree, reduced}

-- a polynomial lies between the power of its degree and the next power
pub degree_place : (p : ℕ) → 0 < p → p < 2 ^ 64 → (2 ^ degree p ≤ p) × (p < 2 ^ suc (degree p)) × (degree p < 64)
degree_place p pos fits =
    let t = leading_top 64 p pos fits in
    let e : t.0 ≡ degree p = omega (arith, t.1) in
    (subst (λ j. 2 ^ j ≤ p) e t.2, subst (λ j. p < 2 ^ suc j) e t.3, omega arith)

-- two numbers with the same highest bit: it is clear in their exclusive or
pub xor_of_tops : (d r p : ℕ) → 2 ^ d ≤ r → r < 2 ^ suc d → 2 ^ d ≤ p → p < 2 ^ suc d → bit_xor r p < 2 ^ d
xor_of_tops d r p low_r high_r low_p high_p =
    let above : 2 ^ suc d ≡ 2 ^ d * 2 = pow-suc 2 d in
    let r_is : r ≡ 1 * 2 ^ d + (r - 2 ^ d) = omega arith in
    let p_is : p ≡ 1 * 2 ^ d + (p - 2 ^ d) = omega arith in
    let r_low : r - 2 ^ d < 2 ^ d = omega arith in
    let p_low : p - 2 ^ d < 2 ^ d = omega arith in
    let e : bit_xor r p ≡ bit_xor 1 1 * 2 ^ d + bit_xor (r - 2 ^ d) (p - 2 ^ d) =
    ap₂ bit_xor r_is p_is ∙ xor_block d 1 1 (r - 2 ^ d) (p - 2 ^ d) r_low p_low in
    let below : bit_xor (r - 2 ^ d) (p - 2 ^ d) < 2 ^ d = xor_lt d _ _ r_low p_low in
    subst (λ x. x < 2 ^ d) (sym e) (omega (arith, below))

-- a set bit at the highest place says that the number reaches that power
pub power_from_bit : (d r : ℕ) → r / 2 ^ d % 2 ≡ 1 → 2 ^ d ≤ r
power_from_bit d r set =
    let q : 1 ≤ r / 2 ^ d = omega arith in
    let m : 1 * 2 ^ d ≤ r / 2 ^ d * 2 ^ d = mul-le-mul_right (2 ^ d) q in
    omega (arith, shr_split r d)

-- a clear one says that it does not
pub below_from_bit : (d r : ℕ) → r < 2 ^ suc d → (r / 2 ^ d % 2 ≡ 1 → ⊥) → r < 2 ^ d
below_from_bit d r within clear =
    let split : r / 2 ^ d * 2 ^ d + r % 2 ^ d ≡ r = shr_split r d in
    let few : r / 2 ^ d < 2 = div_below r (2 ^ d) 2 (pow_pos d) (subst (λ x. r < x) (pow-suc 2 d ∙ mul_comm (2 ^ d) 2) within) in
    let none : r / 2 ^ d ≡ 0 = omega (arith, clear) in
    let e : 0 * 2 ^ d + r % 2 ^ d ≡ r = ap (λ x. x * 2 ^ d + r % 2 ^ d) (sym none) ∙ split in
    omega (arith, mod_below r (2 ^ d) (pow_pos d))

-- a bit more is below twice the power
pub longer_below : (d r bit : ℕ) → r < 2 ^ d → bit < 2 → 2 * r + bit < 2 ^ suc d
longer_below d r bit below one = omega (arith, pow-suc 2 d)

-- the remainder of a bit more stays below the degree's power
pub reduced_below : (p r : ℕ) → 0 < p → p < 2 ^ 64 → r < 2 ^ suc (degree p) → reduced p r < 2 ^ degree p
reduced_below p r pos fits within =
    let at = degree_place p pos fits in
    elim (cases_eq (r / 2 ^ degree p % 2) 1) [
      | inl set ↦ rw (eq-eqb _ _ set) (xor_of_tops (degree p) r p (power_from_bit (degree p) r set) within at.0 at.1)
      | inr clear ↦ rw (ne_eqb _ _ clear) (below_from_bit (degree p) r within clear)
    ]

-- a number with the degree's bit set, as the code tests it
pub taken_below : (p r h : ℕ) → 0 < p → p < 2 ^ 64 → h ≡ degree p → r < 2 ^ suc (degree p) → r / 2 ^ h % 2 ≡ 1 → bit_xor r p < 2 ^ degree p
taken_below p r h pos fits is within set =
    let at = degree_place p pos fits in
    xor_of_tops (degree p) r p (power_from_bit (degree p) r (subst (λ x. r / 2 ^ x % 2 ≡ 1) is set)) within at.0 at.1

-- the degree of a polynomial is at least 16
pub degree_at_least : (p : ℕ) → 2 ^ 16 ≤ p → p < 2 ^ 64 → 16 ≤ degree p
degree_at_least p least fits =
    let at = degree_place p (omega arith) fits in
    elim (cases_lt (degree p) 16) [
      | inl few ↦ (let power : 2 ^ suc (degree p) ≤ 2 ^ 16 = pow-le-pow_right {n = 2} (omega arith) few in absurd (omega arith))
      | inr enough ↦ enough
    ]
