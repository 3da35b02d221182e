-- Two laws of remainders, over any polynomial and bit strings of any length: the remainder of an
-- exclusive or is the exclusive or of the remainders, and a number below the power of the degree is
-- its own remainder.
use Rattle.std.proofs.Common.{◌≡◌, ℕ, ◌+◌, ◌*◌, ◌^◌, ◌<◌, ◌≤◌, List, [], ◌∷◌, length, arith, refl, sym, ap, ap₂, ◌∙◌, inl, inr, eq-eqb}
use Rattle.std.specs.Prelude.{bit_xor}
use Rattle.std.specs.Int.{bit_at}
use Rattle.std.specs.Int.Bits.{xor_assoc, xor_comm, xor_self, xor_zero_r, xor_block}
use Rattle.std.specs.List.{fold}
use Rattle.std.proofs.lemmas.Bool.{cases_eq, ne_eqb}
use Rattle.std.proofs.lemmas.Nat.Bits.{bit_at_xor, bit_at-lt, bit_at_above}
use Rattle.sd_base.specs.Polynomial.{degree, reduced, append_bit}
use Rattle.rabin_window.proofs.Degree.{reduced_below, longer_below}

-- ---- exclusive or

pub xor_four : (a b c d : ℕ) → bit_xor (bit_xor a b) (bit_xor c d) ≡ bit_xor (bit_xor a c) (bit_xor b d)
xor_four a b c d =
    xor_assoc a b (bit_xor c d)
    ∙ ap (bit_xor a) (sym (xor_assoc b c d) ∙ ap (λ x. bit_xor x d) (xor_comm b c) ∙ xor_assoc c b d)
    ∙ sym (xor_assoc a c (bit_xor b d))

pub xor_twice : (a b : ℕ) → bit_xor (bit_xor a b) b ≡ a
xor_twice a b = xor_assoc a b b ∙ ap (bit_xor a) (xor_self b) ∙ xor_zero_r a

-- ---- a number with the degree's bit taken away, if it is set and if it is clear

reduced_set : (p r : ℕ) → bit_at r (degree p) ≡ 1 → reduced p r ≡ bit_xor r p
reduced_set p r set = rw (eq-eqb _ _ set) refl

pub reduced_clear : (p r : ℕ) → (bit_at r (degree p) ≡ 1 → ⊥) → reduced p r ≡ r
reduced_clear p r clear = rw (ne_eqb _ _ clear) refl

pub reduced_xor : (p x y : ℕ) → reduced p (bit_xor x y) ≡ bit_xor (reduced p x) (reduced p y)
reduced_xor p x y =
    let sum = bit_at_xor x y (degree p) in
    let few_x = bit_at-lt x (degree p) in
    let few_y = bit_at-lt y (degree p) in
    elim (cases_eq (bit_at x (degree p)) 1) [
      | inl x_set ↦ elim (cases_eq (bit_at y (degree p)) 1) [
        | inl y_set ↦
            reduced_clear p (bit_xor x y) (λ set. omega arith)
            ∙ sym (xor_zero_r (bit_xor x y)) ∙ ap (bit_xor (bit_xor x y)) (sym (xor_self p)) ∙ sym (xor_four x p y p)
            ∙ sym (ap₂ bit_xor (reduced_set p x x_set) (reduced_set p y y_set))
        | inr y_clear ↦
            reduced_set p (bit_xor x y) (omega arith)
            ∙ xor_assoc x y p ∙ ap (bit_xor x) (xor_comm y p) ∙ sym (xor_assoc x p y)
            ∙ sym (ap₂ bit_xor (reduced_set p x x_set) (reduced_clear p y y_clear))
      ]
      | inr x_clear ↦ elim (cases_eq (bit_at y (degree p)) 1) [
        | inl y_set ↦
            reduced_set p (bit_xor x y) (omega arith) ∙ xor_assoc x y p
            ∙ sym (ap₂ bit_xor (reduced_clear p x x_clear) (reduced_set p y y_set))
        | inr y_clear ↦
            reduced_clear p (bit_xor x y) (λ set. omega arith)
            ∙ sym (ap₂ bit_xor (reduced_clear p x x_clear) (reduced_clear p y y_clear))
      ]
    ]

-- ---- a bit more

longer_xor : (r s a b : ℕ) → a < 2 → b < 2 → 2 * bit_xor r s + bit_xor a b ≡ bit_xor (2 * r + a) (2 * s + b)
longer_xor r s a b few_a few_b =
    let left : r * 2 + a ≡ 2 * r + a = omega arith in
    let right : s * 2 + b ≡ 2 * s + b = omega arith in
    let sum : bit_xor (r * 2 + a) (s * 2 + b) ≡ bit_xor r s * 2 + bit_xor a b = xor_block 1 r s a b few_a few_b in
    let turned : 2 * bit_xor r s + bit_xor a b ≡ bit_xor r s * 2 + bit_xor a b = omega arith in
    turned ∙ sym sum ∙ ap₂ bit_xor left right

pub append_bit_xor : (p r s a b : ℕ) → a < 2 → b < 2
    → append_bit p (bit_xor r s) (bit_xor a b) ≡ bit_xor (append_bit p r a) (append_bit p s b)
append_bit_xor p r s a b few_a few_b = ap (reduced p) (longer_xor r s a b few_a few_b) ∙ reduced_xor p (2 * r + a) (2 * s + b)

pub append_bit_below : (p r b : ℕ) → 0 < p → p < 2 ^ 64 → r < 2 ^ degree p → b < 2 → append_bit p r b < 2 ^ degree p
append_bit_below p r b pos fits below few = reduced_below p (2 * r + b) pos fits (longer_below (degree p) r b below few)

-- a bit more, if the degree is not reached
append_bit_small : (p r b : ℕ) → 2 * r + b < 2 ^ degree p → append_bit p r b ≡ 2 * r + b
append_bit_small p r b small =
    let clear = bit_at_above (2 * r + b) (degree p) (degree p) small (omega arith) in
    reduced_clear p (2 * r + b) (λ set. omega arith)

-- ---- bit strings

abbrev pub AllBits : List ℕ → Type 0
AllBits [] = Unit {0}
AllBits (x ∷ xs) = (x < 2) × AllBits xs

-- the exclusive or of two bit strings of one length
unfoldable pub xor_bits : List ℕ → List ℕ → List ℕ
xor_bits [] ys = []
xor_bits (x ∷ xs) [] = []
xor_bits (x ∷ xs) (y ∷ ys) = bit_xor x y ∷ xor_bits xs ys

-- the remainder of an exclusive or, from any two remainders on
pub additive : (p r s : ℕ) (xs ys : List ℕ) → AllBits xs → AllBits ys → length xs ≡ length ys
    → fold (append_bit p) (bit_xor r s) (xor_bits xs ys) ≡ bit_xor (fold (append_bit p) r xs) (fold (append_bit p) s ys)
unfolding xor_bits
additive p r s [] [] bits_x bits_y same = refl
additive p r s [] (y ∷ ys) bits_x bits_y same = absurd (omega arith)
additive p r s (x ∷ xs) [] bits_x bits_y same = absurd (omega arith)
additive p r s (x ∷ xs) (y ∷ ys) bits_x bits_y same =
    ap (λ t. fold (append_bit p) t (xor_bits xs ys)) (append_bit_xor p r s x y bits_x.0 bits_y.0)
    ∙ additive p (append_bit p r x) (append_bit p s y) xs ys bits_x.1 bits_y.1 (omega arith)

-- a remainder is below the power of the degree
pub remainder_below : (p r : ℕ) (xs : List ℕ) → 0 < p → p < 2 ^ 64 → AllBits xs → r < 2 ^ degree p → fold (append_bit p) r xs < 2 ^ degree p
remainder_below p r [] pos fits bits below = below
remainder_below p r (x ∷ xs) pos fits bits below =
    remainder_below p (append_bit p r x) xs pos fits bits.1 (append_bit_below p r x pos fits below bits.0)

-- the number that a bit string spells when it is appended to a number
abbrev pub spelled : ℕ → List ℕ → ℕ
spelled r [] = r
spelled r (x ∷ xs) = spelled (2 * r + x) xs

spelled_grows : (r : ℕ) (xs : List ℕ) → r ≤ spelled r xs
spelled_grows r [] = omega arith
spelled_grows r (x ∷ xs) = omega (arith, spelled_grows (2 * r + x) xs)

-- a number below the power of the degree is its own remainder
pub own_remainder : (p r : ℕ) (xs : List ℕ) → spelled r xs < 2 ^ degree p → fold (append_bit p) r xs ≡ spelled r xs
own_remainder p r [] small = refl
own_remainder p r (x ∷ xs) small =
    let first : 2 * r + x < 2 ^ degree p = omega (arith, spelled_grows (2 * r + x) xs) in
    ap (λ t. fold (append_bit p) t xs) (append_bit_small p r x first) ∙ own_remainder p (2 * r + x) xs small
