-- What `from_str_radix` says of a text that spells a number.
use Rattle.std.proofs.Common.{◌≡◌, ◌≢◌, ℕ, ◌^◌, ◌<◌, ◌≤◌, true, not, ◌&&◌, List, [], ◌∷◌, length, get_or, None, Result, Ok, Err, refl, ap, subst, inl, inr, arith, eqb, ltb, leb, rules}
use Rattle.std.proofs.lemmas.Bool.{and_parts, cases_Bool, ltb-true, leb-true, le-leb, lt-leb, ne_eqb, and_right}
use Rattle.std.proofs.lemmas.Str.Parse.{without_leading_plus_none}
use Rattle.std.specs.Char.{digit_value}
use Rattle.std.specs.List.{list_all}
use Rattle.std.specs.Result.{OkIff}
use Rattle.std.specs.Str.Parse.{AllDigits, IsNumeral, ParsesUnsigned, digits_value, without_leading_plus}
use Rattle.sd_base.specs.Keys.{Key, is_spelled, number_of}

all_digits : (base : ℕ) (text : List ℕ) → list_all (λ c. ltb (digit_value c) base) text ≡ true
    → AllDigits base text
all_digits base [] all = tt
all_digits base (c ∷ text) all =
    let parts = and_parts _ _ all in
    (ltb-true (digit_value c) base parts.0, all_digits base text parts.1)

-- a digit is no plus sign
no_plus : (base : ℕ) (text : List ℕ) → base ≤ 36 → AllDigits base text → get_or text 0 0 ≢ 43
no_plus base [] small digits = λ e. omega arith
no_plus base (c ∷ text) small digits = λ e.
    let same : digit_value c ≡ 36 = ap digit_value e in
    let low : digit_value c < base = digits.0 in
    omega arith

-- a text that spells a number is a numeral, and has no sign
record Spells (key : Key) (text : List ℕ) : Type 0 where
  numeral : IsNumeral key.base text
  no_sign : without_leading_plus text ≡ text

spells : (key : Key) (text : List ℕ) → key.base ≤ 36 → is_spelled key text ≡ true → Spells key text
spells key text small h =
    let shortest = leb 1 (length text) in
    let longest = leb (length text) key.most_digits in
    let digits = list_all (λ c. ltb (digit_value c) key.base) text in
    let front = and_parts (shortest && longest && digits) _ h in
    let lengths = and_parts (shortest && longest) digits front.0 in
    let some = and_parts shortest longest lengths.0 in
    let all = all_digits key.base text lengths.1 in
    record {
      numeral = (omega (arith, leb-true 1 (length text) some.0), all);
      no_sign = without_leading_plus_none text (no_plus key.base text small all);
    }

-- a text that spells a number is read if that fits 64 bits
pub is_read : {E : Type 0} (key : Key) (text : List ℕ) (r : Result ℕ E) → key.base ≤ 36
    → is_spelled key text ≡ true → ParsesUnsigned 64 key.base text r
    → OkIff r (digits_value key.base text < 2 ^ 64) (digits_value key.base text)
is_read key text (Ok value) small h parses =
    let s = spells key text small h in
    let own = rw s.no_sign at parses in
    (own.0.1, own.1)
is_read key text (Err e) small h parses =
    let s = spells key text small h in
    let own = rw s.no_sign at parses in
    λ few. own (s.numeral, few)

-- a value out of the key's range
pub number_outside : (key : Key) (text : List ℕ)
    → (key.least ≤ digits_value key.base text → digits_value key.base text ≤ key.greatest → ⊥)
    → number_of key text ≡ None
number_outside key text outside = elim (cases_Bool (leb key.least (digits_value key.base text))) [
  | inr less ↦ rw less (search (rules, and_right))
  | inl least ↦ rw (lt-leb (digits_value key.base text) key.greatest
      (omega (arith, outside (leb-true _ _ least)))) (search (rules, and_right))
]

-- what is left to test if the length and the digits of a text are right
pub decimal_rest : (key : Key) (text : List ℕ) → key.base ≡ 10 → 1 ≤ length text
    → length text ≤ key.most_digits → list_all (λ c. ltb (digit_value c) key.base) text ≡ true
    → length text ≢ 1 → is_spelled key text ≡ not (eqb (get_or text 0 0) 48)
decimal_rest key text ten some few digits long =
    rw (
      le-leb 1 (length text) some,
      le-leb (length text) key.most_digits few,
      digits,
      ten,
      ne_eqb (length text) 1 long,
    ) refl

pub other_rest : (key : Key) (text : List ℕ) → key.base ≢ 10 → 1 ≤ length text
    → length text ≤ key.most_digits → list_all (λ c. ltb (digit_value c) key.base) text ≡ true
    → is_spelled key text ≡ true
other_rest key text other some few digits =
    rw (
      le-leb 1 (length text) some,
      le-leb (length text) key.most_digits few,
      digits,
      ne_eqb key.base 10 other,
    ) refl

-- one base for another that it is
pub digits_at : (text : List ℕ) {base other : ℕ} → base ≡ other
    → list_all (λ c. ltb (digit_value c) base) text ≡ true
    → list_all (λ c. ltb (digit_value c) other) text ≡ true
digits_at text e h = subst (λ b. list_all (λ c. ltb (digit_value c) b) text ≡ true) e h
