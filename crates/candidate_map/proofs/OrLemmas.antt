-- Words that are put together by or, one word at a time and map by map.
use Rattle.std.proofs.Common.{◌≡◌, ℕ, ◌+◌, ◌*◌, ◌/◌, ◌%◌, ◌^◌, ◌<◌, ◌≤◌, max, Bool, true, false, ◌||◌, ◌&&◌, List, eqb, ltb, length, get_or, set, refl, sym, ap, ◌∙◌, inl, inr, arith, eq-eqb, ne_eqb}
use Rattle.std.specs.Prelude.{bit_or}
use Rattle.std.specs.Int.{bit_at}
use Rattle.std.proofs.lemmas.Bool.{cases_lt, cases_eq, lt-ltb, le-ltb, false≢true}
use Rattle.std.proofs.lemmas.List.{get_or-set_same, get_or-set_other, length-set}
use Rattle.std.proofs.lemmas.Nat.Bits.{bit_at_or, bit_at-lt, bit_at-zero, bit_at_above}
use Rattle.candidate_map.specs.Positions.{has}
use Rattle.candidate_map.specs.Words.{is_set, is_in_word, positions_of, HoldsBits}
use Rattle.candidate_map.proofs.WordLemmas.{has-positions_of}

pub or-false : (b : Bool) → (b || false) ≡ b
or-false true = refl
or-false false = refl

-- a bit of an or, as a boolean
bit_of_or : (a b i : ℕ) → eqb (bit_at (bit_or a b) i) 1 ≡ (eqb (bit_at a i) 1 || eqb (bit_at b i) 1)
bit_of_or a b i =
    ap (λ x. eqb x 1) (bit_at_or a b i) ∙ of_bits (bit_at a i) (bit_at b i) (bit_at-lt a i) (bit_at-lt b i)
  where
    of_bits : (x y : ℕ) → x < 2 → y < 2 → eqb (max x y) 1 ≡ (eqb x 1 || eqb y 1)
    of_bits x y few_x few_y =
        elim (cases_eq x 1) [
          | inl one ↦ eq-eqb (max x y) 1 (omega arith) ∙ sym (ap (λ b. b || eqb y 1) (eq-eqb x 1 one))
          | inr zero ↦
              let same : max x y ≡ y = omega arith in
              ap (λ n. eqb n 1) same ∙ sym (ap (λ b. b || eqb y 1) (ne_eqb x 1 zero))
        ]

-- the words with the bits of a mask added at one word
module _ (words : List ℕ) (word mask : ℕ) (within : word < length words) where
  abbrev pub or_at : List ℕ
  or_at = set words word (bit_or (get_or words word 0) mask)

  pub is_set-or_at : (p : ℕ) → is_set or_at p ≡ (is_set words p || is_in_word word mask p)
  is_set-or_at p =
      elim (cases_eq (p / 64) word) [
        | inl here ↦
            ap (λ i. eqb (bit_at (get_or or_at i 0) (p % 64)) 1) here
            ∙ ap (λ w. eqb (bit_at w (p % 64)) 1) (get_or-set_same words word _ 0 within)
            ∙ bit_of_or (get_or words word 0) mask (p % 64)
            ∙ ap (λ i. eqb (bit_at (get_or words i 0) (p % 64)) 1 || eqb (bit_at mask (p % 64)) 1) (sym here)
            ∙ ap (λ b. is_set words p || (b && eqb (bit_at mask (p % 64)) 1)) (sym (eq-eqb (p / 64) word here))
        | inr apart ↦
            ap (λ w. eqb (bit_at w (p % 64)) 1) (get_or-set_other words word (p / 64) _ 0 apart)
            ∙ sym (or-false (is_set words p))
            ∙ ap (λ b. is_set words p || (b && eqb (bit_at mask (p % 64)) 1)) (sym (ne_eqb (p / 64) word apart))
      ]

  module _ (bits : ℕ) (ok : HoldsBits words bits) (inside : (b : ℕ) → bit_at mask b ≡ 1 → 64 * word + b < bits) where
    none_above : (p : ℕ) → bits ≤ p → is_in_word word mask p ≡ false
    none_above p above =
        elim (cases_eq (p / 64) word) [
          | inr apart ↦ ap (λ b. b && eqb (bit_at mask (p % 64)) 1) (ne_eqb (p / 64) word apart)
          | inl here ↦
              let clear : bit_at mask (p % 64) ≡ 1 → ⊥ = λ set. omega (arith, inside (p % 64) set) in
              ap (λ b. b && eqb (bit_at mask (p % 64)) 1) (eq-eqb (p / 64) word here) ∙ ne_eqb (bit_at mask (p % 64)) 1 clear
        ]

    pub HoldsBits-or_at : HoldsBits or_at bits
    HoldsBits-or_at =
        let len : length or_at ≡ length words = length-set words word _ in
        record {
          enough = omega (arith, ok.enough);
          no_more = omega (arith, ok.no_more);
          clear_above = λ p above. is_set-or_at p ∙ ap (λ b. b || is_in_word word mask p) (ok.clear_above p above) ∙ none_above p above;
          in_range = ok.in_range;
        }

    pub has-or_at : (p : ℕ) → has (positions_of or_at bits) p ≡ (has (positions_of words bits) p || is_in_word word mask p)
    has-or_at p =
        has-positions_of or_at bits p HoldsBits-or_at ∙ is_set-or_at p
        ∙ ap (λ b. b || is_in_word word mask p) (sym (has-positions_of words bits p ok))

-- ---- a map put into another, word by word

-- a set bit of a word is one of its 64
pub bit_below : (word b : ℕ) → word < 2 ^ 64 → bit_at word b ≡ 1 → b < 64
bit_below word b fits set =
    elim (cases_lt b 64) [
      | inl small ↦ small
      | inr large ↦ absurd (omega (arith, bit_at_above word 64 b fits large, set))
    ]

-- a bit of a word of a map is one of its positions
pub bit_inside : (words : List ℕ) (bits index b : ℕ) → HoldsBits words bits → bit_at (get_or words index 0) b ≡ 1
    → b < 64 → 64 * index + b < bits
bit_inside words bits index b ok set small =
    elim (cases_lt (64 * index + b) bits) [
      | inl below ↦ below
      | inr above ↦
          let word : (64 * index + b) / 64 ≡ index = omega arith in
          let place : (64 * index + b) % 64 ≡ b = omega arith in
          let is : is_set words (64 * index + b) ≡ true =
          ap (λ i. eqb (bit_at (get_or words i 0) ((64 * index + b) % 64)) 1) word
          ∙ ap (λ i. eqb (bit_at (get_or words index 0) i) 1) place ∙ eq-eqb _ 1 set in
          absurd (false≢true (sym (ok.clear_above (64 * index + b) above) ∙ is))
    ]

-- whether a position is in the set and in one of its first words
abbrev pub has_before : List Bool → ℕ → ℕ → Bool
has_before positions index p = ltb p (64 * index) && has positions p

-- with one word more
module _ (words : List ℕ) (bits : ℕ) (ok : HoldsBits words bits) (positions : List Bool) (seen : positions_of words bits ≡ positions) where
  pub has_before-more : (index p : ℕ)
      → has_before positions (index + 1) p ≡ (has_before positions index p || is_in_word index (get_or words index 0) p)
  has_before-more index p =
      let is : has positions p ≡ is_set words p = ap (λ s. has s p) (sym seen) ∙ has-positions_of words bits p ok in
      elim (cases_lt p (64 * index)) [
        | inl before ↦
            let apart : p / 64 ≡ index → ⊥ = λ e. omega arith in
            rw (lt-ltb p (64 * (index + 1)) (omega arith), lt-ltb p (64 * index) before, ne_eqb (p / 64) index apart) (sym (or-false (has positions p)))
        | inr past ↦ elim (cases_eq (p / 64) index) [
          | inl here ↦
              rw (lt-ltb p (64 * (index + 1)) (omega arith), le-ltb p (64 * index) past, eq-eqb (p / 64) index here)
              (is ∙ ap (λ i. eqb (bit_at (get_or words i 0) (p % 64)) 1) here)
          | inr apart ↦
              rw (le-ltb p (64 * (index + 1)) (omega arith), le-ltb p (64 * index) past, ne_eqb (p / 64) index apart) refl
        ]
      ]

  -- a word that is 0 adds nothing
  pub has_before-zero : (index p : ℕ) → get_or words index 0 ≡ 0 → has_before positions (index + 1) p ≡ has_before positions index p
  has_before-zero index p zero_word =
      has_before-more index p
      ∙ ap (λ w. has_before positions index p || is_in_word index w p) zero_word
      ∙ ap (λ b. has_before positions index p || b) (none_of_zero (eqb (p / 64) index))
      ∙ or-false (has_before positions index p)
    where
      none_of_zero : (b : Bool) → (b && eqb (bit_at 0 (p % 64)) 1) ≡ false
      none_of_zero true = ap (λ x. eqb x 1) (bit_at-zero (p % 64))
      none_of_zero false = refl

  -- all words are all positions
  pub has_before-all : (index p : ℕ) → length words ≤ index → has_before positions index p ≡ has positions p
  has_before-all index p all =
      elim (cases_lt p (64 * index)) [
        | inl before ↦ rw (lt-ltb p (64 * index) before) refl
        | inr past ↦
            let none : has positions p ≡ false =
            ap (λ s. has s p) (sym seen) ∙ has-positions_of words bits p ok
            ∙ ok.clear_above p (omega (arith, ok.enough)) in
            rw (le-ltb p (64 * index) past) (sym none)
      ]

pub or_assoc : (a b c : Bool) → ((a || b) || c) ≡ (a || (b || c))
or_assoc true b c = refl
or_assoc false b c = refl
