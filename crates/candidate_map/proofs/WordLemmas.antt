-- Words of 64 bits and the set of positions that they keep.
use Rattle.std.proofs.Common.{◌≡◌, ℕ, ◌+◌, ◌-◌, ◌*◌, ◌/◌, ◌%◌, ◌^◌, ◌<◌, ◌≤◌, min, Bool, true, false, List, eqb, length, get_or, set, replicate, map, sym, ap, ◌∙◌, inl, inr, arith, eq-eqb, w64}
use Rattle.std.specs.Prelude.{bit_and, bit_or}
use Rattle.std.specs.Int.{bit_at, trailing_zeros}
use Rattle.std.specs.List.{range_with_len}
use Rattle.std.proofs.lemmas.Bool.{cases_lt, cases_eq, false≢true}
use Rattle.std.proofs.lemmas.List.{get_or-set_same, get_or-set_other, get_or_past, length-set, length-replicate, get_or-replicate}
use Rattle.std.proofs.lemmas.List.FromFn.{length-map-range_with_len, get_or-map-range_with_len, fill_by_all}
use Rattle.std.proofs.lemmas.Nat.{shr-shr, shr_le}
use Rattle.std.proofs.lemmas.Nat.Bits.{shr_and_one, bit_at-zero, bit_at-trailing_zeros, bit_at_set_same, bit_at_set_other, bit_at_above}
use Rattle.candidate_map.specs.Positions.{has, Has, IsFirstFrom}
use Rattle.candidate_map.specs.Words.{is_set, positions_of, HoldsBits, IsLowestFrom}

pub length-positions_of : (words : List ℕ) (bits : ℕ) → length (positions_of words bits) ≡ bits
unfolding positions_of
length-positions_of words bits = length-map-range_with_len (is_set words) 0 bits

-- the bits of a map, from what a clause sees of it
pub length_seen : (words : List ℕ) (bits : ℕ) (seen : List Bool) → positions_of words bits ≡ seen → length seen ≡ bits
length_seen words bits seen view = ap length (sym view) ∙ length-positions_of words bits

-- the set has a position if its bit is set, and only then
pub has-positions_of : (words : List ℕ) (bits p : ℕ) → HoldsBits words bits
    → has (positions_of words bits) p ≡ is_set words p
unfolding positions_of
has-positions_of words bits p ok =
    elim (cases_lt p bits) [
      | inl below ↦ get_or-map-range_with_len (is_set words) 0 bits p p false below (omega arith)
      | inr above ↦
          let len : length (map (is_set words) (range_with_len 0 bits)) ≡ bits = length-map-range_with_len (is_set words) 0 bits in
          get_or_past (map (is_set words) (range_with_len 0 bits)) p false (omega arith) ∙ sym (ok.clear_above p above)
    ]

-- the word of a position that is below the bits, and its bit
pub word_within : (words : List ℕ) (bits p : ℕ) → HoldsBits words bits → p < bits → p / 64 < length words
word_within words bits p ok below = let enough : bits ≤ 64 * length words = ok.enough in omega arith

pub bit_read : (words : List ℕ) (bits p word : ℕ) (seen : List Bool) → HoldsBits words bits
    → positions_of words bits ≡ seen
    → word ≡ get_or words (p / 64) 0 → eqb (bit_and (word / 2 ^ (p % 64)) 1) 1 ≡ has seen p
bit_read words bits p word seen ok view read =
    ap (λ x. eqb x 1) (shr_and_one word (p % 64) ∙ ap (λ w. bit_at w (p % 64)) read)
    ∙ sym (has-positions_of words bits p ok)
    ∙ ap (λ s. has s p) view

-- words that are all 0 are the empty set
is_set-replicate : (n p : ℕ) → is_set (replicate n 0) p ≡ false
is_set-replicate n p =
    let zero_word : get_or (replicate n 0) (p / 64) 0 ≡ 0 =
    elim (cases_lt (p / 64) n) [
      | inl below ↦ get_or-replicate n (p / 64) 0 0 below
      | inr above ↦ get_or_past (replicate n 0) (p / 64) 0 (omega (arith, length-replicate {A = ℕ} n 0))
    ] in
    let unset : bit_at (get_or (replicate n 0) (p / 64) 0) (p % 64) ≡ 0 =
    ap (λ x. bit_at x (p % 64)) zero_word ∙ bit_at-zero (p % 64) in
    ap (λ x. eqb x 1) unset

pub positions_of-replicate : (n bits : ℕ) → positions_of (replicate n 0) bits ≡ replicate bits false
unfolding positions_of
positions_of-replicate n bits =
    sym (fill_by_all (is_set (replicate n 0)) (replicate bits false) bits false (length-replicate bits false)
    (λ k below. get_or-replicate bits k false false below ∙ sym (is_set-replicate n k)))

-- the words with the bit of a position set
module _ (words : List ℕ) (p : ℕ) where
  abbrev pub set_bit : List ℕ
  set_bit = set words (p / 64) (bit_or (get_or words (p / 64) 0) (1 * 2 ^ (p % 64) % 2 ^ 64))

  is_set-set_bit_same : p / 64 < length words → is_set set_bit p ≡ true
  is_set-set_bit_same within =
      let word : get_or set_bit (p / 64) 0 ≡ bit_or (get_or words (p / 64) 0) (1 * 2 ^ (p % 64) % 2 ^ 64) =
      get_or-set_same words (p / 64) _ 0 within in
      let bit : bit_at (get_or set_bit (p / 64) 0) (p % 64) ≡ 1 =
      ap (λ x. bit_at x (p % 64)) word ∙ bit_at_set_same w64 (get_or words (p / 64) 0) (p % 64) (omega arith) in
      eq-eqb _ 1 bit

  is_set-set_bit_other : p / 64 < length words → (q : ℕ) → (q ≡ p → ⊥) → is_set set_bit q ≡ is_set words q
  is_set-set_bit_other within q other =
      elim (cases_eq (q / 64) (p / 64)) [
        | inl same ↦
            let place : q % 64 ≡ p % 64 → ⊥ = λ e. other (omega arith) in
            let word : get_or set_bit (q / 64) 0 ≡ bit_or (get_or words (p / 64) 0) (1 * 2 ^ (p % 64) % 2 ^ 64) =
            ap (λ i. get_or set_bit i 0) same ∙ get_or-set_same words (p / 64) _ 0 within in
            let bit : bit_at (get_or set_bit (q / 64) 0) (q % 64) ≡ bit_at (get_or words (q / 64) 0) (q % 64) =
            ap (λ x. bit_at x (q % 64)) word
            ∙ bit_at_set_other w64 (get_or words (p / 64) 0) (p % 64) (omega arith) (q % 64) place
            ∙ ap (λ i. bit_at (get_or words i 0) (q % 64)) (sym same) in
            ap (λ x. eqb x 1) bit
        | inr apart ↦ ap (λ x. eqb (bit_at x (q % 64)) 1) (get_or-set_other words (p / 64) (q / 64) _ 0 apart)
      ]

  module _ (bits : ℕ) (below : p < bits) (ok : HoldsBits words bits) where
    within : p / 64 < length words
    within = word_within words bits p ok below

    pub HoldsBits-set_bit : HoldsBits set_bit bits
    HoldsBits-set_bit =
        let len : length set_bit ≡ length words = length-set words (p / 64) _ in
        record {
          enough = omega (arith, ok.enough);
          no_more = omega (arith, ok.no_more);
          clear_above = λ q above. is_set-set_bit_other within q (λ e. omega arith) ∙ ok.clear_above q above;
          in_range = ok.in_range;
        }

    pub positions_of-set_bit : positions_of set_bit bits ≡ set (positions_of words bits) p true
    unfolding positions_of
    positions_of-set_bit =
        let before : List Bool = map (is_set words) (range_with_len 0 bits) in
        let len : length before ≡ bits = length-map-range_with_len (is_set words) 0 bits in
        sym (fill_by_all (is_set set_bit) (set before p true) bits false (length-set before p true ∙ len)
        (λ k inside. elim (cases_eq k p) [
          | inl same ↦
              ap (λ i. get_or (set before p true) i false) same
              ∙ get_or-set_same before p true false (omega arith)
              ∙ sym (ap (is_set set_bit) same ∙ is_set-set_bit_same within)
          | inr other ↦
              get_or-set_other before p k true false other
              ∙ get_or-map-range_with_len (is_set words) 0 bits k k false inside (omega arith)
              ∙ sym (is_set-set_bit_other within k other)
        ]))

-- the lowest bit of what is left when the bits below a place are shifted out
shifted : (word from i : ℕ) → bit_at (word / 2 ^ from) i ≡ bit_at word (from + i)
shifted word from i = ap (λ x. x % 2) (shr-shr word from i)

shifted_to : (word from b : ℕ) → from ≤ b → bit_at word b ≡ bit_at (word / 2 ^ from) (b - from)
shifted_to word from b above =
    let at : from + (b - from) ≡ b = omega arith in
    sym (shifted word from (b - from) ∙ ap (bit_at word) at)

pub none_from : (word from : ℕ) → word / 2 ^ from ≡ 0 → (b : ℕ) → from ≤ b → bit_at word b ≡ 0
none_from word from rest b above =
    shifted_to word from b above ∙ ap (λ x. bit_at x (b - from)) rest ∙ bit_at-zero (b - from)

pub lowest_from : (word from : ℕ) → 0 < word / 2 ^ from → word < 2 ^ 64
    → IsLowestFrom word from (from + trailing_zeros w64 (word / 2 ^ from))
lowest_from word from some fits =
    let rest : ℕ = word / 2 ^ from in
    let rest_fits : rest < 2 ^ 64 = omega (arith, shr_le word from) in
    let found = bit_at-trailing_zeros w64 rest some rest_fits in
    let zeros : ℕ = trailing_zeros w64 rest in
    let bit : bit_at word (from + zeros) ≡ 1 = sym (shifted word from zeros) ∙ found.1 in
    record {
      above = omega arith;
      in_word = elim (cases_lt (from + zeros) 64) [
        | inl small ↦ small
        | inr large ↦ absurd (omega (arith, bit_at_above word 64 (from + zeros) fits large, bit))
      ];
      set = bit;
      lowest = λ b above below. shifted_to word from b above ∙ found.2 (b - from) (omega arith);
    }

-- a walk over the words from position p on, which has reached the place `from` of the word `index`
-- and met no set bit yet
module _ (words : List ℕ) (p index from : ℕ) (before : (q : ℕ) → p ≤ q → q < 64 * index + from → is_set words q ≡ false) where
  -- a word with no set bit from that place on is passed
  pub pass_word : ((b : ℕ) → from ≤ b → bit_at (get_or words index 0) b ≡ 0)
      → (q : ℕ) → p ≤ q → q < 64 * (index + 1) + 0 → is_set words q ≡ false
  pass_word none q low high =
      elim (cases_lt q (64 * index + from)) [
        | inl passed ↦ before q low passed
        | inr here ↦
            let word : q / 64 ≡ index = omega arith in
            ap (λ i. eqb (bit_at (get_or words i 0) (q % 64)) 1) word ∙ ap (λ x. eqb x 1) (none (q % 64) (omega arith))
      ]

  -- past the last word, or the last that is read, the set has no position
  pub none_left : (bits end : ℕ) → HoldsBits words bits → min end (length words) ≤ index
      → (q : ℕ) → p ≤ q → q < 64 * end → ¬ Has (positions_of words bits) q
  none_left bits end ok past_end q low high member =
      let set : is_set words q ≡ true = sym (has-positions_of words bits q ok) ∙ member in
      elim (cases_lt q (64 * index + from)) [
        | inl passed ↦ false≢true (sym (before q low passed) ∙ set)
        | inr past ↦
            let zero_word : get_or words (q / 64) 0 ≡ 0 = get_or_past words (q / 64) 0 (omega arith) in
            let unset : is_set words q ≡ false = ap (λ x. eqb (bit_at x (q % 64)) 1) zero_word ∙ ap (λ x. eqb x 1) (bit_at-zero (q % 64)) in
            false≢true (sym unset ∙ set)
      ]

  -- the lowest bit of a word from that place on is the next position
  pub first_here : (bits bit : ℕ) → HoldsBits words bits → p ≤ 64 * index + from → IsLowestFrom (get_or words index 0) from bit
      → IsFirstFrom (positions_of words bits) p (index * 64 + bit)
  first_here bits bit ok reached lowest =
      let small : bit < 64 = lowest.in_word in
      let above : from ≤ bit = lowest.above in
      let word : (index * 64 + bit) / 64 ≡ index = omega arith in
      let place : (index * 64 + bit) % 64 ≡ bit = omega arith in
      let set : is_set words (index * 64 + bit) ≡ true =
      ap (λ i. eqb (bit_at (get_or words i 0) ((index * 64 + bit) % 64)) 1) word
      ∙ ap (λ b. eqb (bit_at (get_or words index 0) b) 1) place
      ∙ eq-eqb _ 1 lowest.set in
      record {
        from = omega arith;
        member = has-positions_of words bits (index * 64 + bit) ok ∙ set;
        within = elim (cases_lt (index * 64 + bit) bits) [
          | inl below ↦ omega (arith, length-positions_of words bits)
          | inr past ↦ absurd (false≢true (sym (ok.clear_above (index * 64 + bit) past) ∙ set))
        ];
        least = λ q low member. elim (cases_lt q (index * 64 + bit)) [
          | inr least ↦ least
          | inl earlier ↦
              let is : is_set words q ≡ true = sym (has-positions_of words bits q ok) ∙ member in
              elim (cases_lt q (64 * index + from)) [
                | inl passed ↦ absurd (false≢true (sym (before q low passed) ∙ is))
                | inr here ↦
                    let same : q / 64 ≡ index = omega arith in
                    let unset : is_set words q ≡ false =
                    ap (λ i. eqb (bit_at (get_or words i 0) (q % 64)) 1) same
                    ∙ ap (λ x. eqb x 1) (lowest.lowest (q % 64) (omega arith) (omega arith)) in
                    absurd (false≢true (sym unset ∙ is))
              ]
        ];
      }
