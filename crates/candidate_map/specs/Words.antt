-- A set of positions in words of 64 bits: position p is bit p % 64 of word p / 64. This layout is
-- this project's own.
use Rattle.std.specs.Prelude.{◌≡◌, ℕ, ◌+◌, ◌*◌, ◌/◌, ◌%◌, ◌^◌, ◌<◌, ◌≤◌, ◌==◌, ◌&&◌, Bool, false, List, length, map, slice_index}
use Rattle.std.specs.Int.{bit_at}
use Rattle.std.specs.List.{range_with_len}
use Rattle.candidate_map.specs.declared.plain_map.TheConstants.{WORD_BITS}

-- whether the bit of position p is set
abbrev pub is_set : List ℕ → ℕ → Bool
is_set words p = bit_at (slice_index words (p / WORD_BITS)) (p % WORD_BITS) == 1

-- whether a position is that of a set bit of the mask, if the mask is put at this word
abbrev pub is_in_word : ℕ → ℕ → ℕ → Bool
is_in_word word mask p = p / WORD_BITS == word && bit_at mask (p % WORD_BITS) == 1

-- the positions below a number of bits, each with its bit
unfoldable pub positions_of : List ℕ → ℕ → List Bool
positions_of words bits = map (is_set words) (range_with_len 0 bits)

-- as many words as the bits need, nothing set above them, and so few that a position is a number of
-- 32 bits
pub record HoldsBits (words : List ℕ) (bits : ℕ) : Type 0 where
  pub enough : bits ≤ WORD_BITS * length words
  pub no_more : WORD_BITS * length words < bits + WORD_BITS
  pub clear_above : (p : ℕ) → bits ≤ p → is_set words p ≡ false
  pub in_range : bits < 2 ^ 32

-- the lowest set bit of a word that is at or above the place `from`
pub record IsLowestFrom (word from bit : ℕ) : Type 0 where
  pub above : from ≤ bit
  pub in_word : bit < WORD_BITS
  pub set : bit_at word bit ≡ 1
  pub lowest : (b : ℕ) → from ≤ b → b < bit → bit_at word b ≡ 0
