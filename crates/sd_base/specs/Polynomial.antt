-- Remainders of bit strings modulo a polynomial over the two-element field, after Rabin's
-- fingerprint (Fingerprinting by Random Polynomials, 1981). A polynomial is a number with one bit a
-- coefficient. That a window is 48 bytes is from LBFS (SOSP 2001, section 3.1). That any such
-- polynomial may be the modulus, irreducible or not, is this project's own.
use Rattle.std.specs.Prelude.{ℕ, ◌+◌, ◌-◌, ◌*◌, ◌==◌, if◌then◌else◌, List, [], ◌∷◌, bit_xor}
use Rattle.std.specs.Int.{w64, bit_at, leading_zeros}
use Rattle.std.specs.List.{fold, flat_map}

-- the degree of a polynomial of at most 64 bits that is not 0: the exponent of its highest set bit
abbrev pub degree : ℕ → ℕ
degree p = 63 - leading_zeros w64 p

-- one step of a division: a number less the polynomial, if it has the bit of the polynomial's
-- degree. Over the two-element field to subtract is to exclusive-or.
abbrev pub reduced : ℕ → ℕ → ℕ
reduced p r = if bit_at r (degree p) == 1 then bit_xor r p else r

-- the remainder of a bit string, from that of the string without its last bit
abbrev pub append_bit : ℕ → ℕ → ℕ → ℕ
append_bit p r bit = reduced p (2 * r + bit)

-- the remainder of a bit string modulo the polynomial, the highest coefficient first
abbrev pub remainder : ℕ → List ℕ → ℕ
remainder p bits = fold (append_bit p) 0 bits

-- the bits of a byte, the high bit first
abbrev pub bits_of_byte : ℕ → List ℕ
bits_of_byte b =
    bit_at b 7 ∷ bit_at b 6 ∷ bit_at b 5 ∷ bit_at b 4 ∷ bit_at b 3 ∷ bit_at b 2 ∷ bit_at b 1 ∷ bit_at b 0 ∷ []

-- the bits of bytes, in their order
abbrev pub bits_of : List ℕ → List ℕ
bits_of bytes = flat_map bits_of_byte bytes

-- Rabin's fingerprint of a window: the remainder of its bits
abbrev pub fingerprint : ℕ → List ℕ → ℕ
fingerprint p window = remainder p (bits_of window)
