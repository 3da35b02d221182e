-- The division of bytes by a polynomial, a byte at a time.
use Rattle.std.specs.Prelude.{ℕ, List}
use Rattle.std.specs.List.{fold}
use Rattle.sd_base.specs.Polynomial.{append_bit, bits_of_byte}

-- the bits of a byte, the high bit first
unfoldable pub byte_bits : ℕ → List ℕ
byte_bits b = bits_of_byte b

-- the remainder of bytes, from that of the bytes without the last of them
unfoldable pub append_byte : ℕ → ℕ → ℕ → ℕ
append_byte p r b = fold (append_bit p) r (byte_bits b)
