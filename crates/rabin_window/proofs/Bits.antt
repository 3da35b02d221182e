-- The bits of a byte, and the number that they spell.
use Rattle.std.proofs.Common.{◌≡◌, ℕ, zero, suc, ◌+◌, ◌*◌, ◌-◌, ◌<◌, length, get_or, refl, arith}
use Rattle.std.specs.Int.{bit_at}
use Rattle.std.proofs.lemmas.Nat.Bits.{bit_at-lt}
use Rattle.rabin_window.specs.Division.{byte_bits}
use Rattle.rabin_window.proofs.Remainder.{AllBits, xor_bits, spelled}

pub length-byte_bits : (b : ℕ) → length (byte_bits b) ≡ 8
unfolding byte_bits
length-byte_bits b = refl

pub byte_bits_at : (b i : ℕ) → i < 8 → get_or (byte_bits b) i 0 ≡ bit_at b (7 - i)
unfolding byte_bits
byte_bits_at b zero h = refl
byte_bits_at b (suc zero) h = refl
byte_bits_at b (suc (suc zero)) h = refl
byte_bits_at b (suc (suc (suc zero))) h = refl
byte_bits_at b (suc (suc (suc (suc zero)))) h = refl
byte_bits_at b (suc (suc (suc (suc (suc zero))))) h = refl
byte_bits_at b (suc (suc (suc (suc (suc (suc zero)))))) h = refl
byte_bits_at b (suc (suc (suc (suc (suc (suc (suc zero))))))) h = refl
byte_bits_at b (suc (suc (suc (suc (suc (suc (suc (suc i)))))))) h = absurd (omega arith)

pub AllBits-byte_bits : (b : ℕ) → AllBits (byte_bits b)
unfolding byte_bits
AllBits-byte_bits b =
    (bit_at-lt b 7, (bit_at-lt b 6, (bit_at-lt b 5, (bit_at-lt b 4, (bit_at-lt b 3, (bit_at-lt b 2, (bit_at-lt b 1, (bit_at-lt b 0, tt))))))))

-- the zero byte changes no bits
pub xor_zero_byte : (b : ℕ) → xor_bits (byte_bits 0) (byte_bits b) ≡ byte_bits b
unfolding byte_bits xor_bits
xor_zero_byte b = refl

pub spelled-byte_bits : (r b : ℕ) → b < 256 → spelled r (byte_bits b) ≡ r * 256 + b
unfolding byte_bits
spelled-byte_bits r b few = omega arith
