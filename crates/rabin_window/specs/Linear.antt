-- Functions of a byte that an exclusive or goes through: over the two-element field they are
-- linear.
use Rattle.std.specs.Prelude.{◌≡◌, ℕ, ◌<◌, bit_xor}
use Rattle.rabin_window.specs.declared.byte_table.TheConstants.{BYTE_VALUES}

pub record IsLinear (f : ℕ → ℕ) : Type 0 where
  pub xor : (a b : ℕ) → a < BYTE_VALUES → b < BYTE_VALUES → f (bit_xor a b) ≡ bit_xor (f a) (f b)
