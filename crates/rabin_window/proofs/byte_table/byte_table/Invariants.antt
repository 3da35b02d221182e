use Rattle.std.proofs.Common.{◌≡◌, ℕ, ◌<◌, ◌^◌, length, get_or}
use Rattle.rabin_window.specs.Linear.{IsLinear}
use Rattle.rabin_window.proofs.byte_table.byte_table.Given as goal

-- the entries of smaller bytes are the values of each linear function with these powers
abbrev pub invariant-loop-byte : goal.invariant-loop-byte
invariant-loop-byte l = record {
  some : 0 < l.byte;
  whole : length l.table ≡ 256;
  entries : (f : ℕ → ℕ) → IsLinear f → ((i : ℕ) → i < 8 → get_or l.powers i 0 ≡ f (2 ^ i))
      → (b : ℕ) → b < l.byte → get_or l.table b 0 ≡ f b;
}
