-- What is kept of a polynomial, so that a window moves with two look-ups. LBFS (SOSP 2001) keeps
-- Rabin's fingerprint in this way; what the entries are is this project's own.
use Rattle.std.specs.Prelude.{◌≡◌, ℕ, ◌+◌, ◌-◌, ◌*◌, ◌^◌, ◌<◌, List, replicate, slice_index}
use Rattle.std.specs.List.{fold}
use Rattle.sd_base.specs.Polynomial.{degree}
use Rattle.sd_base.specs.declared.limits.TheConstants.{WINDOW}
use Rattle.rabin_window.specs.Division.{append_byte}
use Rattle.rabin_window.specs.declared.byte_table.TheConstants.{BYTE_VALUES}

-- tables, as contracts see them: by the polynomial that they were made for
pub record TablesView : Type 0 where
  pub polynomial : ℕ

-- what the oldest byte of a window adds to the window's remainder: the remainder of a window that
-- begins with this byte and is zero otherwise
unfoldable pub leaving_entry : ℕ → ℕ → ℕ
leaving_entry p b = fold (append_byte p) (append_byte p 0 b) (replicate (WINDOW - 1) 0)

-- what the highest eight bits of a remainder become when a zero byte is appended
unfoldable pub appending_entry : ℕ → ℕ → ℕ
appending_entry p b = append_byte p (b * 2 ^ (degree p - 8)) 0

-- the table by which bytes are appended, with the number of the remainder's bits that are not its
-- highest eight, and their mask
pub record IsAppendingTable (p shift low_mask : ℕ) (entries : List ℕ) : Type 0 where
  pub highest_byte : shift + 8 ≡ degree p
  pub masked : low_mask ≡ 2 ^ shift - 1
  pub appends : (b : ℕ) → b < BYTE_VALUES → slice_index entries b ≡ appending_entry p b

-- the table by which a byte leaves a window
pub record IsLeavingTable (p : ℕ) (entries : List ℕ) : Type 0 where
  pub leaves : (b : ℕ) → b < BYTE_VALUES → slice_index entries b ≡ leaving_entry p b
