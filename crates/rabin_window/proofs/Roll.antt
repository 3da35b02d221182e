-- How a remainder changes when a window moves by a byte: what the oldest byte adds is taken away,
-- and the new byte is appended.
use Rattle.std.proofs.Common.{◌≡◌, ℕ, ◌+◌, ◌-◌, ◌*◌, ◌/◌, ◌%◌, ◌^◌, ◌<◌, List, [], ◌∷◌, ◌++◌, length, get_or, drop, replicate, arith, refl, sym, ap, ap₂, ◌∙◌, subst}
use Rattle.std.specs.Prelude.{bit_and, bit_or, bit_xor}
use Rattle.std.specs.Int.Bits.{xor_comm, xor_zero_r, xor_shifted}
use Rattle.std.specs.List.{fold}
use Rattle.std.proofs.lemmas.List.Sums.{fold-append}
use Rattle.std.proofs.lemmas.Nat.{pow_pos, pow-add, shr_split, mod_below, shl_below, shl_whole, shr_below, and_mask, or_shifted, xor_lt}
use Rattle.sd_base.specs.Parameters.{IsPolynomial}
use Rattle.sd_base.specs.Polynomial.{degree, append_bit, fingerprint}
use Rattle.sd_base.specs.declared.limits.TheConstants.{WINDOW}
use Rattle.rabin_window.specs.Division.{byte_bits, append_byte}
use Rattle.rabin_window.specs.Tables.{leaving_entry, appending_entry, IsAppendingTable, IsLeavingTable}
use Rattle.rabin_window.proofs.Bits.{AllBits-byte_bits, length-byte_bits, xor_zero_byte, spelled-byte_bits}
use Rattle.rabin_window.proofs.Degree.{degree_place}
use Rattle.rabin_window.proofs.Fold.{fingerprint_by_bytes}
use Rattle.rabin_window.proofs.Remainder.{xor_twice, additive, remainder_below, own_remainder}

-- ---- one byte

pub append_byte_xor : (p r s b : ℕ) → append_byte p (bit_xor r s) b ≡ bit_xor (append_byte p r 0) (append_byte p s b)
unfolding append_byte
append_byte_xor p r s b =
    ap (fold (append_bit p) (bit_xor r s)) (sym (xor_zero_byte b))
    ∙ additive p r s (byte_bits 0) (byte_bits b) (AllBits-byte_bits 0) (AllBits-byte_bits b)
    (length-byte_bits 0 ∙ sym (length-byte_bits b))

pub append_byte_below : (p r b : ℕ) → 0 < p → p < 2 ^ 64 → r < 2 ^ degree p → append_byte p r b < 2 ^ degree p
unfolding append_byte
append_byte_below p r b pos fits below = remainder_below p r (byte_bits b) pos fits (AllBits-byte_bits b) below

pub append_byte_small : (p r b : ℕ) → b < 256 → r * 256 + b < 2 ^ degree p → append_byte p r b ≡ r * 256 + b
unfolding append_byte
append_byte_small p r b few small =
    let e = spelled-byte_bits r b few in
    own_remainder p r (byte_bits b) (subst (λ x. x < 2 ^ degree p) (sym e) small) ∙ e

-- ---- many bytes

pub bytes_below : (p r : ℕ) (xs : List ℕ) → 0 < p → p < 2 ^ 64 → r < 2 ^ degree p → fold (append_byte p) r xs < 2 ^ degree p
bytes_below p r [] pos fits below = below
bytes_below p r (x ∷ xs) pos fits below = bytes_below p (append_byte p r x) xs pos fits (append_byte_below p r x pos fits below)

-- what comes before bytes adds to their remainder: its own remainder with as many zero bytes after
-- it
pub bytes_xor : (p r s : ℕ) (xs : List ℕ)
    → fold (append_byte p) (bit_xor r s) xs ≡ bit_xor (fold (append_byte p) r (replicate (length xs) 0)) (fold (append_byte p) s xs)
bytes_xor p r s [] = refl
bytes_xor p r s (x ∷ xs) =
    ap (λ t. fold (append_byte p) t xs) (append_byte_xor p r s x) ∙ bytes_xor p (append_byte p r 0) (append_byte p s x) xs

-- ---- the oldest byte leaves

without_oldest : (p leaving : ℕ) (window : List ℕ) → length window ≡ WINDOW → get_or window 0 0 ≡ leaving
    → bit_xor (fold (append_byte p) 0 window) (leaving_entry p leaving) ≡ fold (append_byte p) 0 (drop 1 window)
unfolding leaving_entry
without_oldest p leaving [] size oldest = absurd (omega arith)
without_oldest p leaving (x ∷ rest) size oldest =
    let first = append_byte p 0 x in
    let with_zeros = fold (append_byte p) first (replicate (WINDOW - 1) 0) in
    let left = fold (append_byte p) 0 rest in
    let many : length rest ≡ WINDOW - 1 = omega arith in
    let parts : fold (append_byte p) first rest ≡ bit_xor with_zeros left =
    ap (λ t. fold (append_byte p) t rest) (sym (xor_zero_r first)) ∙ bytes_xor p first 0 rest
    ∙ ap (λ n. bit_xor (fold (append_byte p) first (replicate n 0)) left) many in
    let same : with_zeros ≡ fold (append_byte p) (append_byte p 0 leaving) (replicate (WINDOW - 1) 0) =
    ap (λ b. fold (append_byte p) (append_byte p 0 b) (replicate (WINDOW - 1) 0)) oldest in
    ap₂ bit_xor (parts ∙ xor_comm with_zeros left) (sym same) ∙ xor_twice left with_zeros

pub kept_is : (p leaving : ℕ) (window : List ℕ) → length window ≡ WINDOW → get_or window 0 0 ≡ leaving
    → bit_xor (fingerprint p window) (leaving_entry p leaving) ≡ fingerprint p (drop 1 window)
kept_is p leaving window size oldest =
    ap (λ t. bit_xor t (leaving_entry p leaving)) (fingerprint_by_bytes p window) ∙ without_oldest p leaving window size oldest
    ∙ sym (fingerprint_by_bytes p (drop 1 window))

-- ---- a byte is appended

pub appended_is : (p k r b : ℕ) → k + 8 ≡ degree p → b < 256
    → bit_xor (r % 2 ^ k * 256 + b) (appending_entry p (r / 2 ^ k)) ≡ append_byte p r b
unfolding appending_entry
appended_is p k r b is few =
    let high = r / 2 ^ k * 2 ^ k in
    let low = r % 2 ^ k in
    let low_few : low < 2 ^ k = mod_below r (2 ^ k) (pow_pos k) in
    let power : 2 ^ degree p ≡ 2 ^ k * 256 = ap (λ d. 2 ^ d) (sym is) ∙ pow-add 2 k 8 in
    let small : low * 256 + b < 2 ^ degree p = omega arith in
    let place : degree p - 8 ≡ k = omega arith in
    let entry : append_byte p (r / 2 ^ k * 2 ^ (degree p - 8)) 0 ≡ append_byte p high 0 =
    ap (λ d. append_byte p (r / 2 ^ k * 2 ^ d) 0) place in
    ap₂ bit_xor (sym (append_byte_small p low b few small)) entry
    ∙ xor_comm (append_byte p low b) (append_byte p high 0) ∙ sym (append_byte_xor p high low b)
    ∙ ap (λ t. append_byte p t b) (xor_shifted (r / 2 ^ k) k low low_few ∙ shr_split r k)

pub fingerprint_push : (p : ℕ) (xs : List ℕ) (b : ℕ) → fingerprint p (xs ++ b ∷ []) ≡ append_byte p (fingerprint p xs) b
fingerprint_push p xs b =
    fingerprint_by_bytes p (xs ++ b ∷ []) ∙ fold-append (append_byte p) 0 xs (b ∷ [])
    ∙ ap (λ t. append_byte p t b) (sym (fingerprint_by_bytes p xs))

-- what the oldest byte adds is a remainder
pub leaving_entry_below : (p b : ℕ) → 0 < p → p < 2 ^ 64 → leaving_entry p b < 2 ^ degree p
unfolding leaving_entry
leaving_entry_below p b pos fits =
    bytes_below p (append_byte p 0 b) (replicate (WINDOW - 1) 0) pos fits (append_byte_below p 0 b pos fits (pow_pos (degree p)))

-- ---- the entries, as the code makes them

module _ (p k b : ℕ) (is : k + 8 ≡ degree p) (pos : 0 < p) (fits : p < 2 ^ 64) (few : b < 256) where
  shifted_whole : b * 2 ^ k % 2 ^ 64 ≡ b * 2 ^ k
  shifted_whole = let at = degree_place p pos fits in shl_whole b 8 k 64 few (omega arith)

  -- a byte as the highest eight bits of a remainder
  pub shifted_below : b * 2 ^ k % 2 ^ 64 < 2 ^ degree p
  shifted_below =
      let whole : 8 + k ≡ degree p = omega arith in
      subst (λ x. x < 2 ^ degree p) (sym shifted_whole) (subst (λ d. b * 2 ^ k < 2 ^ d) whole (shl_below b 8 k few))

  pub shifted_entry : append_byte p (b * 2 ^ k % 2 ^ 64) 0 ≡ appending_entry p b
  unfolding appending_entry
  shifted_entry =
      let place : k ≡ degree p - 8 = omega arith in
      ap (λ x. append_byte p x 0) shifted_whole ∙ ap (λ d. append_byte p (b * 2 ^ d) 0) place

-- ---- the step, as the code takes it

module _ (p k mask r b : ℕ) (is : k + 8 ≡ degree p) (within : degree p < 64) (mask_is : mask ≡ 2 ^ k - 1) (few : b < 256) where
  -- the low bits with the byte after them
  low_is : bit_or (bit_and r mask * 256 % 2 ^ 64) b ≡ r % 2 ^ k * 256 + b
  low_is =
      let below : r % 2 ^ k < 2 ^ k = mod_below r (2 ^ k) (pow_pos k) in
      let masked : bit_and r mask ≡ r % 2 ^ k = ap (bit_and r) mask_is ∙ and_mask r k in
      ap (λ x. bit_or (x * 256 % 2 ^ 64) b) masked
      ∙ ap (λ x. bit_or x b) (shl_whole (r % 2 ^ k) k 8 64 below (omega arith)) ∙ or_shifted (r % 2 ^ k) 8 b few

  pub step_is : bit_xor (bit_or (bit_and r mask * 256 % 2 ^ 64) b) (appending_entry p (r / 2 ^ k)) ≡ append_byte p r b
  step_is = ap (λ x. bit_xor x (appending_entry p (r / 2 ^ k))) low_is ∙ appended_is p k r b is few

-- ---- a byte is appended by the table, as the code does it; `byte'` is the byte as the code has it

abbrev pub appended : List ℕ → ℕ → ℕ → ℕ → ℕ → ℕ
appended entries k mask r byte' = bit_xor (bit_or (bit_and r mask * 256 % 2 ^ 64) byte') (get_or entries (r / 2 ^ k) 0)

module _ {p k mask : ℕ} {entries : List ℕ} (table : IsAppendingTable p k mask entries) (valid : IsPolynomial p) where
  -- the highest bits are the index of an entry
  pub high_below : (r : ℕ) → r < 2 ^ degree p → r / 2 ^ k < 256
  high_below r below =
      let turned : degree p ≡ 8 + k = omega (arith, table.highest_byte) in
      shr_below r 8 k (subst (λ d. r < 2 ^ d) turned below)

  pub appended_by_table : (r byte byte' : ℕ) → r < 2 ^ degree p → byte' ≡ byte → byte < 256
      → appended entries k mask r byte' ≡ append_byte p r byte
  appended_by_table r byte byte' below byte_is few =
      let place = degree_place p (omega arith) valid.1 in
      ap (bit_xor (bit_or (bit_and r mask * 256 % 2 ^ 64) byte')) (table.appends (r / 2 ^ k) (high_below r below))
      ∙ ap (λ b. bit_xor (bit_or (bit_and r mask * 256 % 2 ^ 64) b) (appending_entry p (r / 2 ^ k))) byte_is
      ∙ step_is p k mask r byte table.highest_byte place.2 table.masked few

-- ---- the oldest byte leaves by the table, as the code does it; `leaving'` is the byte as the code
-- has it

-- the remainder without what the oldest byte adds
abbrev pub kept : List ℕ → ℕ → ℕ → ℕ
kept entries value leaving = bit_xor value (get_or entries leaving 0)

module _ {p : ℕ} {entries : List ℕ} (table : IsLeavingTable p entries) (valid : IsPolynomial p) (value leaving leaving' : ℕ)
    (leaving_is : leaving' ≡ leaving) (few : leaving < 256) where
  leaves_is : get_or entries leaving' 0 ≡ leaving_entry p leaving
  leaves_is = ap (λ b. get_or entries b 0) leaving_is ∙ table.leaves leaving few

  pub kept_below : value < 2 ^ degree p → kept entries value leaving' < 2 ^ degree p
  kept_below below =
      xor_lt (degree p) value (get_or entries leaving' 0) below
      (subst (λ x. x < 2 ^ degree p) (sym leaves_is) (leaving_entry_below p leaving (omega arith) valid.1))

  pub rolled : (entering : ℕ) (window : List ℕ) → length window ≡ WINDOW → get_or window 0 0 ≡ leaving → value ≡ fingerprint p window
      → append_byte p (kept entries value leaving') entering ≡ fingerprint p (drop 1 window ++ entering ∷ [])
  rolled entering window size oldest value_is =
      ap (λ t. append_byte p t entering) (ap₂ bit_xor value_is leaves_is ∙ kept_is p leaving window size oldest)
      ∙ sym (fingerprint_push p (drop 1 window) entering)
