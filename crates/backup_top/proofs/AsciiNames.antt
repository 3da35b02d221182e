-- The names of sessions are ASCII.
use Rattle.std.proofs.Common.{◌≡◌, ◌<◌, ℕ, List, length, true, arith, inl, inr, refl}
use Rattle.std.proofs.lemmas.Bool.{cases_lt}
use Rattle.std.proofs.lemmas.List.{get_or_past}
use Rattle.std.proofs.lemmas.Str.{IsUtf8-from_ascii}
use Rattle.std.specs.Prelude.{Err, IsOk, IsUtf8, MatchResult, Ok, Result, slice_index}
use Rattle.sd_base.specs.Names.{IsName, name_byte}

name_byte-ascii : (c : ℕ) → name_byte c ≡ true → c < 128
name_byte-ascii c is = grind arith

pub name_is_utf8 : (bytes : List ℕ) → IsName bytes → IsUtf8 bytes
name_is_utf8 bytes is = IsUtf8-from_ascii bytes (λ i. elim (cases_lt i (length bytes)) [
  | inl lt ↦ name_byte-ascii (slice_index bytes i) (is.letters i 0 lt)
  | inr past ↦ omega (arith, get_or_past bytes i 0 past)
])

-- bytes of UTF-8 are read as text
pub read_as_text : {T E : Type 0} (bytes : List ℕ) (P : T → Type 0) (Q : E → Type 0) (result : Result T E)
    → MatchResult result (λ text. P text × IsUtf8 bytes) (λ e. (IsUtf8 bytes → ⊥) × Q e) → IsUtf8 bytes → IsOk result
read_as_text bytes P Q (Ok text) cases utf8 = refl
read_as_text bytes P Q (Err e) cases utf8 = absurd (cases.0 utf8)
