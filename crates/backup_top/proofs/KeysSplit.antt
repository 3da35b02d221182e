-- What `split_once` says of the first `=` of a word.
use Rattle.std.proofs.Common.{◌≡◌, ℕ, ◌<◌, Bool, true, false, List, [], ◌∷◌, length, Option, Some, None, MatchOption, Bor, refl, inl, inr, lit<, arith}
use Rattle.std.proofs.lemmas.Bool.{cases_Bool}
use Rattle.std.proofs.lemmas.Str.Pattern.{IsSplitOnceResult, split_once_first}
use Rattle.std.specs.List.{list_any, position_or_len}
use Rattle.sd_base.specs.Keys.{is_equals_sign, key_name_of, value_of}

none_passes : (p : ℕ → Bool) (xs : List ℕ) → position_or_len p xs ≡ length xs → list_any p xs ≡ false
none_passes p [] e = refl
none_passes p (x ∷ xs) e = elim (cases_Bool (p x)) [
  | inl passes ↦ absurd (let no = rw passes at e in omega arith)
  | inr fails ↦ rw fails (none_passes p xs (let no = rw fails at e in omega arith))
]

one_passes : (p : ℕ → Bool) (xs : List ℕ) → position_or_len p xs < length xs → list_any p xs ≡ true
one_passes p [] e = absurd (omega arith)
one_passes p (x ∷ xs) e = elim (cases_Bool (p x)) [
  | inl passes ↦ rw passes refl
  | inr fails ↦ rw fails (one_passes p xs (let no = rw fails at e in omega arith))
]

pub sides_of : (word : List ℕ) (r : Option (Bor (List ℕ) × Bor (List ℕ))) → IsSplitOnceResult 61 word r
    → MatchOption r (list_any is_equals_sign word ≡ false)
    (λ sides. (list_any is_equals_sign word ≡ true) × (sides.0.now ≡ key_name_of word)
    × (sides.1.now ≡ value_of word))
sides_of word None h = none_passes is_equals_sign word (split_once_first 61 word None h (lit< tt))
sides_of word (Some sides) h =
    let f = split_once_first 61 word (Some sides) h (lit< tt) in
    (one_passes is_equals_sign word f.0, f.1, f.2)
