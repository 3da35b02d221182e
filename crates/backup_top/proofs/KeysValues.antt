-- What words set: what one more word changes.
use Rattle.std.proofs.Common.{◌≡◌, ℕ, ◌+◌, ◌<◌, Bool, true, false, List, [], ◌∷◌, ◌++◌, map, length, get_or, take, Option, Some, None, refl, sym, ap, ◌∙◌, inl, inr, add-one}
use Rattle.std.proofs.Math.Seq.{take-suc}
use Rattle.std.proofs.lemmas.Bool.{cases_Bool}
use Rattle.std.proofs.lemmas.List.{map-append}
use Rattle.std.proofs.lemmas.List.Folds.{find-append}
use Rattle.std.proofs.lemmas.Slice.Eq.{bytes_eq-Decides}
use Rattle.std.specs.List.{find, list_any}
use Rattle.std.specs.Option.{option_or}
use Rattle.std.specs.Str.{bytes_eq}
use Rattle.sd_base.specs.Keys.{Key, bad_kind_of_value, is_equals_sign, key_name_of, number_of, sets_key, bad_kind_of, value_of, value_or_default}
use Rattle.sd_base.specs.Words.{polynomial_key, bits_key, target_key, min_key, max_key, segment_key, shards_key, workers_key, default_params, default_segment, default_shards, default_workers}
use Rattle.backup_top.specs.Words.{key_of, settings_after, settings_of, value_after, with_value}
use Rattle.backup_top.specs.declared.settings.Setting.{Setting}
use Rattle.backup_top.specs.declared.settings.Setting.TheVariants.{Polynomial, Bits, Target, Min, Max, Workers, Segment, Shards}
use Rattle.backup_top.specs.declared.settings.Settings.{Settings}
use Rattle.backup_top.proofs.KeysFlaws.{no_flaw}

none_found : {A : Type 0} (p : A → Bool) (xs : List A) → list_any p xs ≡ false → find p xs ≡ None
none_found p [] none = refl
none_found p (x ∷ xs) none = elim (cases_Bool (p x)) [
  | inl passes ↦ absurd (let no = rw passes at none in cc)
  | inr fails ↦ rw fails (none_found p xs (rw fails at none))
]

or_none : {A : Type 0} (found : Option A) → option_or found None ≡ found
or_none None = refl
or_none (Some x) = refl

-- a word sets a key that no word before it sets, or leaves its value
value_step : (key : Key) (before : List (List ℕ)) (word : List ℕ) (default : ℕ)
    → list_any (sets_key (key_name_of word)) before ≡ false
    → value_or_default (before ++ word ∷ []) key default
    ≡ value_after word key (value_or_default before key default)
value_step key before word default free = elim (cases_Bool (sets_key key.name word)) [
  | inl sets_it ↦
      let same : key_name_of word ≡ key.name = (bytes_eq-Decides (key_name_of word) key.name).0 sets_it in
      let none = none_found (sets_key key.name) before
      (ap (λ name. list_any (sets_key name) before) (sym same) ∙ free) in
      rw (find-append (sets_key key.name) before (word ∷ []), none, sets_it) refl
  | inr not ↦ rw (
    find-append (sets_key key.name) before (word ∷ []),
    not,
    or_none (find (sets_key key.name) before),
  ) refl
]

settings_step : (keys : List Key) (before : List (List ℕ)) (word : List ℕ) → bad_kind_of keys before word ≡ None
    → settings_of (before ++ word ∷ []) ≡ settings_after word (settings_of before)
settings_step keys before word none =
    let free = (no_flaw keys before word none).1 in
    rw (
      value_step polynomial_key before word default_params.polynomial free,
      value_step bits_key before word default_params.bits free,
      value_step target_key before word default_params.target free,
      value_step min_key before word default_params.min free,
      value_step max_key before word default_params.max free,
      value_step workers_key before word default_workers free,
      value_step segment_key before word default_segment free,
      value_step shards_key before word default_shards free,
    ) refl

-- the same of the words of a list, up to one without a flaw
pub set_step : {A : Type 0} (f : A → List ℕ) (keys : List Key) (words : List A) (i : ℕ) (d : A) → i < length words
    → bad_kind_of keys (map f (take i words)) (f (get_or words i d)) ≡ None
    → settings_of (map f (take (i + 1) words))
    ≡ settings_after (f (get_or words i d)) (settings_of (map f (take i words)))
set_step f keys words i d within none =
    rw (add-one i, take-suc words i d within, map-append f (take i words) (get_or words i d ∷ []))
    (settings_step keys (map f (take i words)) (f (get_or words i d)) none)

-- a word that sets a key to a value
pub setting_set : (setting : Setting) (word : List ℕ) (value : ℕ) (was : Settings)
    → key_name_of word ≡ (key_of setting).name → number_of (key_of setting) (value_of word) ≡ Some value
    → settings_after word was ≡ with_value setting value was
setting_set Polynomial word value was named number = rw (named, number) refl
setting_set Bits word value was named number = rw (named, number) refl
setting_set Target word value was named number = rw (named, number) refl
setting_set Min word value was named number = rw (named, number) refl
setting_set Max word value was named number = rw (named, number) refl
setting_set Workers word value was named number = rw (named, number) refl
setting_set Segment word value was named number = rw (named, number) refl
setting_set Shards word value was named number = rw (named, number) refl

-- what is wrong with a word that names a key is wrong with its value
pub bad_kind_by_value : (keys : List Key) (key : Key) (before : List (List ℕ)) (word : List ℕ)
    → list_any is_equals_sign word ≡ true → key_name_of word ≡ key.name
    → find (λ other. bytes_eq other.name (key_name_of word)) keys ≡ Some key
    → bad_kind_of_value (Some key) (list_any (sets_key key.name) before) (value_of word) ≡ bad_kind_of keys before word
bad_kind_by_value keys key before word cut named found = rw (cut, found, named) refl
