-- A word and its flaw. Each word without one sets a key that no earlier word sets, so there are no
-- more such words than keys.
use Rattle.std.proofs.Common.{◌≡◌, ◌≢◌, ℕ, ◌+◌, ◌≤◌, ◌<◌, Bool, true, false, cond, List, [], ◌∷◌, ◌++◌, map, length, get_or, take, drop, Option, Some, None, refl, sym, ap, ◌∙◌, inl, inr, arith, add-one}
use Rattle.std.proofs.Math.Seq.{drop-cons, take-suc}
use Rattle.std.proofs.lemmas.Bool.{cases_Bool}
use Rattle.std.proofs.lemmas.List.{map-append}
use Rattle.std.proofs.lemmas.List.Folds.{list_any-append}
use Rattle.std.proofs.lemmas.Slice.Eq.{bytes_eq-Decides}
use Rattle.std.specs.List.{find, list_any}
use Rattle.std.specs.Str.{bytes_eq}
use Rattle.sd_base.specs.declared.words.BadKind.TheVariants.{Key as NoKey}
use Rattle.sd_base.specs.Keys.{Key, is_equals_sign, key_name_of, value_of, sets_key, bad_kind_of_value, bad_kind_of, first_bad_word}

abbrev pub is_named : List ℕ → Key → Bool
is_named name key = bytes_eq key.name name

-- how many keys no word sets
abbrev pub unset : List Key → List (List ℕ) → ℕ
unset [] words = 0
unset (key ∷ keys) words = cond (list_any (sets_key key.name) words) 0 1 + unset keys words

-- one more word, after which each key that was set is set
more : (keys : List Key) (before : List (List ℕ)) (word : List ℕ)
    → unset keys (before ++ word ∷ []) ≤ unset keys before
more [] before word = omega arith
more (key ∷ keys) before word =
    let rest = more keys before word in
    elim (cases_Bool (list_any (sets_key key.name) before)) [
      | inl set ↦ rw (list_any-append (sets_key key.name) before (word ∷ []), set) (omega arith)
      | inr free ↦ elim (cases_Bool (sets_key key.name word)) [
        | inl sets_it ↦ rw (list_any-append (sets_key key.name) before (word ∷ []), free, sets_it)
            (omega arith)
        | inr not ↦ rw (list_any-append (sets_key key.name) before (word ∷ []), free, not) (omega arith)
      ]
    ]

-- a word that sets a key that was not set
one_less : (keys : List Key) (before : List (List ℕ)) (word : List ℕ)
    → find (is_named (key_name_of word)) keys ≢ None → list_any (sets_key (key_name_of word)) before ≡ false
    → unset keys (before ++ word ∷ []) + 1 ≤ unset keys before
one_less [] before word known free = absurd (known refl)
one_less (key ∷ keys) before word known free =
    elim (cases_Bool (is_named (key_name_of word) key)) [
      | inl here ↦
          let same : key.name ≡ key_name_of word = (bytes_eq-Decides key.name (key_name_of word)).0 here in
          let was : list_any (sets_key key.name) before ≡ false =
          ap (λ name. list_any (sets_key name) before) same ∙ free in
          let is : sets_key key.name word ≡ true =
          (bytes_eq-Decides (key_name_of word) key.name).1 (sym same) in
          let rest = more keys before word in
          rw (list_any-append (sets_key key.name) before (word ∷ []), was, is) (omega arith)
      | inr other ↦
          let later : find (is_named (key_name_of word)) keys ≢ None = λ none. known (rw other none) in
          let rest = one_less keys before word later free in
          let here = more (key ∷ []) before word in
          omega arith
    ]

no_bad_kind_of_value : (key : Option Key) (twice : Bool) (value : List ℕ)
    → bad_kind_of_value key twice value ≡ None → (key ≢ None) × (twice ≡ false)
no_bad_kind_of_value None twice value none = absurd (cc)
no_bad_kind_of_value (Some key) true value none = absurd (cc)
no_bad_kind_of_value (Some key) false value none = (λ no. absurd (cc), refl)

-- what is known of a word without a flaw
pub no_flaw : (keys : List Key) (before : List (List ℕ)) (word : List ℕ)
    → bad_kind_of keys before word ≡ None
    → (find (is_named (key_name_of word)) keys ≢ None)
    × (list_any (sets_key (key_name_of word)) before ≡ false)
no_flaw keys before word none = elim (cases_Bool (list_any is_equals_sign word)) [
  | inl cut ↦ no_bad_kind_of_value _ _ (value_of word) (rw cut at none)
  | inr uncut ↦ absurd (let bad = rw uncut at none in cc)
]

-- a word without a flaw leaves one key less
pub left_step : {A : Type 0} (f : A → List ℕ) (keys : List Key) (words : List A) (i : ℕ) (d : A)
    → i < length words → bad_kind_of keys (map f (take i words)) (f (get_or words i d)) ≡ None
    → unset keys (map f (take (i + 1) words)) + 1 ≤ unset keys (map f (take i words))
left_step f keys words i d within none =
    let known = no_flaw keys (map f (take i words)) (f (get_or words i d)) none in
    rw (add-one i, take-suc words i d within, map-append f (take i words) (get_or words i d ∷ []))
    (one_less keys (map f (take i words)) (f (get_or words i d)) known.0 known.1)

-- if a word has no flaw, the first flaw is a later word's
pub later_step : {A : Type 0} (f : A → List ℕ) (keys : List Key) (place : ℕ) (words : List A) (i : ℕ) (d : A)
    → i < length words → bad_kind_of keys (map f (take i words)) (f (get_or words i d)) ≡ None
    → first_bad_word keys (map f (take i words)) (i + place) (map f (drop i words))
    ≡ first_bad_word keys (map f (take (i + 1) words)) (i + 1 + place) (map f (drop (i + 1) words))
later_step f keys place words i d within none =
    let next : i + place + 1 ≡ i + 1 + place = omega arith in
    rw (
      drop-cons words i d within,
      none,
      sym next,
      add-one i,
      take-suc words i d within,
      map-append f (take i words) (get_or words i d ∷ []),
    ) refl

-- if there are no keys, the first word is bad
pub first_is_bad : {A : Type 0} (f : A → List ℕ) (place : ℕ) (words : List A) → 1 ≤ length words
    → first_bad_word [] [] place (map f words) ≡ Some (record { kind = NoKey; place = place })
first_is_bad f place [] some = absurd (omega arith)
first_is_bad f place (word ∷ words) some = elim (cases_Bool (list_any is_equals_sign (f word))) [
  | inl cut ↦ rw cut refl
  | inr uncut ↦ rw uncut refl
]
