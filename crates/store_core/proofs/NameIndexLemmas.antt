-- An index of the first of each name, and one name more.
use Rattle.std.proofs.Common.{◌≡◌, ℕ, zero, suc, take, ◌+◌, ◌<◌, ◌≤◌, Bool, true, false, cond, List, [], ◌∷◌, ◌++◌, length, length-append, get_or, Option, Some, None, refl, sym, ap, subst, ◌∙◌, arith, inl, inr}
use Rattle.std.specs.Prelude.{is_some, nat_lt, not}
use Rattle.std.specs.HashMap.{Updates, get}
use Rattle.std.specs.List.{position, position_or_len}
use Rattle.std.specs.Str.{bytes_eq}
use Rattle.std.proofs.lemmas.Bool.{cases_Bool, cases_lt, eq-eqb, le-ltb, lt-ltb}
use Rattle.std.proofs.lemmas.List.Folds.{position_or_len_push}
use Rattle.std.proofs.lemmas.List.Quantifiers.{position-Some}
use Rattle.std.proofs.lemmas.List.Sums.{position_or_len_is, prefix_len-le-length}
use Rattle.std.proofs.lemmas.List.{get_or_append_left}
use Rattle.std.proofs.lemmas.Slice.Eq.{bytes_eq-Decides}
use Rattle.store_core.specs.NameIndex.{FirstNumbers, HasFirsts}
use Rattle.sd_base.specs.declared.record.NewChunk.{NewChunk}
use Rattle.store_core.specs.StoreFields.{names_of}

abbrev Names : Type 0
Names = List (List ℕ)

-- ---- the first place of a name, if one more comes

module _ (p : List ℕ → Bool) (xs : Names) where
  at_first : (k : ℕ) → k < length xs → position_or_len p xs ≡ k → position p xs ≡ Some k
  at_first k lt is =
      ap (λ n. cond (nat_lt n (length xs)) (Some n) None) is ∙ ap (λ b. cond b (Some k) None) (lt-ltb k (length xs) lt)

  at_none : length xs ≤ position_or_len p xs → position p xs ≡ None
  at_none le = ap (λ b. cond b (Some (position_or_len p xs)) None) (le-ltb (position_or_len p xs) (length xs) le)

  pub none_is : position p xs ≡ None → position_or_len p xs ≡ length xs
  none_is is =
      elim (cases_lt (position_or_len p xs) (length xs)) [
        | inl lt ↦ (let clash : Some (position_or_len p xs) ≡ None = sym (at_first (position_or_len p xs) lt refl) ∙ is in absurd cc)
        | inr le ↦ omega (arith, le, prefix_len-le-length (λ x. not (p x)) xs)
      ]

module _ (p : List ℕ → Bool) (xs : Names) (y : List ℕ) where
  position-kept : (k : ℕ) → position p xs ≡ Some k → position p (xs ++ y ∷ []) ≡ Some k
  position-kept k is =
      let found = position-Some p xs k [] is in
      let longer : k < length (xs ++ y ∷ []) = omega (arith, found.0, length-append xs (y ∷ [])) in
      at_first p (xs ++ y ∷ []) k longer
      (position_or_len_is p (xs ++ y ∷ []) k [] (omega (arith, longer))
      (λ j lt. ap p (get_or_append_left xs (y ∷ []) [] j (omega (arith, lt, found.0))) ∙ found.2 j lt)
      (λ _. ap p (get_or_append_left xs (y ∷ []) [] k found.0) ∙ found.1))

  pushed : position p xs ≡ None → position_or_len p (xs ++ y ∷ []) ≡ length xs + cond (p y) 0 1
  pushed is =
      position_or_len_push p xs y
      ∙ ap (λ b. cond b (length xs + cond (p y) 0 1) (position_or_len p xs)) (eq-eqb (position_or_len p xs) (length xs) (none_is p xs is))

  position-new : position p xs ≡ None → p y ≡ true → position p (xs ++ y ∷ []) ≡ Some (length xs)
  position-new is passes =
      at_first p (xs ++ y ∷ []) (length xs) (omega (arith, length-append xs (y ∷ [])))
      (let at = pushed is ∙ ap (λ b. length xs + cond b 0 1) passes in omega (arith, at))

  position-not : position p xs ≡ None → p y ≡ false → position p (xs ++ y ∷ []) ≡ None
  position-not is fails =
      let at = pushed is ∙ ap (λ b. length xs + cond b 0 1) fails in
      at_none p (xs ++ y ∷ []) (omega (arith, at, length-append xs (y ∷ [])))

-- ---- one name more

is_one : (q name : List ℕ) → bytes_eq q name ≡ true → q ≡ name
is_one q name same = (bytes_eq-Decides q name).0 same

itself : (name : List ℕ) → bytes_eq name name ≡ true
itself name = (bytes_eq-Decides name name).1 refl

not_back : (q name : List ℕ) → bytes_eq q name ≡ false → bytes_eq name q ≡ false
not_back q name other =
    elim (cases_Bool (bytes_eq name q)) [
      | inl same ↦ (let back : bytes_eq q name ≡ true = subst (λ n. bytes_eq n name ≡ true) (is_one name q same) (itself name) in absurd cc)
      | inr differs ↦ differs
    ]

-- the first places of other names stay
others-stay : (names : Names) (name q : List ℕ) (found : Option ℕ) → bytes_eq q name ≡ false → position (bytes_eq q) names ≡ found →
    position (bytes_eq q) (names ++ name ∷ []) ≡ found
others-stay names name q (Some k) other is = position-kept (bytes_eq q) names name k is
others-stay names name q None other is = position-not (bytes_eq q) names name is other

known-stays : (names : Names) (name : List ℕ) (found : Option ℕ) → is_some found ≡ true → position (bytes_eq name) names ≡ found →
    position (bytes_eq name) (names ++ name ∷ []) ≡ found
known-stays names name (Some k) some is = position-kept (bytes_eq name) names name k is
known-stays names name None some is = absurd cc

first-is_new : (names : Names) (name : List ℕ) (found : Option ℕ) → is_some found ≡ false → position (bytes_eq name) names ≡ found →
    position (bytes_eq name) (names ++ name ∷ []) ≡ Some (length names)
first-is_new names name (Some k) none is = absurd cc
first-is_new names name None none is = position-new (bytes_eq name) names name is (itself name)

module _ (map : FirstNumbers) (names : Names) (name : List ℕ) (has : HasFirsts map names) where
  pub HasFirsts-known : is_some (get bytes_eq map name) ≡ true → HasFirsts map (names ++ name ∷ [])
  HasFirsts-known known = λ q.
      elim (cases_Bool (bytes_eq q name)) [
        | inl same ↦ subst (λ n. get bytes_eq map n ≡ position (bytes_eq n) (names ++ name ∷ [])) (sym (is_one q name same))
            (sym (known-stays names name (get bytes_eq map name) known (sym (has name))))
        | inr other ↦ sym (others-stay names name q (get bytes_eq map q) other (sym (has q)))
      ]

  pub HasFirsts-new : (new : FirstNumbers) → is_some (get bytes_eq map name) ≡ false → Updates bytes_eq map new name (Some (length names)) →
      HasFirsts new (names ++ name ∷ [])
  HasFirsts-new new none updates = λ q.
      elim (cases_Bool (bytes_eq q name)) [
        | inl same ↦ subst (λ n. get bytes_eq new n ≡ position (bytes_eq n) (names ++ name ∷ [])) (sym (is_one q name same))
            (updates.0 name ∙ ap (λ b. cond b (Some (length names)) (get bytes_eq map name)) (itself name)
            ∙ sym (first-is_new names name (get bytes_eq map name) none (sym (has name))))
        | inr other ↦ updates.0 q ∙ ap (λ b. cond b (Some (length names)) (get bytes_eq map q)) (not_back q name other)
            ∙ sym (others-stay names name q (get bytes_eq map q) other (sym (has q)))
      ]

-- ---- the names of the first chunks, and one chunk more

pub take-one_more : (chunks : List NewChunk) (k : ℕ) (none : NewChunk) → k < length chunks →
    take (suc k) (names_of chunks) ≡ take k (names_of chunks) ++ (get_or chunks k none).name ∷ []
take-one_more [] k none lt = absurd (omega (arith, lt))
take-one_more (chunk ∷ chunks) zero none lt = refl
take-one_more (chunk ∷ chunks) (suc k) none lt =
    ap (λ (names : Names). chunk.name ∷ names) (take-one_more chunks k none (omega (arith, lt)))
