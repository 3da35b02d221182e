-- The distinct chunks of a longer list begin with those of a shorter one.
use Rattle.std.proofs.Common.{◌≡◌, inl, inr, ℕ, Bool, true, false, List, [], ◌∷◌, ◌++◌, ◌+◌, refl, ap, sym, subst, ◌∙◌}
use Rattle.std.specs.Prelude.{not, ◌||◌}
use Rattle.std.specs.List.{list_any}
use Rattle.std.specs.Str.{bytes_eq}
use Rattle.std.proofs.lemmas.Bool.{cases_Bool}
use Rattle.std.proofs.lemmas.Map.Views.{any-filter_same}
use Rattle.std.proofs.lemmas.Slice.Eq.{bytes_eq-Decides}
use Rattle.std.proofs.lemmas.List.Elements.{filter-append}
use Rattle.sd_base.specs.Distinct.{is_among, not_among, distinct, first_index, new_chunks, AreDifferent}

-- nothing is among no chunks
not_among-nothing : (chunks : List (List ℕ)) → not_among [] chunks ≡ chunks
not_among-nothing [] = refl
not_among-nothing (chunk ∷ chunks) = ap (λ rest. chunk ∷ rest) (not_among-nothing chunks)

-- chunks that are among neither one chunk nor others are among neither together
not_among-both : (chunk : List ℕ) (others chunks : List (List ℕ)) →
    not_among (chunk ∷ []) (not_among others chunks) ≡ not_among (chunk ∷ others) chunks
not_among-both chunk others [] = refl
not_among-both chunk others (first ∷ chunks) =
    let more = not_among-both chunk others chunks in
    elim (cases_Bool (list_any (bytes_eq first) others)) [
      | inl among ↦ elim (cases_Bool (bytes_eq first chunk)) [
        | inl same ↦ rw (among, same) more
        | inr other ↦ rw (among, other) more
      ]
      | inr alone ↦ elim (cases_Bool (bytes_eq first chunk)) [
        | inl same ↦ rw (alone, same) more
        | inr other ↦ rw (alone, other) (ap (λ rest. first ∷ rest) more)
      ]
    ]

pub distinct-append : (xs ys : List (List ℕ)) → distinct (xs ++ ys) ≡ distinct xs ++ new_chunks xs ys
distinct-append [] ys = sym (not_among-nothing (distinct ys))
distinct-append (x ∷ xs) ys =
    ap (λ rest. x ∷ not_among (x ∷ []) rest) (distinct-append xs ys)
    ∙ ap (λ rest. x ∷ rest) (filter-append (λ chunk. not (is_among (x ∷ []) chunk)) (distinct xs) (not_among xs (distinct ys)))
    ∙ ap (λ rest. x ∷ (not_among (x ∷ []) (distinct xs) ++ rest)) (not_among-both x xs (distinct ys))

-- what equals a chunk is not another chunk
others_are_kept : (first chunk : List ℕ) → bytes_eq chunk first ≡ false →
    (d : List ℕ) → bytes_eq chunk d ≡ true → not (is_among (first ∷ []) d) ≡ true
others_are_kept first chunk other d same =
    let equal : chunk ≡ d = (bytes_eq-Decides chunk d).0 same in
    rw (subst (λ e. bytes_eq e first ≡ false) equal other) refl

-- a chunk is among the distinct ones of a list exactly if it is in the list
pub is_among-distinct : (chunks : List (List ℕ)) (chunk : List ℕ) → is_among (distinct chunks) chunk ≡ is_among chunks chunk
is_among-distinct [] chunk = refl
is_among-distinct (first ∷ chunks) chunk =
    elim (cases_Bool (bytes_eq chunk first)) [
      | inl same ↦ rw same refl
      | inr other ↦
          let kept : is_among (not_among (first ∷ []) (distinct chunks)) chunk ≡ is_among (distinct chunks) chunk =
          any-filter_same (bytes_eq chunk) (λ d. not (is_among (first ∷ []) d)) true (others_are_kept first chunk other) (distinct chunks)
          in rw (other, kept) (is_among-distinct chunks chunk)
    ]

-- the first index of a chunk that is there stays if more chunks follow
pub first_index-append : (xs ys : List (List ℕ)) (chunk : List ℕ) → is_among xs chunk ≡ true → first_index (xs ++ ys) chunk ≡ first_index xs chunk
first_index-append [] ys chunk among = absurd cc
first_index-append (x ∷ xs) ys chunk among =
    elim (cases_Bool (bytes_eq chunk x)) [
      | inl same ↦ rw same refl
      | inr other ↦ rw other (ap (λ k. 1 + k) (first_index-append xs ys chunk (rw other at among)))
    ]

-- neither of two tests passes
or_parts : (a b : Bool) → (a || b) ≡ false → (a ≡ false) × (b ≡ false)
or_parts true b none = absurd cc
or_parts false b none = (refl, none)

unequal_too : (xs ys : List ℕ) → bytes_eq xs ys ≡ false → bytes_eq ys xs ≡ false
unequal_too xs ys other = elim (cases_Bool (bytes_eq ys xs)) [
  | inl same ↦
      let clash : false ≡ true = sym other ∙ (bytes_eq-Decides xs ys).1 (sym ((bytes_eq-Decides ys xs).0 same)) in
      absurd cc
  | inr unequal ↦ unequal
]

-- what is not among chunks is not among fewer of them
not_among-fewer : (others chunks : List (List ℕ)) (chunk : List ℕ) → is_among chunks chunk ≡ false → is_among (not_among others chunks) chunk ≡ false
not_among-fewer others [] chunk none = refl
not_among-fewer others (first ∷ chunks) chunk none =
    let parts = or_parts (bytes_eq chunk first) (is_among chunks chunk) none in
    elim (cases_Bool (is_among others first)) [
      | inl among ↦ rw among (not_among-fewer others chunks chunk parts.1)
      | inr alone ↦ rw alone (rw parts.0 (not_among-fewer others chunks chunk parts.1))
    ]

-- a chunk is not among those that are left without it
none_left : (chunk : List ℕ) (chunks : List (List ℕ)) → is_among (not_among (chunk ∷ []) chunks) chunk ≡ false
none_left chunk [] = refl
none_left chunk (first ∷ chunks) = elim (cases_Bool (bytes_eq first chunk)) [
  | inl same ↦ rw same (none_left chunk chunks)
  | inr other ↦ rw other (rw (unequal_too first chunk other) (none_left chunk chunks))
]

-- a filter leaves different chunks different
different-not_among : (others chunks : List (List ℕ)) → AreDifferent chunks → AreDifferent (not_among others chunks)
different-not_among others [] different = tt
different-not_among others (chunk ∷ chunks) different = elim (cases_Bool (is_among others chunk)) [
  | inl among ↦ rw among (different-not_among others chunks different.1)
  | inr alone ↦ rw alone (not_among-fewer others chunks chunk different.0, different-not_among others chunks different.1)
]

pub distinct-different : (chunks : List (List ℕ)) → AreDifferent (distinct chunks)
distinct-different [] = tt
distinct-different (chunk ∷ chunks) =
    (none_left chunk (distinct chunks), different-not_among (chunk ∷ []) (distinct chunks) (distinct-different chunks))
