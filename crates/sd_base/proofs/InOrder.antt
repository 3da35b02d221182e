-- Recipes that name chunks in the order in which they first occur, as a walk over their entries.
use Rattle.std.proofs.Common.{◌≡◌, ◌≢◌, inl, inr, ◌⊎◌, ℕ, zero, suc, ◌+◌, ◌<◌, ◌≤◌, true, false, List, [], ◌∷◌, ◌++◌, length, map, min, take, slice_index_or, refl, sym, ap, subst, ◌∙◌, append-nil, append_assoc, length-append, length-take, arith}
use Rattle.std.specs.List.{AllByRecursion, Contains}
use Rattle.std.specs.Str.{bytes_eq}
use Rattle.std.proofs.lemmas.Bool.{cases_Bool, cases_lt}
use Rattle.std.proofs.lemmas.List.{get_or-take, take_more}
use Rattle.sd_base.proofs.States.{among_own, among_second}
use Rattle.std.proofs.lemmas.Slice.Eq.{bytes_eq-Decides}
use Rattle.sd_base.specs.Distinct.{is_among, distinct, first_index, new_chunks}
use Rattle.sd_base.specs.Flaws.{IsNew}
use Rattle.sd_base.specs.Firsts.{HoldsBelow}
use Rattle.sd_base.proofs.Distinct.{distinct-append, first_index-append, is_among-distinct}
use Rattle.sd_base.proofs.StateBooks.{first_index-below}

-- Each entry is below the number of chunks that are known before it, or it is that number and one
-- chunk more is known after it. After the last entry `total` chunks are known.
abbrev pub IsWalk : ℕ → List ℕ → ℕ → Type 0
IsWalk known [] total = known ≡ total
IsWalk known (n ∷ entries) total = ((n < known) × IsWalk known entries total) ⊎ ((n ≡ known) × IsWalk (known + 1) entries total)

pub walk-le : (known : ℕ) (entries : List ℕ) (total : ℕ) → IsWalk known entries total → known ≤ total
walk-le known [] total walk = omega (arith, walk)
walk-le known (n ∷ entries) total walk = elim walk [
  | inl old ↦ walk-le known entries total old.1
  | inr new ↦ let later = walk-le (known + 1) entries total new.1 in omega (arith, later)
]

pub walk-below : (known : ℕ) (entries : List ℕ) (total : ℕ) → IsWalk known entries total → AllByRecursion (λ n. n < total) entries
walk-below known [] total walk = tt
walk-below known (n ∷ entries) total walk = elim walk [
  | inl old ↦ let later = walk-le known entries total old.1 in (omega (arith, later, old.0), walk-below known entries total old.1)
  | inr new ↦ let later = walk-le (known + 1) entries total new.1 in (omega (arith, later, new.0), walk-below (known + 1) entries total new.1)
]

-- chunk n is one of those known before, or these entries name it
abbrev pub HasOccurred : ℕ → List ℕ → ℕ → Type 0
HasOccurred known entries n = (n < known) ⊎ Contains entries n

-- at each place of the entries, and at their end, all chunks with lower numbers have occurred
abbrev pub IsOrdered : ℕ → List ℕ → ℕ → Type 0
IsOrdered known entries total =
    (place : ℕ) → place < suc (length entries) → (n : ℕ) → n < slice_index_or entries place total →
    HasOccurred known (take place entries) n

pub contains-later : (e n : ℕ) (entries : List ℕ) → Contains entries n → Contains (e ∷ entries) n
contains-later e n entries at = (suc at.0, omega (arith, at.1), at.2)

-- what occurs in entries is their first, or occurs later
pub contains-parts : (e n : ℕ) (entries : List ℕ) → Contains (e ∷ entries) n → (n ≡ e) ⊎ Contains entries n
contains-parts e n entries (zero, within, at) = inl (sym at)
contains-parts e n entries (suc k, within, at) = inr (k, omega (arith, within), at)

contains-none : (n : ℕ) → Contains [] n → ⊥
contains-none n at = absurd (omega (arith, at.1))

pub ordered-walk : (known : ℕ) (entries : List ℕ) (total : ℕ) → IsWalk known entries total → IsOrdered known entries total
ordered-walk known [] total walk place within n below = inl (omega (arith, walk, below))
ordered-walk known (e ∷ entries) total walk zero within n below = elim walk [
  | inl old ↦ inl (omega (arith, old.0, below))
  | inr new ↦ inl (omega (arith, new.0, below))
]
ordered-walk known (e ∷ entries) total walk (suc place) within n below = elim walk [
  | inl old ↦ elim (ordered-walk known entries total old.1 place (omega arith) n below) [
    | inl earlier ↦ inl earlier
    | inr among ↦ inr (contains-later e n (take place entries) among)
  ]
  | inr new ↦ elim (ordered-walk (known + 1) entries total new.1 place (omega arith) n below) [
    | inl earlier ↦ elim (cases_lt n known) [
      | inl before ↦ inl before
      | inr last ↦ let same : e ≡ n = omega (arith, new.0, earlier, last) in inr (0, omega arith, same)
    ]
    | inr among ↦ inr (contains-later e n (take place entries) among)
  ]
]

pub walk-ordered :
    (known : ℕ) (entries : List ℕ) (total : ℕ) → AllByRecursion (λ n. n < total) entries → known ≤ total →
    IsOrdered known entries total → IsWalk known entries total
walk-ordered known [] total below enough ordered = elim (cases_lt known total) [
  | inl less ↦ elim (ordered 0 (omega arith) known less) [
    | inl earlier ↦ absurd (omega (arith, earlier))
    | inr among ↦ absurd (contains-none known among)
  ]
  | inr all ↦ omega (arith, enough, all)
]
walk-ordered known (e ∷ entries) total below enough ordered = elim (cases_lt known e) [
  | inl above ↦ elim (ordered 0 (omega arith) known above) [
    | inl earlier ↦ absurd (omega (arith, earlier))
    | inr among ↦ absurd (contains-none known among)
  ]
  | inr not_above ↦ elim (cases_lt e known) [
    | inl old ↦ inl (
      old,
      walk-ordered known entries total below.1 enough (λ place within n lower.
          elim (ordered (suc place) (omega arith) n lower) [
            | inl earlier ↦ inl earlier
            | inr among ↦ elim (contains-parts e n (take place entries) among) [
              | inl first ↦ inl (omega (arith, first, old))
              | inr later ↦ inr later
            ]
          ]),
    )
    | inr not_old ↦ inr (
      omega (arith, not_above, not_old),
      walk-ordered (known + 1) entries total below.1 (omega (arith, below.0, not_above, not_old)) (λ place within n lower.
          elim (ordered (suc place) (omega arith) n lower) [
            | inl earlier ↦ inl (omega (arith, earlier))
            | inr among ↦ elim (contains-parts e n (take place entries) among) [
              | inl first ↦ inl (omega (arith, first, not_above))
              | inr later ↦ inr later
            ]
          ]),
    )
  ]
]

-- the distinct chunks with one chunk more: it is among them, or it comes after them
pub distinct-old : (chunks : List (List ℕ)) (c : List ℕ) → is_among chunks c ≡ true → distinct (chunks ++ c ∷ []) ≡ distinct chunks
distinct-old chunks c among = distinct-append chunks (c ∷ []) ∙ rw among (append-nil (distinct chunks))

pub distinct-new : (chunks : List (List ℕ)) (c : List ℕ) → is_among chunks c ≡ false → distinct (chunks ++ c ∷ []) ≡ distinct chunks ++ c ∷ []
distinct-new chunks c none = distinct-append chunks (c ∷ []) ∙ rw none refl

-- a chunk of a list is among it
pub among-at : (chunks : List (List ℕ)) (n : ℕ) → n < length chunks → is_among chunks (slice_index_or chunks n []) ≡ true
among-at [] n within = absurd (omega arith)
among-at (c ∷ chunks) zero within = rw ((bytes_eq-Decides c c).1 refl) refl
among-at (c ∷ chunks) (suc n) within = elim (cases_Bool (bytes_eq (slice_index_or chunks n []) c)) [
  | inl same ↦ rw same refl
  | inr other ↦ rw other (among-at chunks n (omega arith))
]

-- a chunk is not among those that differ from it
pub among-none : (chunks : List (List ℕ)) (c : List ℕ) → ((j : ℕ) → j < length chunks → slice_index_or chunks j [] ≢ c) → is_among chunks c ≡ false
among-none [] c apart = refl
among-none (d ∷ chunks) c apart = elim (cases_Bool (bytes_eq c d)) [
  | inl same ↦ absurd (apart 0 (omega arith) (sym ((bytes_eq-Decides c d).0 same)))
  | inr other ↦ rw other (among-none chunks c (λ j within. apart (suc j) (omega arith)))
]

-- the first index of a chunk that differs from all before it is its own
pub first_index-new : (chunks : List (List ℕ)) (n : ℕ) → n < length chunks → IsNew chunks n → first_index chunks (slice_index_or chunks n []) ≡ n
first_index-new [] n within new = absurd (omega arith)
first_index-new (c ∷ chunks) zero within new = rw ((bytes_eq-Decides c c).1 refl) refl
first_index-new (c ∷ chunks) (suc n) within new = elim (cases_Bool (bytes_eq (slice_index_or chunks n []) c)) [
  | inl same ↦ absurd (new 0 (omega arith) (sym ((bytes_eq-Decides (slice_index_or chunks n []) c).0 same)))
  | inr other ↦
      let rest = first_index-new chunks n (omega arith) (λ j below. new (suc j) (omega arith)) in
      rw other (omega (arith, rest))
]

first_index-last : (chunks : List (List ℕ)) (c : List ℕ) → is_among chunks c ≡ false → first_index (chunks ++ c ∷ []) c ≡ length chunks
first_index-last [] c none = rw ((bytes_eq-Decides c c).1 refl) refl
first_index-last (d ∷ chunks) c none = elim (cases_Bool (bytes_eq c d)) [
  | inl same ↦ let clash : true ≡ false = rw same at none in absurd cc
  | inr other ↦
      let rest = first_index-last chunks c (rw other at none) in
      rw other (omega (arith, rest))
]

-- chunks by their numbers among all that are stored are a walk
pub walk-numbers :
    (stored before chunks after : List (List ℕ)) → stored ≡ distinct (before ++ (chunks ++ after)) →
    IsWalk (length (distinct before)) (map (first_index stored) chunks) (length (distinct (before ++ chunks)))
walk-numbers stored before [] after whole = ap (λ (l : List (List ℕ)). length (distinct l)) (sym (append-nil before))
walk-numbers stored before (c ∷ chunks) after whole =
    let next = before ++ c ∷ [] in
    let all = distinct-append next (chunks ++ after) in
    let moved : stored ≡ distinct next ++ new_chunks next (chunks ++ after) =
    whole ∙ ap distinct (sym (append_assoc before (c ∷ []) (chunks ++ after))) ∙ all in
    let later = walk-numbers stored next chunks after (whole ∙ ap distinct (sym (append_assoc before (c ∷ []) (chunks ++ after)))) in
    let ended = subst (λ (l : List (List ℕ)). IsWalk (length (distinct next)) (map (first_index stored) chunks) (length (distinct l))) (append_assoc before (c ∷ []) chunks) later in
    let own : is_among (distinct next) c ≡ true = is_among-distinct next c ∙ among_second c before (c ∷ []) (among_own c []) in
    let number : first_index stored c ≡ first_index (distinct next) c =
    ap (λ (l : List (List ℕ)). first_index l c) moved ∙ first_index-append (distinct next) (new_chunks next (chunks ++ after)) c own in
    let end = length (distinct (before ++ (c ∷ chunks))) in
    elim (cases_Bool (is_among before c)) [
      | inl among ↦
          let same = distinct-old before c among in
          let below = first_index-below (distinct before) c (is_among-distinct before c ∙ among) in
          let here = number ∙ ap (λ (l : List (List ℕ)). first_index l c) same in
          inl (omega (arith, below, here), subst (λ (k : ℕ). IsWalk k (map (first_index stored) chunks) end) (ap length same) ended)
      | inr none ↦
          let longer = distinct-new before c none in
          let last = first_index-last (distinct before) c (is_among-distinct before c ∙ none) in
          let here = number ∙ ap (λ (l : List (List ℕ)). first_index l c) longer in
          let one_more : length (distinct next) ≡ length (distinct before) + 1 = ap length longer ∙ length-append (distinct before) (c ∷ []) in
          inr (here ∙ last, subst (λ (k : ℕ). IsWalk k (map (first_index stored) chunks) end) one_more ended)
    ]

module _ (chunks : List (List ℕ)) (apart : HoldsBelow (length chunks) (IsNew chunks)) where
  -- if the chunks so far are the first ones, a walk of further numbers adds the next ones
  pub distinct-walk :
      (before : List (List ℕ)) (known : ℕ) (entries : List ℕ) (total : ℕ) → IsWalk known entries total → total ≤ length chunks →
      distinct before ≡ take known chunks →
      distinct (before ++ map (λ n. slice_index_or chunks n []) entries) ≡ take total chunks
  distinct-walk before known [] total walk enough same =
      ap distinct (append-nil before) ∙ same ∙ ap (λ (k : ℕ). take k chunks) walk
  distinct-walk before known (n ∷ entries) total walk enough same =
      let c = slice_index_or chunks n [] in
      let moved = sym (append_assoc before (c ∷ []) (map (λ n. slice_index_or chunks n []) entries)) in
      let front = take known chunks in
      let size : length front ≡ min known (length chunks) = length-take known chunks in
      elim walk [
        | inl old ↦
            let most = walk-le known entries total old.1 in
            let there : slice_index_or front n [] ≡ c = get_or-take known chunks n [] old.0 in
            let among : is_among before c ≡ true =
            sym (is_among-distinct before c) ∙ ap (λ (l : List (List ℕ)). is_among l c) same
            ∙ subst (λ (d : List ℕ). is_among front d ≡ true) there (among-at front n (omega (arith, size, old.0, most, enough))) in
            ap distinct moved ∙ distinct-walk (before ++ c ∷ []) known entries total old.1 enough (distinct-old before c among ∙ same)
        | inr new ↦
            let most = walk-le (known + 1) entries total new.1 in
            let apart_here = apart n (omega (arith, new.0, most, enough)) in
            let none : is_among before c ≡ false =
            sym (is_among-distinct before c) ∙ ap (λ (l : List (List ℕ)). is_among l c) same
            ∙ among-none front c (λ j within equal.
            let lower : j < known = omega (arith, size, within) in
            apart_here j (omega (arith, lower, new.0)) (sym (get_or-take known chunks j [] lower) ∙ equal)) in
            let last : front ++ c ∷ [] ≡ take (known + 1) chunks =
            ap (λ (k : ℕ). front ++ slice_index_or chunks k [] ∷ []) new.0 ∙ sym (take_more chunks known [] (omega (arith, most, enough))) in
            ap distinct moved
            ∙ distinct-walk (before ++ c ∷ []) (known + 1) entries total new.1 enough
            (distinct-new before c none ∙ ap (λ (l : List (List ℕ)). l ++ c ∷ []) same ∙ last)
      ]

  -- the numbers of chunks that are named are the entries that name them
  pub numbers-of_entries :
      (entries : List ℕ) → AllByRecursion (λ n. n < length chunks) entries →
      map (first_index chunks) (map (λ n. slice_index_or chunks n []) entries) ≡ entries
  numbers-of_entries [] below = refl
  numbers-of_entries (n ∷ entries) below =
      rw (first_index-new chunks n below.0 (apart n below.0)) (ap (λ (ns : List ℕ). n ∷ ns) (numbers-of_entries entries below.1))
