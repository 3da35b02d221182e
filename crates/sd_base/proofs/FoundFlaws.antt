-- Files that open have a first flaw, or none: each thing that an audit looks at can be decided.
use Rattle.std.proofs.Common.{◌≡◌, ◌≢◌, inl, inr, ◌⊎◌, ℕ, zero, suc, ◌<◌, true, false, Option, Some, None, List, [], length, take, slice_index_or, refl, sym, subst, ◌∙◌, arith}
use Rattle.std.specs.Int.{w64, from_be_bytes}
use Rattle.std.specs.List.{concat}
use Rattle.std.specs.Str.{bytes_eq}
use Rattle.std.proofs.lemmas.Bool.{cases_Bool, cases_lt}
use Rattle.std.proofs.lemmas.Slice.Eq.{bytes_eq-Decides}
use Rattle.sd_base.specs.Cutting.{chunks_of}
use Rattle.sd_base.specs.Distinct.{first_index}
use Rattle.sd_base.specs.Firsts.{HoldsAtPlaces, HoldsBelow, IsFirstFailing, IsFirstFailingPlace}
use Rattle.sd_base.specs.Flaws.{AreFlawless, AreInOrder, AreNamed, AreNew, HasMark, IsCutAt, IsFlawAmong, IsFlawOf, IsInOrder, IsNamed, IsNew, chunks_before, chunks_of_session, kept_in_book, occurred_before, places_and_end, places_of_session, recipe_in_book}
use Rattle.sd_base.specs.Opening.{OpenAs, Opened, needed_sizes}
use Rattle.sd_base.specs.Packing.{header_of}
use Rattle.sd_base.specs.declared.damage.Damage.{Damage}
use Rattle.sd_base.specs.declared.damage.Damage.TheVariants.{Mark, Chunk, Twin, Order, Cut}
use Rattle.sd_base.specs.declared.file.File.{File}
use Rattle.sd_base.specs.declared.file.File.TheVariants.{Container}
use Rattle.sd_base.specs.declared.limits.TheConstants.{CONTAINER_HEADER}
use Rattle.sd_base.proofs.MarkedContainers.{have-chunks}

-- it holds or it does not
abbrev Decided : Type 0 → Type 0
Decided P = P ⊎ (P → ⊥)

-- it holds of all numbers below n, or there is a first of which it does not
first-or-all : (n : ℕ) (P : ℕ → Type 0) → ((i : ℕ) → i < n → Decided (P i)) → HoldsBelow n P ⊎ ((k : ℕ) × IsFirstFailing n P k)
first-or-all zero P decide = inl (λ k below. absurd (omega arith))
first-or-all (suc n) P decide = elim (first-or-all n P (λ i within. decide i (omega arith))) [
  | inl all ↦ elim (decide n (omega arith)) [
    | inl last ↦ inl (λ k below. elim (cases_lt k n) [
      | inl before ↦ all k before
      | inr not_before ↦ let same : n ≡ k = omega arith in subst P same last
    ])
    | inr fails ↦ inr (n, record { within = omega arith; before = all; fails = fails })
  ]
  | inr first ↦
      let found = first.1 in
      inr (first.0, record { within = omega (arith, found.within); before = found.before; fails = found.fails })
]

decided-below : (n : ℕ) (P : ℕ → Type 0) → ((i : ℕ) → i < n → Decided (P i)) → Decided (HoldsBelow n P)
decided-below n P decide = elim (first-or-all n P decide) [
  | inl all ↦ inl all
  | inr first ↦ let found = first.1 in inr (λ all. found.fails (all first.0 found.within))
]

place-or-all : (sessions : ℕ) (places : ℕ → ℕ) (P : ℕ → ℕ → Type 0) → ((k place : ℕ) → Decided (P k place)) →
    HoldsAtPlaces sessions places P ⊎ ((k : ℕ) × (place : ℕ) × IsFirstFailingPlace sessions places P k place)
place-or-all sessions places P decide = elim (first-or-all sessions (λ k. HoldsBelow (places k) (P k)) (λ k within. decided-below (places k) (P k) (λ place inside. decide k place))) [
  | inl all ↦ inl all
  | inr first ↦
      let k = first.0 in
      let found = first.1 in
      elim (first-or-all (places k) (P k) (λ place inside. decide k place)) [
        | inl all ↦ absurd (found.fails all)
        | inr place ↦ inr (k, place.0, record { within = found.within; before = found.before; first = place.1 })
      ]
]

decided-equal : (a b : List ℕ) → Decided (a ≡ b)
decided-equal a b = elim (cases_Bool (bytes_eq a b)) [
  | inl same ↦ inl ((bytes_eq-Decides a b).0 same)
  | inr other ↦ inr (λ equal. let clash : false ≡ true = sym other ∙ (bytes_eq-Decides a b).1 equal in absurd cc)
]

decided-apart : (a b : List ℕ) → Decided (a ≢ b)
decided-apart a b = elim (decided-equal a b) [
  | inl same ↦ inr (λ apart. apart same)
  | inr other ↦ inl other
]

module _ (name_of : List ℕ → List ℕ) (opened : Opened) (chunks : List (List ℕ)) where
  decided-order : (k place : ℕ) → Decided (IsInOrder opened.book k place)
  decided-order k place =
      elim (cases_lt (occurred_before opened.book k place) (slice_index_or (recipe_in_book opened.book k) place (chunks_before opened.book (suc k)))) [
        | inl above ↦ inr (λ in_order. absurd (omega (arith, in_order, above)))
        | inr not_above ↦ inl not_above
      ]

  decided-cut : (k place : ℕ) → Decided (IsCutAt opened.head.params opened.book chunks k place)
  decided-cut k place =
      let session = chunks_of_session opened.book chunks k in
      decided-equal (slice_index_or session place []) (slice_index_or (chunks_of opened.head.params (concat session)) place [])

  FoundAmong : Type 0
  FoundAmong = AreFlawless name_of opened chunks ⊎ ((damage : Damage) × IsFlawAmong name_of opened chunks damage)

  found-cut : AreNamed name_of opened.book chunks → AreNew chunks → AreInOrder opened.book → FoundAmong
  unfolding FoundAmong
  found-cut named different in_order =
      elim (place-or-all (length opened.book.sessions) (places_of_session opened.book) (IsCutAt opened.head.params opened.book chunks) decided-cut) [
        | inl cut ↦ inl (record { named = named; different = different; in_order = in_order; cut = cut })
        | inr found ↦ inr (
          Cut found.0 found.1,
          inr (inr (inr (record { named = named; different = different; in_order = in_order; session = found.0; place = found.1; first = found.2; equals = refl }))),
        )
      ]

  found-order : AreNamed name_of opened.book chunks → AreNew chunks → FoundAmong
  unfolding FoundAmong
  found-order named different =
      elim (place-or-all (length opened.book.sessions) (places_and_end opened.book) (IsInOrder opened.book) decided-order) [
        | inl in_order ↦ found-cut named different in_order
        | inr found ↦ inr (
          Order found.0 found.1,
          inr (inr (inl (record { named = named; different = different; session = found.0; place = found.1; first = found.2; equals = refl }))),
        )
      ]

  found-twin : AreNamed name_of opened.book chunks → FoundAmong
  unfolding FoundAmong
  found-twin named =
      elim (first-or-all (length chunks) (IsNew chunks) (λ i within. decided-below i (λ j. slice_index_or chunks j [] ≢ slice_index_or chunks i []) (λ j below. decided-apart (slice_index_or chunks j []) (slice_index_or chunks i [])))) [
        | inl different ↦ found-order named different
        | inr found ↦ inr (
          Twin (first_index chunks (slice_index_or chunks found.0 [])) found.0,
          inr (inl (record { named = named; number = found.0; first = found.1; equals = refl })),
        )
      ]

  found-among : FoundAmong
  unfolding FoundAmong
  found-among =
      elim (first-or-all (length chunks) (IsNamed name_of opened.book chunks) (λ i within. decided-equal (name_of (slice_index_or chunks i [])) (kept_in_book opened.book i).name)) [
        | inl named ↦ found-twin named
        | inr found ↦ inr (
          Chunk found.0 (kept_in_book opened.book found.0).name (name_of (slice_index_or chunks found.0 [])),
          inl (record { number = found.0; first = found.1; equals = refl }),
        )
      ]

pub found-flaw : (name_of : List ℕ → List ℕ) (files : File → List ℕ) (opened : Opened) → OpenAs files opened →
    (flaw : Option Damage) × IsFlawOf name_of files opened flaw
unfolding FoundAmong
found-flaw name_of files opened opens =
    let bytes : ℕ → List ℕ = λ k. take CONTAINER_HEADER (files (Container opened.head.generation k)) in
    elim (first-or-all (length (needed_sizes opened.book)) (HasMark files opened) (λ k within. decided-equal (bytes k) (header_of k))) [
      | inl marks ↦
          let have = have-chunks files opened opens marks in
          elim (found-among name_of opened have.0) [
            | inl flawless ↦ (None, (have.0, have.1, flawless))
            | inr found ↦ (Some found.0, inr (have.0, have.1, found.1))
          ]
      | inr found ↦ (
        Some (Mark found.0 (from_be_bytes w64 (bytes found.0))),
        inl (record { number = found.0; first = found.1; equals = refl }),
      )
    ]
