-- Files that open so have one first flaw, or none: their containers have the chunks of one list, and
-- the first of what fails is one.
use Rattle.std.proofs.Common.{◌≡◌, inl, inr, ℕ, zero, suc, ◌+◌, ◌<◌, Option, Some, None, List, [], ◌∷◌, ◌++◌, length, map, take, slice_index_or, refl, sym, ap, ap₂, subst, ◌∙◌, append_assoc, length-append, arith}
use Rattle.std.specs.Prelude.{nat_le}
use Rattle.std.specs.Int.{w64, from_be_bytes}
use Rattle.std.proofs.Math.Seq.{take-append_seam}
use Rattle.std.proofs.lemmas.Bool.{cases_Bool, cases_lt}
use Rattle.std.proofs.lemmas.List.{append_cancel_left, length-map}
use Rattle.sd_base.proofs.Packing.{packed-fits, packed-opens}
use Rattle.sd_base.specs.Distinct.{first_index}
use Rattle.sd_base.specs.Firsts.{HoldsBelow, IsFirstFailing, IsFirstFailingPlace}
use Rattle.sd_base.specs.Flaws.{AreFlawless, AreInOrder, AreNamed, AreNew, HasMark, HaveChunks, IsChunkFlaw, IsFlawAmong, IsFlawOf, IsMarkFlaw, IsOrderFlaw, IsTwinFlaw, kept_in_book}
use Rattle.sd_base.specs.Opening.{Opened, needed_sizes}
use Rattle.sd_base.specs.Packing.{container_sizes, header_of, packed_on, packing}
use Rattle.sd_base.specs.Stores.{IsFrontOf}
use Rattle.sd_base.specs.declared.damage.Damage.{Damage}
use Rattle.sd_base.specs.declared.damage.Damage.TheVariants.{Mark, Chunk, Twin, Order, Cut}
use Rattle.sd_base.specs.declared.file.File.{File}
use Rattle.sd_base.specs.declared.file.File.TheVariants.{Container}
use Rattle.sd_base.specs.declared.limits.TheConstants.{CONTAINER_HEADER, MAX_CONTAINER}
use Rattle.sd_base.proofs.ContainerSizes.{sizes-packing}

-- two fronts of one list with one length are one
front-one : (a b bytes : List ℕ) → length a ≡ length b → IsFrontOf a bytes → IsFrontOf b bytes → a ≡ b
front-one a b bytes size first second =
    sym (take-append_seam a first.0) ∙ ap (take (length a)) (sym first.1 ∙ second.1)
    ∙ ap (λ (n : ℕ). take n (b ++ second.0)) size ∙ take-append_seam b second.0

AreFronts : List (List ℕ) → (ℕ → List ℕ) → Type 0
AreFronts containers files = (k : ℕ) → k < length containers → IsFrontOf (slice_index_or containers k []) (files k)

-- containers of chunks of the same lengths, at the front of the same files
packed-one : (files : ℕ → List ℕ) (number : ℕ) (a b : List ℕ) (xs ys : List (List ℕ)) → length a ≡ length b → map length xs ≡ map length ys →
    AreFronts (packed_on number a xs) files → AreFronts (packed_on number b ys) files → (a ≡ b) × (xs ≡ ys)
unfolding AreFronts
packed-one files number a b [] [] size sizes first second = (front-one a b (files 0) size (first 0 (omega arith)) (second 0 (omega arith)), refl)
packed-one files number a b [] (y ∷ ys) size sizes first second = absurd cc
packed-one files number a b (x ∷ xs) [] size sizes first second = absurd cc
packed-one files number a b (x ∷ xs) (y ∷ ys) size sizes first second =
    let own : length x ≡ length y = cc in
    let rest : map length xs ≡ map length ys = cc in
    let test : nat_le (length a + length x) MAX_CONTAINER ≡ nat_le (length b + length y) MAX_CONTAINER = ap₂ (λ (n m : ℕ). nat_le (n + m) MAX_CONTAINER) size own in
    elim (cases_Bool (nat_le (length a + length x) MAX_CONTAINER)) [
      | inl fits ↦
          let fits_too = sym test ∙ fits in
          let on = packed-fits number a x xs fits in
          let on_too = packed-fits number b y ys fits_too in
          let longer : length (a ++ x) ≡ length (b ++ y) = let p = length-append a x in let q = length-append b y in omega (arith, p, q, size, own) in
          let same = packed-one files number (a ++ x) (b ++ y) xs ys longer rest
          (subst (λ (cs : List (List ℕ)). AreFronts cs files) on first) (subst (λ (cs : List (List ℕ)). AreFronts cs files) on_too second) in
          let fronts : a ≡ b = front-one a b (a ++ x) size (x, refl) (y, same.0) in
          let chunk : x ≡ y = append_cancel_left a x y (same.0 ∙ ap (λ (l : List ℕ). l ++ y) (sym fronts)) in
          (fronts, ap₂ (λ (c : List ℕ) (cs : List (List ℕ)). c ∷ cs) chunk same.1)
      | inr full ↦
          let full_too = sym test ∙ full in
          let next = header_of (number + 1) in
          let on = packed-opens number a x xs full in
          let on_too = packed-opens number b y ys full_too in
          let all = subst (λ (cs : List (List ℕ)). AreFronts cs files) on first in
          let all_too = subst (λ (cs : List (List ℕ)). AreFronts cs files) on_too second in
          let longer : length (next ++ x) ≡ length (next ++ y) = let p = length-append next x in let q = length-append next y in omega (arith, p, q, own) in
          let same = packed-one (λ k. files (suc k)) (number + 1) (next ++ x) (next ++ y) xs ys longer rest
          (λ k within. all (suc k) (omega arith)) (λ k within. all_too (suc k) (omega arith)) in
          let fronts : a ≡ b = front-one a b (files 0) size (all 0 (omega arith)) (all_too 0 (omega arith)) in
          (fronts, ap₂ (λ (c : List ℕ) (cs : List (List ℕ)). c ∷ cs) (append_cancel_left next x y same.0) same.1)
    ]

packing-one : (files : ℕ → List ℕ) (xs ys : List (List ℕ)) → map length xs ≡ map length ys →
    AreFronts (packing xs) files → AreFronts (packing ys) files → xs ≡ ys
packing-one files [] [] sizes first second = refl
packing-one files [] (y ∷ ys) sizes first second = absurd cc
packing-one files (x ∷ xs) [] sizes first second = absurd cc
packing-one files (x ∷ xs) (y ∷ ys) sizes first second =
    let own : length x ≡ length y = cc in
    let rest : map length xs ≡ map length ys = cc in
    let head = header_of 0 in
    let longer : length (head ++ x) ≡ length (head ++ y) = let p = length-append head x in let q = length-append head y in omega (arith, p, q, own) in
    let same = packed-one files 0 (head ++ x) (head ++ y) xs ys longer rest first second in
    ap₂ (λ (c : List ℕ) (cs : List (List ℕ)). c ∷ cs) (append_cancel_left head x y same.0) same.1

-- each container begins with its header
packed-marks : (number : ℕ) (container body : List ℕ) (chunks : List (List ℕ)) → container ≡ header_of number ++ body → (k : ℕ) →
    k < length (packed_on number container chunks) →
    IsFrontOf (header_of (number + k)) (slice_index_or (packed_on number container chunks) k [])
packed-marks number container body [] begins zero within =
    (body, begins ∙ ap (λ (n : ℕ). header_of n ++ body) (omega arith))
packed-marks number container body [] begins (suc k) within = absurd (omega (arith, within))
packed-marks number container body (x ∷ chunks) begins k within =
    elim (cases_Bool (nat_le (length container + length x) MAX_CONTAINER)) [
      | inl fits ↦
          let on = packed-fits number container x chunks fits in
          let longer = ap (λ (l : List ℕ). l ++ x) begins ∙ append_assoc (header_of number) body x in
          subst (λ (cs : List (List ℕ)). IsFrontOf (header_of (number + k)) (slice_index_or cs k [])) (sym on)
          (packed-marks number (container ++ x) (body ++ x) chunks longer k (subst (λ (cs : List (List ℕ)). k < length cs) on within))
      | inr full ↦
          let next = header_of (number + 1) in
          let later = packed_on (number + 1) (next ++ x) chunks in
          let on = packed-opens number container x chunks full in
          subst (λ (cs : List (List ℕ)). IsFrontOf (header_of (number + k)) (slice_index_or cs k [])) (sym on)
          ((elim k as (λ n. n < length (container ∷ later) → IsFrontOf (header_of (number + n)) (slice_index_or (container ∷ later) n [])) [
            | zero ↦ λ first. (body, begins ∙ ap (λ (n : ℕ). header_of n ++ body) (omega arith))
            | suc n ↦ λ after.
                let there = packed-marks (number + 1) (next ++ x) x chunks refl n (omega arith) in
                (there.0, there.1 ∙ ap (λ (m : ℕ). header_of m ++ there.0) (omega arith))
          ]) (subst (λ (cs : List (List ℕ)). k < length cs) on within))
    ]

packing-marks : (chunks : List (List ℕ)) (k : ℕ) → k < length (packing chunks) → IsFrontOf (header_of k) (slice_index_or (packing chunks) k [])
packing-marks [] k within = absurd (omega (arith, within))
packing-marks (x ∷ chunks) k within =
    let there = packed-marks 0 (header_of 0 ++ x) x chunks refl k within in
    (there.0, there.1 ∙ ap (λ (m : ℕ). header_of m ++ there.0) (omega arith))

-- where something holds everywhere, no first failure is
clash : (n : ℕ) (Holds : ℕ → Type 0) (k : ℕ) → HoldsBelow n Holds → IsFirstFailing n Holds k → ⊥
clash n Holds k all first = first.fails (all k first.within)

-- the first failure is one
first-one : (n : ℕ) (Holds : ℕ → Type 0) (j k : ℕ) → IsFirstFailing n Holds j → IsFirstFailing n Holds k → j ≡ k
first-one n Holds j k first second = elim (cases_lt j k) [
  | inl below ↦ absurd (first.fails (second.before j below))
  | inr not_below ↦ elim (cases_lt k j) [
    | inl above ↦ absurd (second.fails (first.before k above))
    | inr not_above ↦ omega arith
  ]
]

module _ (sessions : ℕ) (places : ℕ → ℕ) (Holds : ℕ → ℕ → Type 0) (s p t q : ℕ)
    (first : IsFirstFailingPlace sessions places Holds s p) (second : IsFirstFailingPlace sessions places Holds t q) where
  session-one : s ≡ t
  session-one = elim (cases_lt s t) [
    | inl below ↦ absurd (clash (places s) (Holds s) p (second.before s below) first.first)
    | inr not_below ↦ elim (cases_lt t s) [
      | inl above ↦ absurd (clash (places t) (Holds t) q (first.before t above) second.first)
      | inr not_above ↦ omega arith
    ]
  ]

  place-one : p ≡ q
  place-one = first-one (places t) (Holds t) p q (subst (λ k. IsFirstFailing (places k) (Holds k) p) session-one first.first) second.first

module _ (name_of : List ℕ → List ℕ) (opened : Opened) (chunks : List (List ℕ)) where
  named-clash : (damage : Damage) → IsChunkFlaw name_of opened chunks damage → AreNamed name_of opened.book chunks → ⊥
  named-clash damage flaw named = flaw.first.fails (named flaw.number flaw.first.within)

  new-clash : (damage : Damage) → IsTwinFlaw name_of opened chunks damage → AreNew chunks → ⊥
  new-clash damage flaw new = flaw.first.fails (new flaw.number flaw.first.within)

  order-clash : (damage : Damage) → IsOrderFlaw name_of opened chunks damage → AreInOrder opened.book → ⊥
  order-clash damage flaw in_order = flaw.first.first.fails (in_order flaw.session flaw.first.within flaw.place flaw.first.first.within)

  flawless-clash : (damage : Damage) → IsFlawAmong name_of opened chunks damage → AreFlawless name_of opened chunks → ⊥
  flawless-clash damage flaw flawless = elim flaw [
    | inl chunk ↦ named-clash damage chunk flawless.named
    | inr later ↦ elim later [
      | inl twin ↦ new-clash damage twin flawless.different
      | inr later ↦ elim later [
        | inl order ↦ order-clash damage order flawless.in_order
        | inr cut ↦ cut.first.first.fails (flawless.cut cut.session cut.first.within cut.place cut.first.first.within)
      ]
    ]
  ]

  -- the flaws of two kinds are never both the first; of one kind, the first is one
  among-one : (a b : Damage) → IsFlawAmong name_of opened chunks a → IsFlawAmong name_of opened chunks b → a ≡ b
  among-one a b (inl x) (inl y) =
      x.equals
      ∙ ap (λ (n : ℕ). Chunk n (kept_in_book opened.book n).name (name_of (slice_index_or chunks n []))) (first-one (length chunks) _ x.number y.number x.first y.first)
      ∙ sym y.equals
  among-one a b (inl x) (inr (inl y)) = absurd (named-clash a x y.named)
  among-one a b (inl x) (inr (inr (inl y))) = absurd (named-clash a x y.named)
  among-one a b (inl x) (inr (inr (inr y))) = absurd (named-clash a x y.named)
  among-one a b (inr (inl x)) (inl y) = absurd (named-clash b y x.named)
  among-one a b (inr (inl x)) (inr (inl y)) =
      x.equals
      ∙ ap (λ (n : ℕ). Twin (first_index chunks (slice_index_or chunks n [])) n) (first-one (length chunks) _ x.number y.number x.first y.first)
      ∙ sym y.equals
  among-one a b (inr (inl x)) (inr (inr (inl y))) = absurd (new-clash a x y.different)
  among-one a b (inr (inl x)) (inr (inr (inr y))) = absurd (new-clash a x y.different)
  among-one a b (inr (inr (inl x))) (inl y) = absurd (named-clash b y x.named)
  among-one a b (inr (inr (inl x))) (inr (inl y)) = absurd (new-clash b y x.different)
  among-one a b (inr (inr (inl x))) (inr (inr (inl y))) =
      x.equals ∙ ap₂ (λ (s p : ℕ). Order s p) (session-one _ _ _ x.session x.place y.session y.place x.first y.first) (place-one _ _ _ x.session x.place y.session y.place x.first y.first)
      ∙ sym y.equals
  among-one a b (inr (inr (inl x))) (inr (inr (inr y))) = absurd (order-clash a x y.in_order)
  among-one a b (inr (inr (inr x))) (inl y) = absurd (named-clash b y x.named)
  among-one a b (inr (inr (inr x))) (inr (inl y)) = absurd (new-clash b y x.different)
  among-one a b (inr (inr (inr x))) (inr (inr (inl y))) = absurd (order-clash b y x.in_order)
  among-one a b (inr (inr (inr x))) (inr (inr (inr y))) =
      x.equals ∙ ap₂ (λ (s p : ℕ). Cut s p) (session-one _ _ _ x.session x.place y.session y.place x.first y.first) (place-one _ _ _ x.session x.place y.session y.place x.first y.first)
      ∙ sym y.equals

module _ (files : File → List ℕ) (opened : Opened) where
  -- the containers have the chunks of one list
  pub have-one : (xs ys : List (List ℕ)) → HaveChunks files opened xs → HaveChunks files opened ys → xs ≡ ys
  unfolding AreFronts
  have-one xs ys first second =
      packing-one (λ k. files (Container opened.head.generation k)) xs ys (first.lengths ∙ sym second.lengths) first.containers second.containers

  -- containers that have chunks have their marks
  mark-clash : (damage : Damage) (chunks : List (List ℕ)) → IsMarkFlaw files opened damage → HaveChunks files opened chunks → ⊥
  mark-clash damage chunks flaw have =
      let k = flaw.number in
      let many : length (needed_sizes opened.book) ≡ length (packing chunks) =
      ap (λ (ns : List ℕ). length (container_sizes ns)) (sym have.lengths) ∙ ap (λ (ns : List ℕ). length ns) (sym (sizes-packing chunks)) ∙ length-map (packing chunks) length in
      let within : k < length (packing chunks) = omega (arith, many, flaw.first.within) in
      let front = have.containers k within in
      let mark = packing-marks chunks k within in
      flaw.first.fails (ap (take CONTAINER_HEADER) (front.1 ∙ ap (λ (l : List ℕ). l ++ front.0) mark.1 ∙ append_assoc (header_of k) mark.0 front.0)
      ∙ take-append_seam (header_of k) (mark.0 ++ front.0))

pub one-flaw : (name_of : List ℕ → List ℕ) (files : File → List ℕ) (opened : Opened) (first second : Option Damage) →
    IsFlawOf name_of files opened first → IsFlawOf name_of files opened second → first ≡ second
one-flaw name_of files opened None None x y = refl
one-flaw name_of files opened None (Some b) x y = elim y [
  | inl mark ↦ absurd (mark-clash files opened b x.0 mark x.1)
  | inr among ↦
      let same = have-one files opened among.0 x.0 among.1 x.1 in
      absurd (flawless-clash name_of opened x.0 b (subst (λ (cs : List (List ℕ)). IsFlawAmong name_of opened cs b) same among.2) x.2)
]
one-flaw name_of files opened (Some a) None x y = elim x [
  | inl mark ↦ absurd (mark-clash files opened a y.0 mark y.1)
  | inr among ↦
      let same = have-one files opened among.0 y.0 among.1 y.1 in
      absurd (flawless-clash name_of opened y.0 a (subst (λ (cs : List (List ℕ)). IsFlawAmong name_of opened cs a) same among.2) y.2)
]
one-flaw name_of files opened (Some a) (Some b) (inl x) (inl y) =
    ap Some
    (x.equals
    ∙ ap (λ (n : ℕ). Mark n (from_be_bytes w64 (take CONTAINER_HEADER (files (Container opened.head.generation n))))) (first-one (length (needed_sizes opened.book)) (HasMark files opened) x.number y.number x.first y.first)
    ∙ sym y.equals)
one-flaw name_of files opened (Some a) (Some b) (inl x) (inr y) = absurd (mark-clash files opened a y.0 x y.1)
one-flaw name_of files opened (Some a) (Some b) (inr x) (inl y) = absurd (mark-clash files opened b x.0 y x.1)
one-flaw name_of files opened (Some a) (Some b) (inr x) (inr y) =
    let same = have-one files opened x.0 y.0 x.1 y.1 in
    ap Some (among-one name_of opened y.0 a b (subst (λ (cs : List (List ℕ)). IsFlawAmong name_of opened cs a) same x.2) y.2)
