-- If each container of a book is long enough and begins with its header, then the containers have
-- chunks of the lengths that the book keeps.
use Rattle.std.proofs.Common.{◌≡◌, inl, inr, ℕ, zero, suc, ◌+◌, ◌<◌, ◌≤◌, true, false, List, [], ◌∷◌, ◌++◌, length, map, take, drop, slice_index_or, refl, sym, ap, ap₂, subst, ◌∙◌, append_assoc, length-append, length-take, arith}
use Rattle.std.specs.Prelude.{nat_le}
use Rattle.std.proofs.lemmas.Bool.{cases_Bool}
use Rattle.std.proofs.lemmas.List.{take-append-drop}
use Rattle.sd_base.proofs.Packing.{packed-fits, packed-opens, sizes-fits, sizes-opens}
use Rattle.sd_base.specs.Flaws.{HasMark, HaveChunks}
use Rattle.sd_base.specs.Firsts.{HoldsBelow}
use Rattle.sd_base.specs.Opening.{OpenAs, Opened, chunk_lengths, needed_sizes}
use Rattle.sd_base.specs.Packing.{container_sizes, header_of, packed_on, packing, sizes_on}
use Rattle.sd_base.specs.Stores.{IsFrontOf}
use Rattle.sd_base.specs.declared.file.File.{File}
use Rattle.sd_base.specs.declared.file.File.TheVariants.{Container}
use Rattle.sd_base.specs.declared.limits.TheConstants.{CONTAINER_HEADER, MAX_CONTAINER}

-- the first of the sizes is at least that of the container that is open
sizes-first : (size : ℕ) (lengths : List ℕ) → size ≤ slice_index_or (sizes_on size lengths) 0 0
sizes-first size [] = omega arith
sizes-first size (n ∷ lengths) = elim (cases_Bool (nat_le (size + n) MAX_CONTAINER)) [
  | inl fits ↦ rw fits (let later = sizes-first (size + n) lengths in omega (arith, later))
  | inr full ↦ rw full (omega arith)
]

some-sizes : (size : ℕ) (lengths : List ℕ) → 0 < length (sizes_on size lengths)
some-sizes size [] = omega arith
some-sizes size (n ∷ lengths) = elim (cases_Bool (nat_le (size + n) MAX_CONTAINER)) [
  | inl fits ↦ rw fits (some-sizes (size + n) lengths)
  | inr full ↦ rw full (omega arith)
]

-- the chunks of these lengths that containers have from an open one on
record HaveFrom (files : ℕ → List ℕ) (number : ℕ) (container : List ℕ) (lengths : List ℕ) : Type 0 where
  chunks : List (List ℕ)
  sizes : map length chunks ≡ lengths
  fronts : (k : ℕ) → k < length (packed_on number container chunks) → IsFrontOf (slice_index_or (packed_on number container chunks) k []) (files k)

-- the next bytes after a front
next-front : (front bytes : List ℕ) (n : ℕ) → IsFrontOf front bytes → length front + n ≤ length bytes →
    (chunk : List ℕ) × (length chunk ≡ n) × IsFrontOf (front ++ chunk) bytes
next-front front bytes n begins enough =
    let rest = begins.0 in
    let chunk = take n rest in
    let whole = ap length begins.1 ∙ length-append front rest in
    let size : length chunk ≡ n = let taken = length-take n rest in omega (arith, taken, whole, enough) in
    (chunk, size, (drop n rest, begins.1 ∙ ap (λ (l : List ℕ). front ++ l) (sym (take-append-drop n rest)) ∙ sym (append_assoc front chunk (drop n rest))))

-- the files have at least these bytes, and those after the first begin with their headers
abbrev AreEnough : (ℕ → List ℕ) → List ℕ → Type 0
AreEnough files sizes = HoldsBelow (length sizes) (λ k. slice_index_or sizes k 0 ≤ length (files k))

abbrev HaveLaterMarks : (ℕ → List ℕ) → ℕ → List ℕ → Type 0
HaveLaterMarks files number sizes = HoldsBelow (length sizes) (λ k. 1 ≤ k → take CONTAINER_HEADER (files k) ≡ header_of (number + k))

module _ (files : ℕ → List ℕ) (number : ℕ) (container chunk : List ℕ) (lengths : List ℕ) where
  -- a chunk that fits into the container that is open
  more-fits : nat_le (length container + length chunk) MAX_CONTAINER ≡ true → HaveFrom files number (container ++ chunk) lengths →
      HaveFrom files number container (length chunk ∷ lengths)
  more-fits fits later = record {
    chunks = chunk ∷ later.chunks;
    sizes = ap (λ (ms : List ℕ). length chunk ∷ ms) later.sizes;
    fronts = subst (λ (cs : List (List ℕ)). (k : ℕ) → k < length cs → IsFrontOf (slice_index_or cs k []) (files k))
        (sym (packed-fits number container chunk later.chunks fits)) later.fronts;
  }

  -- a chunk that opens the next container
  more-opens : nat_le (length container + length chunk) MAX_CONTAINER ≡ false → IsFrontOf container (files 0) →
      HaveFrom (λ k. files (suc k)) (number + 1) (header_of (number + 1) ++ chunk) lengths →
      HaveFrom files number container (length chunk ∷ lengths)
  more-opens full begins later =
      let rest = packed_on (number + 1) (header_of (number + 1) ++ chunk) later.chunks in
      record {
        chunks = chunk ∷ later.chunks;
        sizes = ap (λ (ms : List ℕ). length chunk ∷ ms) later.sizes;
        fronts = subst (λ (cs : List (List ℕ)). (k : ℕ) → k < length cs → IsFrontOf (slice_index_or cs k []) (files k))
            (sym (packed-opens number container chunk later.chunks full))
            (λ k. elim k as (λ m. m < length (container ∷ rest) → IsFrontOf (slice_index_or (container ∷ rest) m []) (files m)) [
              | zero ↦ λ within. begins
              | suc m ↦ λ within. later.fronts m (omega (arith, within))
            ]);
      }

-- a file with its header, and then so many bytes
opened-front : (files : ℕ → List ℕ) (number k n : ℕ) → take CONTAINER_HEADER (files k) ≡ header_of number → CONTAINER_HEADER + n ≤ length (files k) →
    (chunk : List ℕ) × (length chunk ≡ n) × IsFrontOf (header_of number ++ chunk) (files k)
opened-front files number k n mark enough =
    let rest = drop CONTAINER_HEADER (files k) in
    let size : length (header_of number) ≡ CONTAINER_HEADER = refl in
    next-front (header_of number) (files k) n
    (rest, sym (take-append-drop CONTAINER_HEADER (files k)) ∙ ap (λ (l : List ℕ). l ++ rest) mark) (omega (arith, size, enough))

have-from :
    (files : ℕ → List ℕ) (number : ℕ) (container : List ℕ) (lengths : List ℕ) → IsFrontOf container (files 0) →
    AreEnough files (sizes_on (length container) lengths) → HaveLaterMarks files number (sizes_on (length container) lengths) →
    HaveFrom files number container lengths
have-from files number container [] begins enough marks = record {
  chunks = [];
  sizes = refl;
  fronts = λ k. elim k as (λ n. n < 1 → IsFrontOf (slice_index_or (container ∷ []) n []) (files n)) [
    | zero ↦ λ within. begins
    | suc n ↦ λ within. absurd (omega (arith, within))
  ];
}
have-from files number container (n ∷ lengths) begins enough marks =
    elim (cases_Bool (nat_le (length container + n) MAX_CONTAINER)) [
      | inl fits ↦
          let on = sizes-fits (length container) n lengths fits in
          let all = subst (AreEnough files) on enough in
          let here = all 0 (some-sizes (length container + n) lengths) in
          let first = sizes-first (length container + n) lengths in
          let next = next-front container (files 0) n begins (omega (arith, first, here)) in
          let longer : length container + n ≡ length (container ++ next.0) = let sum = length-append container next.0 in omega (arith, sum, next.1) in
          subst (λ (m : ℕ). HaveFrom files number container (m ∷ lengths)) next.1
          (more-fits files number container next.0 lengths (ap (λ (m : ℕ). nat_le (length container + m) MAX_CONTAINER) next.1 ∙ fits)
          (have-from files number (container ++ next.0) lengths next.2
          (subst (λ (m : ℕ). AreEnough files (sizes_on m lengths)) longer all)
          (subst (λ (m : ℕ). HaveLaterMarks files number (sizes_on m lengths)) longer (subst (HaveLaterMarks files number) on marks))))
      | inr full ↦
          let on = sizes-opens (length container) n lengths full in
          let all = subst (AreEnough files) on enough in
          let all_marks = subst (HaveLaterMarks files number) on marks in
          let some = some-sizes (CONTAINER_HEADER + n) lengths in
          let here = all 1 (omega (arith, some)) in
          let first = sizes-first (CONTAINER_HEADER + n) lengths in
          let next = opened-front files (number + 1) 1 n (all_marks 1 (omega (arith, some)) (omega arith)) (omega (arith, first, here)) in
          let head = header_of (number + 1) in
          let eight : length head ≡ CONTAINER_HEADER = refl in
          let longer : CONTAINER_HEADER + n ≡ length (head ++ next.0) = let sum = length-append head next.0 in omega (arith, sum, next.1, eight) in
          subst (λ (m : ℕ). HaveFrom files number container (m ∷ lengths)) next.1
          (more-opens files number container next.0 lengths (ap (λ (m : ℕ). nat_le (length container + m) MAX_CONTAINER) next.1 ∙ full) begins
          (have-from (λ k. files (suc k)) (number + 1) (head ++ next.0) lengths next.2
          (subst (λ (m : ℕ). AreEnough (λ k. files (suc k)) (sizes_on m lengths)) longer (λ k within. all (suc k) (omega arith)))
          (subst (λ (m : ℕ). HaveLaterMarks (λ k. files (suc k)) (number + 1) (sizes_on m lengths)) longer
          (λ k within above. all_marks (suc k) (omega arith) (omega arith) ∙ ap header_of (omega arith)))))
    ]

sizes-cons : (chunk : List ℕ) (chunks : List (List ℕ)) (n : ℕ) (lengths : List ℕ) → length chunk ≡ n → map length chunks ≡ lengths →
    map length (chunk ∷ chunks) ≡ n ∷ lengths
sizes-cons chunk chunks n lengths first rest = ap₂ (λ (m : ℕ) (ms : List ℕ). m ∷ ms) first rest

-- the chunks of these lengths that containers have
packing-from :
    (files : ℕ → List ℕ) (lengths : List ℕ) →
    HoldsBelow (length (container_sizes lengths)) (λ k. slice_index_or (container_sizes lengths) k 0 ≤ length (files k)) →
    HoldsBelow (length (container_sizes lengths)) (λ k. take CONTAINER_HEADER (files k) ≡ header_of k) →
    (chunks : List (List ℕ)) × (map length chunks ≡ lengths)
    × ((k : ℕ) → k < length (packing chunks) → IsFrontOf (slice_index_or (packing chunks) k []) (files k))
packing-from files [] enough marks = ([], refl, λ k within. absurd (omega (arith, within)))
packing-from files (n ∷ lengths) enough marks =
    let some = some-sizes (CONTAINER_HEADER + n) lengths in
    let first = sizes-first (CONTAINER_HEADER + n) lengths in
    let here = enough 0 some in
    let next = opened-front files 0 0 n (marks 0 some) (omega (arith, first, here)) in
    let head = header_of 0 in
    let eight : length head ≡ CONTAINER_HEADER = refl in
    let longer : CONTAINER_HEADER + n ≡ length (head ++ next.0) = let sum = length-append head next.0 in omega (arith, sum, next.1, eight) in
    let later = have-from files 0 (head ++ next.0) lengths next.2
    (subst (λ (m : ℕ). AreEnough files (sizes_on m lengths)) longer enough)
    (subst (λ (m : ℕ). HaveLaterMarks files 0 (sizes_on m lengths)) longer (λ k within above. marks k within ∙ ap header_of (omega arith))) in
    (next.0 ∷ later.chunks, sizes-cons next.0 later.chunks n lengths next.1 later.sizes, later.fronts)

-- containers that open and have their marks have chunks
pub have-chunks : (files : File → List ℕ) (opened : Opened) → OpenAs files opened → HoldsBelow (length (needed_sizes opened.book)) (HasMark files opened) →
    (chunks : List (List ℕ)) × HaveChunks files opened chunks
have-chunks files opened opens marks =
    let found = packing-from (λ k. files (Container opened.head.generation k)) (chunk_lengths opened.book) opens.containers marks in
    (found.0, record { lengths = found.1; containers = found.2 })
