-- The containers of chunks are a container for each of some groups of them: the law
-- `packing_is_by_groups`.
use Rattle.std.proofs.Common.{◌≡◌, inl, inr, ℕ, zero, suc, ◌+◌, ◌<◌, ◌≤◌, List, [], ◌∷◌, ◌++◌, length, get_or, refl, sym, ap, ◌∙◌, subst, append_assoc, arith, length-append}
use Rattle.std.specs.Prelude.{All}
use Rattle.std.specs.List.{concat, flat_map}
use Rattle.std.proofs.lemmas.List.{append-nil}
use Rattle.std.proofs.lemmas.List.Elements.{All-tail}
use Rattle.std.proofs.lemmas.List.Folds.{concat-append}
use Rattle.std.proofs.lemmas.Bool.Decides.{leb_tells}
use Rattle.sd_base.specs.Packing.{header_of, packed_on, packing, IsNextFit}
use Rattle.sd_base.specs.declared.limits.TheConstants.{MAX_CONTAINER, MAX_CHUNK_LEN}
use Rattle.container_pack.proofs.PackingLemmas.{Chunks, packed_on-fits, packed_on-opens}

abbrev pub Groups : Type 0
Groups = List Chunks

-- `IsNextFit`, if the first container has this number
pub record IsNextFitFrom (number : ℕ) (groups : Groups) (containers : Chunks) : Type 0 where
  pub one_each : length containers ≡ length groups
  pub holds : (k : ℕ) → k < length groups → get_or containers k [] ≡ header_of (number + k) ++ concat (get_or groups k [])
  pub not_empty : (k : ℕ) → k < length groups → 0 < length (get_or groups k [])
  pub fits : (k : ℕ) → k < length groups → length (get_or containers k []) ≤ MAX_CONTAINER
  pub no_room : (k : ℕ) → k + 1 < length groups → MAX_CONTAINER < length (get_or containers k []) + length (get_or (get_or groups (k + 1) []) 0 [])

one_group : (number : ℕ) (group : Chunks) → 0 < length group → length (header_of number ++ concat group) ≤ MAX_CONTAINER
    → IsNextFitFrom number (group ∷ []) ((header_of number ++ concat group) ∷ [])
one_group number group some fits = record {
  one_each = refl;
  holds = λ k inside. let first : k ≡ 0 = omega arith in
      let here : header_of number ++ concat group ≡ header_of (number + 0) ++ concat group = ap (λ (n : ℕ). header_of n ++ concat group) (omega arith) in
      subst (λ (n : ℕ). get_or ((header_of number ++ concat group) ∷ []) n [] ≡ header_of (number + n) ++ concat (get_or (group ∷ []) n [])) (sym first) here;
  not_empty = λ k inside. let first : k ≡ 0 = omega arith in subst (λ (n : ℕ). 0 < length (get_or (group ∷ []) n [])) (sym first) some;
  fits = λ k inside. let first : k ≡ 0 = omega arith in
      subst (λ (n : ℕ). length (get_or ((header_of number ++ concat group) ∷ []) n []) ≤ MAX_CONTAINER) (sym first) fits;
  no_room = λ k inside. absurd (omega arith);
}

group_before : (number : ℕ) (group : Chunks) (groups : Groups) (containers : Chunks) → 0 < length group
    → length (header_of number ++ concat group) ≤ MAX_CONTAINER
    → MAX_CONTAINER < length (header_of number ++ concat group) + length (get_or (get_or groups 0 []) 0 [])
    → IsNextFitFrom (number + 1) groups containers
    → IsNextFitFrom number (group ∷ groups) ((header_of number ++ concat group) ∷ containers)
group_before number group groups containers some fits full packed =
    let first : List ℕ = header_of number ++ concat group in
    record {
      one_each = omega (arith, packed.one_each);
      holds = λ k. elim k as (λ n. n < length (group ∷ groups) → get_or (first ∷ containers) n [] ≡ header_of (number + n) ++ concat (get_or (group ∷ groups) n [])) [
        | zero ↦ λ inside. ap (λ (n : ℕ). header_of n ++ concat group) (omega arith)
        | suc n ↦ λ inside. packed.holds n (omega arith) ∙ ap (λ (m : ℕ). header_of m ++ concat (get_or groups n [])) (omega arith)
      ];
      not_empty = λ k. elim k as (λ n. n < length (group ∷ groups) → 0 < length (get_or (group ∷ groups) n [])) [
        | zero ↦ λ inside. some
        | suc n ↦ λ inside. packed.not_empty n (omega arith)
      ];
      fits = λ k. elim k as (λ n. n < length (group ∷ groups) → length (get_or (first ∷ containers) n []) ≤ MAX_CONTAINER) [
        | zero ↦ λ inside. fits
        | suc n ↦ λ inside. packed.fits n (omega arith)
      ];
      no_room = λ k. elim k as (λ n. n + 1 < length (group ∷ groups) → MAX_CONTAINER < length (get_or (first ∷ containers) n []) + length (get_or (get_or (group ∷ groups) (n + 1) []) 0 [])) [
        | zero ↦ λ inside. full
        | suc n ↦ λ inside.
            let next : suc n + 1 ≡ suc (n + 1) = omega arith in
            subst (λ (m : ℕ). MAX_CONTAINER < length (get_or containers n []) + length (get_or (get_or (group ∷ groups) m []) 0 [])) (sym next) (packed.no_room n (omega arith))
      ];
    }

-- the groups from one that is open, which has this first chunk
pub record Grouped (number : ℕ) (first : List ℕ) (group chunks : Chunks) : Type 0 where
  pub groups : Groups
  pub all_of_them : flat_map (λ g. g) groups ≡ first ∷ group ++ chunks
  pub packed : IsNextFitFrom number groups (packed_on number (header_of number ++ concat (first ∷ group)) chunks)
  pub first_one : get_or (get_or groups 0 []) 0 [] ≡ first

one_more : (number : ℕ) (first chunk : List ℕ) (group : Chunks)
    → (header_of number ++ concat (first ∷ group)) ++ chunk ≡ header_of number ++ concat (first ∷ group ++ chunk ∷ [])
one_more number first chunk group =
    append_assoc (header_of number) (concat (first ∷ group)) chunk
    ∙ ap (λ (l : List ℕ). header_of number ++ (concat (first ∷ group) ++ l)) (sym (append-nil chunk))
    ∙ ap (λ (l : List ℕ). header_of number ++ l) (sym (concat-append (first ∷ group) (chunk ∷ [])))

pub grouped : (number : ℕ) (first : List ℕ) (group chunks : Chunks)
    → length (header_of number ++ concat (first ∷ group)) ≤ MAX_CONTAINER → All (λ chunk. length chunk ≤ MAX_CHUNK_LEN) chunks
    → Grouped number first group chunks
grouped number first group [] fits bounded = record {
  groups = (first ∷ group) ∷ [];
  all_of_them = refl;
  packed = one_group number (first ∷ group) (omega arith) fits;
  first_one = refl;
}
grouped number first group (chunk ∷ chunks) fits bounded =
    let open_one : List ℕ = header_of number ++ concat (first ∷ group) in
    elim (leb_tells (length open_one + length chunk) MAX_CONTAINER) [
      | inl room ↦
          let longer : open_one ++ chunk ≡ header_of number ++ concat (first ∷ group ++ chunk ∷ []) = one_more number first chunk group in
          let still : length (header_of number ++ concat (first ∷ group ++ chunk ∷ [])) ≤ MAX_CONTAINER = subst (λ (l : List ℕ). length l ≤ MAX_CONTAINER) longer (omega (arith, room.1, length-append open_one chunk)) in
          let there = grouped number first (group ++ chunk ∷ []) chunks still (All-tail (λ (c : List ℕ). length c ≤ MAX_CHUNK_LEN) chunk chunks bounded) in
          record {
            groups = there.groups;
            all_of_them = there.all_of_them ∙ ap (λ (l : Chunks). first ∷ l) (append_assoc group (chunk ∷ []) chunks);
            packed = subst (λ (l : Chunks). IsNextFitFrom number there.groups l)
                (ap (λ (l : List ℕ). packed_on number l chunks) (sym longer) ∙ sym (packed_on-fits number open_one chunk chunks room.1)) there.packed;
            first_one = there.first_one;
          }
      | inr none ↦
          let next : List ℕ = header_of (number + 1) in
          let alone : next ++ chunk ≡ next ++ concat (chunk ∷ []) = ap (λ (l : List ℕ). next ++ l) (sym (append-nil chunk)) in
          let short : length (next ++ concat (chunk ∷ [])) ≤ MAX_CONTAINER = subst (λ (l : List ℕ). length l ≤ MAX_CONTAINER) alone (omega (arith, bounded 0 [] (omega arith), length-append next chunk)) in
          let there = grouped (number + 1) chunk [] chunks short (All-tail (λ (c : List ℕ). length c ≤ MAX_CHUNK_LEN) chunk chunks bounded) in
          let full : MAX_CONTAINER < length open_one + length (get_or (get_or there.groups 0 []) 0 []) =
          subst (λ (l : List ℕ). MAX_CONTAINER < length open_one + length l) (sym there.first_one) none.1 in
          record {
            groups = (first ∷ group) ∷ there.groups;
            all_of_them = ap (λ (l : Chunks). first ∷ group ++ l) there.all_of_them;
            packed = subst (λ (l : Chunks). IsNextFitFrom number ((first ∷ group) ∷ there.groups) l)
                (ap (λ (l : List ℕ). open_one ∷ packed_on (number + 1) l chunks) (sym alone) ∙ sym (packed_on-opens number open_one chunk chunks none.1))
                (group_before number (first ∷ group) there.groups (packed_on (number + 1) (next ++ concat (chunk ∷ [])) chunks) (omega arith) fits full there.packed);
            first_one = refl;
          }
    ]

IsNextFit-from : (groups : Groups) (containers : Chunks) → IsNextFitFrom 0 groups containers → IsNextFit groups containers
IsNextFit-from groups containers packed = record {
  one_each = packed.one_each;
  holds = λ k inside. packed.holds k inside ∙ ap (λ (n : ℕ). header_of n ++ concat (get_or groups k [])) (omega arith);
  not_empty = packed.not_empty;
  fits = packed.fits;
  no_room = packed.no_room;
}

nothing_packed : IsNextFit [] []
nothing_packed = record {
  one_each = refl;
  holds = λ k inside. absurd (omega arith);
  not_empty = λ k inside. absurd (omega arith);
  fits = λ k inside. absurd (omega arith);
  no_room = λ k inside. absurd (omega arith);
}

pub packing-by_groups : (chunks : Chunks) → All (λ chunk. length chunk ≤ MAX_CHUNK_LEN) chunks
    → (groups : Groups) × (flat_map (λ group. group) groups ≡ chunks) × IsNextFit groups (packing chunks)
packing-by_groups [] bounded = ([], refl, nothing_packed)
packing-by_groups (chunk ∷ chunks) bounded =
    let alone : header_of 0 ++ chunk ≡ header_of 0 ++ concat (chunk ∷ []) = ap (λ (l : List ℕ). header_of 0 ++ l) (sym (append-nil chunk)) in
    let short : length (header_of 0 ++ concat (chunk ∷ [])) ≤ MAX_CONTAINER = subst (λ (l : List ℕ). length l ≤ MAX_CONTAINER) alone (omega (arith, bounded 0 [] (omega arith), length-append (header_of 0) chunk)) in
    let g = grouped 0 chunk [] chunks short (All-tail (λ (c : List ℕ). length c ≤ MAX_CHUNK_LEN) chunk chunks bounded) in (
      g.groups,
      g.all_of_them,
      IsNextFit-from g.groups (packing (chunk ∷ chunks))
          (subst (λ (l : List ℕ). IsNextFitFrom 0 g.groups (packed_on 0 l chunks)) (sym alone) g.packed),
    )
