-- The spots that follow from the lengths are where the chunks lie: the law
-- `chunks_lie_at_their_spots`.
use Rattle.std.proofs.Common.{◌≡◌, inl, inr, ℕ, ◌+◌, ◌<◌, ◌≤◌, List, [], ◌∷◌, ◌++◌, length, map, get_or, sym, ap, ◌∙◌, subst, arith, length-append, add-one}
use Rattle.std.specs.Prelude.{All}
use Rattle.std.proofs.lemmas.Bool.Decides.{leb_tells}
use Rattle.sd_base.specs.Packing.{header_of, packed_on, packing}
use Rattle.sd_base.specs.declared.limits.TheConstants.{MAX_CONTAINER}
use Rattle.container_pack.specs.declared.fill.Fill.{Fill}
use Rattle.container_pack.specs.declared.spot.Spot.{Spot}
use Rattle.container_pack.specs.Spots.{nothing_filled, filled_by, last_spot, spots_on, spots_of, LieAt}
use Rattle.container_pack.proofs.PackingLemmas.{Chunks, fill_at, packed_on-fits, packed_on-opens, filled_by-fits, filled_by-opens, extends}

-- the fill after a chunk that fits, and after one that opens the next container
pub fill_at-fits : (number : ℕ) (open_one chunk : List ℕ) → length open_one + length chunk ≤ MAX_CONTAINER
    → filled_by (fill_at number open_one) (length chunk) ≡ fill_at number (open_one ++ chunk)
fill_at-fits number open_one chunk fits =
    filled_by-fits (fill_at number open_one) (length chunk) fits
    ∙ ap (λ (n : ℕ). let f : Fill = record { containers = number + 1; used = n } in f) (sym (length-append open_one chunk))

pub fill_at-opens : (number : ℕ) (open_one chunk : List ℕ) → MAX_CONTAINER < length open_one + length chunk
    → filled_by (fill_at number open_one) (length chunk) ≡ fill_at (number + 1) (header_of (number + 1) ++ chunk)
fill_at-opens number open_one chunk full =
    filled_by-opens (fill_at number open_one) (length chunk) full
    ∙ ap (λ (n : ℕ). let f : Fill = record { containers = number + 1 + 1; used = n } in f) (sym (length-append (header_of (number + 1)) chunk))

pub filled_by-first : (chunk : List ℕ) → 1 ≤ length chunk → filled_by nothing_filled (length chunk) ≡ fill_at 0 (header_of 0 ++ chunk)
filled_by-first chunk some =
    filled_by-opens nothing_filled (length chunk) (omega arith)
    ∙ ap (λ (n : ℕ). let f : Fill = record { containers = 1; used = n } in f) (sym (length-append (header_of 0) chunk))

-- the chunk lies at the spot, if the first container of the list has this number
pub record LiesFrom (number : ℕ) (containers : Chunks) (spot : Spot) (chunk : List ℕ) : Type 0 where
  pub at : ℕ
  pub container : spot.container ≡ number + at
  pub inside : at < length containers
  pub before : List ℕ
  pub after : List ℕ
  pub split : get_or containers at [] ≡ before ++ chunk ++ after
  pub offset : length before ≡ spot.offset

abbrev pub LieFrom : ℕ → Chunks → List Spot → Chunks → Type 0
LieFrom number containers [] [] = Unit {0}
LieFrom number containers (spot ∷ spots) (chunk ∷ chunks) = LiesFrom number containers spot chunk × LieFrom number containers spots chunks
LieFrom number containers [] (chunk ∷ chunks) = ⊥
LieFrom number containers (spot ∷ spots) [] = ⊥

LiesFrom-later : (number : ℕ) (first : List ℕ) (containers : Chunks) (spot : Spot) (chunk : List ℕ)
    → LiesFrom (number + 1) containers spot chunk → LiesFrom number (first ∷ containers) spot chunk
LiesFrom-later number first containers spot chunk lies = record {
  at = lies.at + 1;
  container = omega (arith, lies.container);
  inside = omega (arith, lies.inside);
  before = lies.before;
  after = lies.after;
  split = rw add-one lies.split;
  offset = lies.offset;
}

LieFrom-later : (number : ℕ) (first : List ℕ) (containers : Chunks) (spots : List Spot) (chunks : Chunks)
    → LieFrom (number + 1) containers spots chunks → LieFrom number (first ∷ containers) spots chunks
LieFrom-later number first containers [] [] lie = tt
LieFrom-later number first containers (spot ∷ spots) (chunk ∷ chunks) lie =
    (LiesFrom-later number first containers spot chunk lie.0, LieFrom-later number first containers spots chunks lie.1)
LieFrom-later number first containers [] (chunk ∷ chunks) lie = absurd lie
LieFrom-later number first containers (spot ∷ spots) [] lie = absurd lie

-- a chunk at the end of the container that is open
LiesFrom-last : (number : ℕ) (front chunk : List ℕ) (chunks : Chunks)
    → LiesFrom number (packed_on number (front ++ chunk) chunks) (last_spot (fill_at number (front ++ chunk)) (length chunk)) chunk
LiesFrom-last number front chunk chunks =
    let e = extends number (front ++ chunk) chunks in
    record {
      at = 0;
      container = omega arith;
      inside = subst (λ (l : Chunks). 0 < length l) (sym e.split) (omega arith);
      before = front;
      after = e.rest;
      split = ap (λ (l : Chunks). get_or l 0 []) e.split;
      offset = omega (arith, length-append front chunk);
    }

pub spots_on-lie : (number : ℕ) (open_one : List ℕ) (chunks : Chunks)
    → LieFrom number (packed_on number open_one chunks) (spots_on (fill_at number open_one) (map length chunks)) chunks
spots_on-lie number open_one [] = tt
spots_on-lie number open_one (chunk ∷ chunks) =
    let Goal : Fill → Chunks → Type 0 = λ f l. LieFrom number l (last_spot f (length chunk) ∷ spots_on f (map length chunks)) (chunk ∷ chunks) in
    elim (leb_tells (length open_one + length chunk) MAX_CONTAINER) [
      | inl fits ↦
          let lie : Goal (fill_at number (open_one ++ chunk)) (packed_on number (open_one ++ chunk) chunks) =
          (LiesFrom-last number open_one chunk chunks, spots_on-lie number (open_one ++ chunk) chunks) in
          subst (λ (l : Chunks). Goal (filled_by (fill_at number open_one) (length chunk)) l) (sym (packed_on-fits number open_one chunk chunks fits.1))
          (subst (λ (f : Fill). Goal f (packed_on number (open_one ++ chunk) chunks)) (sym (fill_at-fits number open_one chunk fits.1)) lie)
      | inr none ↦
          let next : List ℕ = header_of (number + 1) in
          let rest : Chunks = packed_on (number + 1) (next ++ chunk) chunks in
          let lie : Goal (fill_at (number + 1) (next ++ chunk)) (open_one ∷ rest) = (
            LiesFrom-later number open_one rest (last_spot (fill_at (number + 1) (next ++ chunk)) (length chunk)) chunk (LiesFrom-last (number + 1) next chunk chunks),
            LieFrom-later number open_one rest (spots_on (fill_at (number + 1) (next ++ chunk)) (map length chunks)) chunks (spots_on-lie (number + 1) (next ++ chunk) chunks),
          ) in
          subst (λ (l : Chunks). Goal (filled_by (fill_at number open_one) (length chunk)) l) (sym (packed_on-opens number open_one chunk chunks none.1))
          (subst (λ (f : Fill). Goal f (open_one ∷ rest)) (sym (fill_at-opens number open_one chunk none.1)) lie)
    ]

LieAt-from : (containers : Chunks) (spots : List Spot) (chunks : Chunks) → LieFrom 0 containers spots chunks → LieAt containers spots chunks
LieAt-from containers [] [] lie = tt
LieAt-from containers (spot ∷ spots) (chunk ∷ chunks) lie =
    let same : lie.0.at ≡ spot.container = omega (arith, lie.0.container) in (
      record {
        inside = omega (arith, lie.0.inside);
        before = lie.0.before;
        after = lie.0.after;
        split = ap (λ (k : ℕ). get_or containers k []) (sym same) ∙ lie.0.split;
        offset = lie.0.offset;
      },
      LieAt-from containers spots chunks lie.1,
    )
LieAt-from containers [] (chunk ∷ chunks) lie = absurd lie
LieAt-from containers (spot ∷ spots) [] lie = absurd lie

-- chunks, none of them empty, lie at their spots in their containers
pub spots_of-lie : (chunks : Chunks) → All (λ n. 1 ≤ n) (map length chunks) → LieAt (packing chunks) (spots_of (map length chunks)) chunks
spots_of-lie [] some = tt
spots_of-lie (chunk ∷ chunks) some =
    let Goal : Fill → Type 0 = λ f. LieFrom 0 (packing (chunk ∷ chunks)) (last_spot f (length chunk) ∷ spots_on f (map length chunks)) (chunk ∷ chunks) in
    let lie : Goal (fill_at 0 (header_of 0 ++ chunk)) = (LiesFrom-last 0 (header_of 0) chunk chunks, spots_on-lie 0 (header_of 0 ++ chunk) chunks) in
    LieAt-from (packing (chunk ∷ chunks)) (spots_of (map length (chunk ∷ chunks))) (chunk ∷ chunks)
    (subst Goal (sym (filled_by-first chunk (some 0 0 (omega arith)))) lie)

pub spots_of-lie_by_lengths : (lengths : List ℕ) (chunks : Chunks) → All (λ n. 1 ≤ n) lengths → map length chunks ≡ lengths
    → (spots : List Spot) → spots ≡ spots_of lengths → LieAt (packing chunks) spots chunks
spots_of-lie_by_lengths lengths chunks some same spots are =
    subst (λ (l : List Spot). LieAt (packing chunks) l chunks) (ap spots_of same ∙ sym are)
    (spots_of-lie chunks (subst (λ (l : List ℕ). All (λ n. 1 ≤ n) l) (sym same) some))
