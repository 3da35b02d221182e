-- The sizes of containers, chunk by chunk.
use Rattle.std.proofs.Common.{◌≡◌, inl, inr, ℕ, ◌+◌, ◌<◌, ◌≤◌, List, [], ◌∷◌, length, true, false, refl, ap, ◌∙◌, arith}
use Rattle.std.specs.Prelude.{All, Option, Some, None, nat_le}
use Rattle.std.proofs.lemmas.Bool.{cases_Bool, le-leb, lt-leb}
use Rattle.container_pack.specs.Spots.{filled_by, filled_on, nothing_filled}
use Rattle.container_pack.specs.declared.fill.Fill.{Fill}
use Rattle.sd_base.specs.Packing.{container_sizes, sizes_on}
use Rattle.sd_base.specs.declared.limits.TheConstants.{CONTAINER_HEADER, MAX_CONTAINER}

-- the sizes of the open container, if there is one, and of those that chunks of these lengths need
-- after it
abbrev pub sizes_from : Option ℕ → List ℕ → List ℕ
sizes_from None ns = container_sizes ns
sizes_from (Some size) ns = sizes_on size ns

pub sizes-fit : (size n : ℕ) (ns : List ℕ) → size + n ≤ MAX_CONTAINER → sizes_from (Some size) (n ∷ ns) ≡ sizes_from (Some (size + n)) ns
sizes-fit size n ns fits = rw (le-leb (size + n) MAX_CONTAINER fits) refl

pub sizes-next : (size n : ℕ) (ns : List ℕ) → MAX_CONTAINER < size + n → sizes_from (Some size) (n ∷ ns) ≡ size ∷ sizes_from (Some (CONTAINER_HEADER + n)) ns
sizes-next size n ns full = rw (lt-leb (size + n) MAX_CONTAINER full) refl

-- how many containers are open
abbrev pub open_count : Option ℕ → ℕ
open_count None = 0
open_count (Some size) = 1

filled-fit : (fill : Fill) (n : ℕ) → nat_le (fill.used + n) MAX_CONTAINER ≡ true →
    filled_by fill n ≡ record { containers = fill.containers; used = fill.used + n }
filled-fit fill n fits = rw fits refl

filled-next : (fill : Fill) (n : ℕ) → nat_le (fill.used + n) MAX_CONTAINER ≡ false →
    filled_by fill n ≡ record { containers = fill.containers + 1; used = CONTAINER_HEADER + n }
filled-next fill n full = rw full refl

-- the containers after chunks of these lengths are as many as their sizes
fill-counts : (fill : Fill) (ns : List ℕ) →
    (filled_on fill ns).containers + 1 ≡ fill.containers + length (sizes_on fill.used ns)
fill-counts fill [] = omega arith
fill-counts fill (n ∷ ns) = elim (cases_Bool (nat_le (fill.used + n) MAX_CONTAINER)) [
  | inl fits ↦
      ap (λ (f : Fill). (filled_on f ns).containers + 1) (filled-fit fill n fits)
      ∙ rw fits (fill-counts (record { containers = fill.containers; used = fill.used + n }) ns)
  | inr full ↦
      let later = fill-counts (record { containers = fill.containers + 1; used = CONTAINER_HEADER + n }) ns in
      ap (λ (f : Fill). (filled_on f ns).containers + 1) (filled-next fill n full) ∙ rw full (omega (arith, later))
]

pub sizes-count : (ns : List ℕ) → All (λ n. 1 ≤ n) ns →
    (filled_on nothing_filled ns).containers ≡ length (container_sizes ns)
sizes-count [] some = refl
sizes-count (n ∷ ns) some =
    let first : 1 ≤ n = some 0 0 (omega arith) in
    let full = lt-leb (MAX_CONTAINER + n) MAX_CONTAINER (omega (arith, first)) in
    let later = fill-counts (record { containers = 1; used = CONTAINER_HEADER + n }) ns in
    ap (λ (f : Fill). (filled_on f ns).containers) (filled-next nothing_filled n full) ∙ omega (arith, later)
