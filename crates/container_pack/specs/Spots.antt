-- Where chunks lie in their containers, by their lengths alone.
use Rattle.std.specs.Prelude.{◌≡◌, ℕ, ◌+◌, ◌-◌, ◌<◌, ◌≤◌, nat_le, if◌then◌else◌, List, [], ◌∷◌, ◌++◌, length, slice_index_or}
use Rattle.sd_base.specs.declared.limits.TheConstants.{MAX_CONTAINER, CONTAINER_HEADER}
use Rattle.container_pack.specs.declared.fill.Fill.{Fill}
use Rattle.container_pack.specs.declared.spot.Spot.{Spot}

-- no container: the next chunk opens one, as after a full one
abbrev pub nothing_filled : Fill
nothing_filled = record { containers = 0; used = MAX_CONTAINER }

-- a chunk of this length goes into the last container if it fits there, and otherwise opens the
-- next
abbrev pub filled_by : Fill → ℕ → Fill
filled_by fill n =
    if nat_le (fill.used + n) MAX_CONTAINER
    then record { containers = fill.containers; used = fill.used + n }
    else record { containers = fill.containers + 1; used = CONTAINER_HEADER + n }

-- no container is too long, and no container at all counts as a full one
pub record IsSound (fill : Fill) : Type 0 where
  pub within : fill.used ≤ MAX_CONTAINER
  pub none : fill.containers ≡ 0 → fill.used ≡ MAX_CONTAINER

-- after chunks of these lengths
abbrev pub filled_on : Fill → List ℕ → Fill
filled_on fill [] = fill
filled_on fill (n ∷ ns) = filled_on (filled_by fill n) ns

-- the last chunk, of this length, ends at the end of the last container
abbrev pub last_spot : Fill → ℕ → Spot
last_spot fill n = record { container = fill.containers - 1; offset = fill.used - n }

-- the spots of chunks of these lengths that come next
abbrev pub spots_on : Fill → List ℕ → List Spot
spots_on fill [] = []
spots_on fill (n ∷ ns) = last_spot (filled_by fill n) n ∷ spots_on (filled_by fill n) ns

-- the spots of chunks of these lengths
abbrev pub spots_of : List ℕ → List Spot
spots_of lengths = spots_on nothing_filled lengths

-- the chunk is in the container of the spot, after as many bytes as the offset of the spot
pub record LiesAt (containers : List (List ℕ)) (spot : Spot) (chunk : List ℕ) : Type 0 where
  pub inside : spot.container < length containers
  pub before : List ℕ
  pub after : List ℕ
  pub split : slice_index_or containers spot.container [] ≡ before ++ chunk ++ after
  pub offset : length before ≡ spot.offset

-- a spot for each chunk, and each chunk at its spot
abbrev pub LieAt : List (List ℕ) → List Spot → List (List ℕ) → Type 0
LieAt containers [] [] = Unit {0}
LieAt containers (spot ∷ spots) (chunk ∷ chunks) =
    LiesAt containers spot chunk × LieAt containers spots chunks
LieAt containers [] (chunk ∷ chunks) = ⊥
LieAt containers (spot ∷ spots) [] = ⊥
