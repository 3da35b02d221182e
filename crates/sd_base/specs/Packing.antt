-- Chunks packed into containers: files of a header and the bytes of chunks, in order and without
-- gaps. The format is this project's own; containers are filled by next fit, of bin packing (D. S.
-- Johnson, Near-optimal bin packing algorithms, 1973).
use Rattle.std.specs.Prelude.{◌≡◌, ℕ, ◌+◌, ◌<◌, ◌≤◌, nat_le, if◌then◌else◌, List, [], ◌∷◌, ◌++◌, length, codes, slice_index_or}
use Rattle.std.specs.Int.{w32, to_be_bytes}
use Rattle.std.specs.List.{concat}
use Rattle.sd_base.specs.declared.limits.TheConstants.{MAX_CONTAINER, CONTAINER_HEADER}

-- the first bytes of a container: its mark and its number, the most significant byte first
abbrev pub header_of : ℕ → List ℕ
header_of number = codes "SSCP" ++ to_be_bytes w32 number

-- The containers from one that is open: each chunk goes to its end if it fits there, and otherwise
-- opens the next one.
abbrev pub packed_on : ℕ → List ℕ → List (List ℕ) → List (List ℕ)
packed_on number container [] = container ∷ []
packed_on number container (chunk ∷ chunks) =
    if nat_le (length container + length chunk) MAX_CONTAINER
    then packed_on number (container ++ chunk) chunks
    else container ∷ packed_on (number + 1) (header_of (number + 1) ++ chunk) chunks

-- the containers of chunks: the first chunk opens container 0
abbrev pub packing : List (List ℕ) → List (List ℕ)
packing [] = []
packing (chunk ∷ chunks) = packed_on 0 (header_of 0 ++ chunk) chunks

-- The same rule without a walk, for the groups of chunks that share a container: a container for
-- each group, no group empty, no container too long, and none with room for the first chunk of the
-- next group.
pub record IsNextFit (groups : List (List (List ℕ))) (containers : List (List ℕ)) : Type 0 where
  pub one_each : length containers ≡ length groups
  pub holds : (k : ℕ) → k < length groups →
      slice_index_or containers k [] ≡ header_of k ++ concat (slice_index_or groups k [])
  pub not_empty : (k : ℕ) → k < length groups → 0 < length (slice_index_or groups k [])
  pub fits : (k : ℕ) → k < length groups → length (slice_index_or containers k []) ≤ MAX_CONTAINER
  pub no_room : (k : ℕ) → k + 1 < length groups →
      MAX_CONTAINER < length (slice_index_or containers k [])
      + length (slice_index_or (slice_index_or groups (k + 1) []) 0 [])

-- each container of the first list is a prefix of the container of the same number in the second
pub record ArePrefixes (before after : List (List ℕ)) : Type 0 where
  pub no_fewer : length before ≤ length after
  pub prefix : (k : ℕ) → k < length before →
      (rest : List ℕ) × (slice_index_or after k [] ≡ slice_index_or before k [] ++ rest)

-- the sizes of the containers of chunks of these lengths; the first is open and has this size
abbrev pub sizes_on : ℕ → List ℕ → List ℕ
sizes_on size [] = size ∷ []
sizes_on size (n ∷ ns) =
    if nat_le (size + n) MAX_CONTAINER
    then sizes_on (size + n) ns
    else size ∷ sizes_on (CONTAINER_HEADER + n) ns

-- the sizes of the containers of chunks, by the lengths of the chunks alone
abbrev pub container_sizes : List ℕ → List ℕ
container_sizes [] = []
container_sizes (n ∷ ns) = sizes_on (CONTAINER_HEADER + n) ns
