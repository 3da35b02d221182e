-- Laws of the packing of chunks, in the words of the subject.
use Rattle.std.specs.Prelude.{◌≡◌, ℕ, ◌≤◌, List, ◌++◌, length, map, All}
use Rattle.std.specs.List.{flat_map}
use Rattle.sd_base.specs.Packing.{packing, IsNextFit, ArePrefixes}
use Rattle.sd_base.specs.declared.limits.TheConstants.{MAX_CHUNK_LEN}
use Rattle.container_pack.specs.Spots.{spots_of, LieAt}

-- more chunks make containers longer or open new ones, and change no byte of the others
abbrev pub LongerListsOnlyExtend : Type 0
LongerListsOnlyExtend =
    (chunks more : List (List ℕ)) → ArePrefixes (packing chunks) (packing (chunks ++ more))

-- chunks, none of them empty, lie at the spots that follow from their lengths
abbrev pub ChunksLieAtTheirSpots : Type 0
ChunksLieAtTheirSpots =
    (chunks : List (List ℕ)) → All (λ n. 1 ≤ n) (map length chunks) →
    LieAt (packing chunks) (spots_of (map length chunks)) chunks

-- the containers of chunks that are not too long are those of some groups of the chunks in order
abbrev pub PackingIsByGroups : Type 0
PackingIsByGroups =
    (chunks : List (List ℕ)) → All (λ chunk. length chunk ≤ MAX_CHUNK_LEN) chunks →
    (groups : List (List (List ℕ)))
    × (flat_map (λ group. group) groups ≡ chunks) × IsNextFit groups (packing chunks)
