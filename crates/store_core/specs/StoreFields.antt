-- What a `Store` keeps in memory beside what its callers see.
use Rattle.std.specs.Prelude.{◌≡◌, ℕ, ◌≤◌, List, length, map, take, ◌<◌, slice_index_or}
use Rattle.std.specs.List.{All}
use Rattle.container_pack.specs.Packer.{generation_of, IsBehind, IsUnflushed}
use Rattle.container_pack.specs.Spots.{spots_of}
use Rattle.container_pack.specs.declared.packer.Packer.{Packer}
use Rattle.container_pack.specs.declared.spot.Spot.{Spot}
use Rattle.sd_base.specs.declared.limits.TheConstants.{MAX_CHUNK_LEN, MAX_CHUNKS}
use Rattle.sd_base.specs.declared.record.NewChunk.{NewChunk}
use Rattle.store_core.specs.NameIndex.{Covers}
use Rattle.store_core.specs.declared.name_index.NameIndex.{NameIndex}

-- the lengths of chunks
abbrev pub lengths_of : List NewChunk → List ℕ
lengths_of chunks = map (λ chunk. chunk.length) chunks

-- the names of chunks
abbrev pub names_of : List NewChunk → List (List ℕ)
names_of chunks = map (λ chunk. chunk.name) chunks

-- where the chunks lie and what comes next, and an index of the first of them
pub record ArePlaced (chunks : List NewChunk) (number : ℕ) (lie : List Spot) (packer : Packer)
    (index : NameIndex) : Type 0 where
  pub limit : length chunks ≤ MAX_CHUNKS
  pub bounded : All (λ n. n ≤ MAX_CHUNK_LEN) (lengths_of chunks)
  pub spots : lie ≡ spots_of (lengths_of chunks)
  pub generation : generation_of packer ≡ number
  pub behind : IsBehind packer (lengths_of chunks)
  pub indexed : index.chunks ≤ length chunks
  pub covers : Covers index (take index.chunks (names_of chunks))

-- the containers of the chunks from this number on were appended to since the last flush
abbrev pub AreUnflushed : ℕ → List Spot → Packer → Type 0
AreUnflushed number lie packer =
    (i : ℕ) (none : Spot) → number ≤ i → i < length lie → IsUnflushed packer (slice_index_or lie i none).container
