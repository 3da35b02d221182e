-- What a packer knows of the chunks before it, and where it appends.
use Rattle.std.specs.Prelude.{◌≡◌, ℕ, ◌<◌, ◌≤◌, List, length, map, All, Option}
use Rattle.sd_base.specs.Packing.{packing}
use Rattle.sd_base.specs.declared.file.File.{File}
use Rattle.sd_base.specs.declared.file.File.TheVariants.{Container}
use Rattle.container_pack.specs.declared.packer.Packer.{Packer}
use Rattle.container_pack.specs.declared.spot.Spot.{Spot}
use Rattle.container_pack.specs.Spots.{nothing_filled, filled_by, filled_on, last_spot}
use Rattle.container_pack.specs.Containers.{ContainersBegin}

-- the generation of its containers
abbrev pub generation_of : Packer → ℕ
generation_of packer = packer.generation

-- how many chunks come before the next one
abbrev pub chunk_count : Packer → ℕ
chunk_count packer = packer.chunks

-- the file of a spot
abbrev pub file_at : Packer → Spot → File
file_at packer spot = Container packer.generation spot.container

-- the spot of a chunk of this length that is appended next, and its file
abbrev pub next_spot : Packer → ℕ → Spot
next_spot packer n = last_spot (filled_by packer.fill n) n

abbrev pub next_file : Packer → ℕ → File
next_file packer n = file_at packer (next_spot packer n)

-- a chunk of this length that is appended next opens a container
abbrev pub OpensContainer : Packer → ℕ → Type 0
OpensContainer packer n = (next_spot packer n).container ≡ packer.fill.containers

-- the packer stands behind chunks of these lengths: they come before the next one, and none of them
-- is empty
pub record IsBehind (packer : Packer) (lengths : List ℕ) : Type 0 where
  pub count : packer.chunks ≡ length lengths
  pub fill : packer.fill ≡ filled_on nothing_filled lengths
  pub none_empty : All (λ n. 1 ≤ n) lengths

-- The packer stands behind these chunks on a shelf with these files: the containers begin with
-- them. What follows them there, their tails, may be anything.
pub record StandsBehind (packer : Packer) (files : Option (File → List ℕ)) (chunks : List (List ℕ))
    : Type 0 where
  pub behind : IsBehind packer (map length chunks)
  pub begin : ContainersBegin files packer.generation (packing chunks)

-- the container of this number was appended to since the last flush
pub record IsUnflushed (packer : Packer) (k : ℕ) : Type 0 where
  pub from : packer.first_unflushed ≤ k
  pub below : k < packer.fill.containers
