-- The files of containers. Each fact holds of an observable shelf, whose contents are known to the
-- contract, and says nothing of another.
use Rattle.std.specs.Prelude.{◌≡◌, ℕ, ◌<◌, List, [], ◌++◌, length, take, slice_index_or, Option, option_map, IfSome}
use Rattle.sd_base.specs.declared.file.File.{File}
use Rattle.sd_base.specs.declared.file.File.TheVariants.{Container}
use Rattle.edge_traits.specs.Shelf.{content}
use Rattle.container_pack.specs.declared.spot.Spot.{Spot}
use Rattle.container_pack.specs.Spots.{LiesAt}

-- the file begins with these bytes
abbrev pub Begins : Option (List ℕ) → List ℕ → Type 0
Begins told front = IfSome told (λ bytes. (tail : List ℕ) × (bytes ≡ front ++ tail))

-- the file has these bytes and no others
abbrev pub HasOnly : Option (List ℕ) → List ℕ → Type 0
HasOnly told all = IfSome told (λ bytes. bytes ≡ all)

-- the files of this generation begin with these containers
abbrev pub ContainersBegin : Option (File → List ℕ) → ℕ → List (List ℕ) → Type 0
ContainersBegin files generation containers =
    (k : ℕ) → k < length containers
    → Begins (content files (Container generation k)) (slice_index_or containers k [])

-- the file has its first `size` bytes as they were, and then these alone
abbrev pub AppendedAt : File → ℕ → List ℕ → Option (File → List ℕ) → Option (File → List ℕ) → Type 0
AppendedAt file size bytes before after =
    content after file ≡ option_map (λ had. take size had ++ bytes) (content before file)

-- the file begins with its first `size` bytes as they were, whatever follows them
abbrev pub KeepsFront : File → ℕ → Option (File → List ℕ) → Option (File → List ℕ) → Type 0
KeepsFront file size before after =
    (tail : List ℕ) × (content after file ≡ option_map (λ had. take size had ++ tail) (content before file))

-- this chunk of n bytes lies at the spot, in containers that the files of this generation begin
-- with
pub record IsStored (files : Option (File → List ℕ)) (generation : ℕ) (spot : Spot) (n : ℕ) (chunk : List ℕ)
    : Type 0 where
  pub containers : List (List ℕ)
  pub begin : ContainersBegin files generation containers
  pub lies : LiesAt containers spot chunk
  pub size : length chunk ≡ n
