-- Worked examples of the packing of chunks, each computed by the checker.
use Rattle.std.specs.Prelude.{◌≡◌, ℕ, [], ◌∷◌, ◌++◌, length, codes, refl}
use Rattle.sd_base.specs.Packing.{header_of, packing}
use Rattle.sd_base.specs.declared.limits.TheConstants.{CONTAINER_HEADER, MAX_CHUNK_LEN}
use Rattle.container_pack.specs.Spots.{spots_of}

-- container 0 of the chunks `abc` and `d`, byte for byte
pub packing-two_chunks : packing (codes "abc" ∷ codes "d" ∷ [])
    ≡ (0x53 ∷ 0x53 ∷ 0x43 ∷ 0x50 ∷ 0 ∷ 0 ∷ 0 ∷ 0 ∷ 0x61 ∷ 0x62 ∷ 0x63 ∷ 0x64 ∷ []) ∷ []
packing-two_chunks = refl

pub packing-nothing : packing [] ≡ []
packing-nothing = refl

-- the header's length, and the number of a container in it
pub header_of-length : (number : ℕ) → length (header_of number) ≡ CONTAINER_HEADER
header_of-length number = refl

pub header_of-container_258 : header_of 258 ≡ codes "SSCP" ++ 0 ∷ 0 ∷ 1 ∷ 2 ∷ []
header_of-container_258 = refl

pub spots_of-small : spots_of (64 ∷ 8 ∷ [])
    ≡ record { container = 0; offset = 8 } ∷ record { container = 0; offset = 72 } ∷ []
spots_of-small = refl

-- four of the longest chunks need two containers
pub spots_of-four : spots_of (MAX_CHUNK_LEN ∷ MAX_CHUNK_LEN ∷ MAX_CHUNK_LEN ∷ MAX_CHUNK_LEN ∷ [])
    ≡ record { container = 0; offset = 8 } ∷ record { container = 0; offset = 1048584 }
    ∷ record { container = 0; offset = 2097160 } ∷ record { container = 1; offset = 8 } ∷ []
spots_of-four = refl

-- the fourth fills its container, and the fifth opens the next
pub spots_of-full : spots_of (MAX_CHUNK_LEN ∷ MAX_CHUNK_LEN ∷ MAX_CHUNK_LEN ∷ 1048568 ∷ 1 ∷ [])
    ≡ record { container = 0; offset = 8 } ∷ record { container = 0; offset = 1048584 }
    ∷ record { container = 0; offset = 2097160 } ∷ record { container = 0; offset = 3145736 }
    ∷ record { container = 1; offset = 8 } ∷ []
spots_of-full = refl
