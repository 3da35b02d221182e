-- One chunk more of a packing: it goes into the container that is open, or opens the next.
use Rattle.std.proofs.Common.{◌≡◌, ℕ, ◌+◌, true, false, List, ◌∷◌, ◌++◌, length, refl}
use Rattle.std.specs.Prelude.{nat_le}
use Rattle.sd_base.specs.Packing.{header_of, packed_on, sizes_on}
use Rattle.sd_base.specs.declared.limits.TheConstants.{CONTAINER_HEADER, MAX_CONTAINER}

module _ (number : ℕ) (container chunk : List ℕ) (chunks : List (List ℕ)) where
  pub packed-fits : nat_le (length container + length chunk) MAX_CONTAINER ≡ true →
      packed_on number container (chunk ∷ chunks) ≡ packed_on number (container ++ chunk) chunks
  packed-fits fits = rw fits refl

  pub packed-opens : nat_le (length container + length chunk) MAX_CONTAINER ≡ false →
      packed_on number container (chunk ∷ chunks) ≡ container ∷ packed_on (number + 1) (header_of (number + 1) ++ chunk) chunks
  packed-opens full = rw full refl

module _ (size n : ℕ) (lengths : List ℕ) where
  pub sizes-fits : nat_le (size + n) MAX_CONTAINER ≡ true → sizes_on size (n ∷ lengths) ≡ sizes_on (size + n) lengths
  sizes-fits fits = rw fits refl

  pub sizes-opens : nat_le (size + n) MAX_CONTAINER ≡ false → sizes_on size (n ∷ lengths) ≡ size ∷ sizes_on (CONTAINER_HEADER + n) lengths
  sizes-opens full = rw full refl
