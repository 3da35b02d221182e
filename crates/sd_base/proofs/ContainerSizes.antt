-- The sizes of the containers of chunks follow from the lengths of the chunks.
use Rattle.std.proofs.Common.{◌≡◌, inl, inr, ℕ, ◌+◌, List, [], ◌∷◌, ◌++◌, length, map, refl, ap, ◌∙◌, length-append}
use Rattle.std.specs.Prelude.{nat_le}
use Rattle.std.proofs.lemmas.Bool.{cases_Bool}
use Rattle.sd_base.specs.Packing.{header_of, packed_on, packing, sizes_on, container_sizes}
use Rattle.sd_base.specs.declared.limits.TheConstants.{MAX_CONTAINER, CONTAINER_HEADER}

length-header_of : (number : ℕ) → length (header_of number) ≡ CONTAINER_HEADER
length-header_of number = refl

sizes-packed_on : (number : ℕ) (container : List ℕ) (chunks : List (List ℕ)) →
    map length (packed_on number container chunks) ≡ sizes_on (length container) (map length chunks)
sizes-packed_on number container [] = refl
sizes-packed_on number container (chunk ∷ chunks) =
    elim (cases_Bool (nat_le (length container + length chunk) MAX_CONTAINER)) [
      | inl fits ↦ rw fits (sizes-packed_on number (container ++ chunk) chunks ∙ ap (λ size. sizes_on size (map length chunks)) (length-append {A = ℕ} container chunk))
      | inr full ↦ rw full (ap (λ sizes. length container ∷ sizes)
          (sizes-packed_on (number + 1) (header_of (number + 1) ++ chunk) chunks ∙ ap (λ size. sizes_on size (map length chunks)) (length-append {A = ℕ} (header_of (number + 1)) chunk)))
    ]

pub sizes-packing : (chunks : List (List ℕ)) → map length (packing chunks) ≡ container_sizes (map length chunks)
sizes-packing [] = refl
sizes-packing (chunk ∷ chunks) = sizes-packed_on 0 (header_of 0 ++ chunk) chunks ∙ ap (λ size. sizes_on size (map length chunks)) (length-append {A = ℕ} (header_of 0) chunk)
