-- Bytes are divided one after another.
use Rattle.std.proofs.Common.{◌≡◌, ℕ, List, [], ◌∷◌, refl, ◌∙◌}
use Rattle.std.specs.List.{fold, flat_map}
use Rattle.std.proofs.lemmas.List.Sums.{fold-append}
use Rattle.sd_base.specs.Polynomial.{append_bit, bits_of_byte, fingerprint}
use Rattle.rabin_window.specs.Division.{byte_bits, append_byte}

-- a fold over all parts of all elements goes element by element
fold-flat_map : {A B C : Type 0} (step : B → A → B) (f : C → List A) (a : B) (xs : List C)
    → fold step a (flat_map f xs) ≡ fold (λ b x. fold step b (f x)) a xs
fold-flat_map step f a [] = refl
fold-flat_map step f a (x ∷ xs) = fold-append step a (f x) (flat_map f xs) ∙ fold-flat_map step f (fold step a (f x)) xs

-- the fingerprint, byte by byte
pub fingerprint_by_bytes : (p : ℕ) (xs : List ℕ) → fingerprint p xs ≡ fold (append_byte p) 0 xs
unfolding byte_bits append_byte
fingerprint_by_bytes p xs = fold-flat_map (append_bit p) bits_of_byte 0 xs
