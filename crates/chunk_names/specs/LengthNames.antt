-- A name that many chunks share.
use Rattle.std.specs.Prelude.{◌≡◌, ℕ, List, [], ◌∷◌, ◌++◌, length, replicate}
use Rattle.std.specs.Int.{w64, to_be_bytes}
use Rattle.std.proofs.Common.{refl}

-- 24 zeros, and the number of bytes in eight
abbrev pub length_name : List ℕ → List ℕ
length_name bytes = replicate 24 0 ++ to_be_bytes w64 (length bytes)

pub length-length_name : (bytes : List ℕ) → length (length_name bytes) ≡ 32
length-length_name bytes = refl

pub length_name-of_64_bytes : length_name (replicate 64 7) ≡ replicate 31 0 ++ 64 ∷ []
length_name-of_64_bytes = refl
