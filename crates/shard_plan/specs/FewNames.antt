-- Names of which there are only three, for tests. Those of the second kind agree in all but the
-- first byte.
use Rattle.std.specs.Prelude.{◌≡◌, ℕ, ◌%◌, List, ◌∷◌, length, replicate}
use Rattle.std.proofs.Common.{refl}

-- the number of bytes modulo 3, 32 times
abbrev pub few_name : List ℕ → List ℕ
few_name bytes = replicate 32 (length bytes % 3)

pub length-few_name : (bytes : List ℕ) → length (few_name bytes) ≡ 32
length-few_name bytes = refl

-- the number of bytes modulo 3, and then zeros
abbrev pub front_name : List ℕ → List ℕ
front_name bytes = length bytes % 3 ∷ replicate 31 0

pub length-front_name : (bytes : List ℕ) → length (front_name bytes) ≡ 32
length-front_name bytes = refl
