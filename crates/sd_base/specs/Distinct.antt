-- Distinct chunks of a list, in order of first occurrence. Two chunks are the same if their bytes
-- are equal: no name of a chunk enters.
use Rattle.std.specs.Prelude.{◌≡◌, ℕ, Bool, false, not, List, [], ◌∷◌}
use Rattle.std.specs.List.{filter, list_any, position_or_len}
use Rattle.std.specs.Str.{bytes_eq}

-- whether a chunk is among others
abbrev pub is_among : List (List ℕ) → List ℕ → Bool
is_among others chunk = list_any (bytes_eq chunk) others

-- the chunks of a list that are not among others
abbrev pub not_among : List (List ℕ) → List (List ℕ) → List (List ℕ)
not_among others chunks = filter (λ chunk. not (is_among others chunk)) chunks

-- the chunks of a list without each that equals an earlier one
abbrev pub distinct : List (List ℕ) → List (List ℕ)
distinct [] = []
distinct (chunk ∷ chunks) = chunk ∷ not_among (chunk ∷ []) (distinct chunks)

-- the chunks of a list that are not among those before it, each once, in order of first occurrence
abbrev pub new_chunks : List (List ℕ) → List (List ℕ) → List (List ℕ)
new_chunks before chunks = not_among before (distinct chunks)

-- the least index of a chunk in a list, or the number of its chunks if it is not among them
abbrev pub first_index : List (List ℕ) → List ℕ → ℕ
first_index chunks chunk = position_or_len (bytes_eq chunk) chunks

-- no two chunks of a list are equal
abbrev pub AreDifferent : List (List ℕ) → Type 0
AreDifferent [] = Unit {0}
AreDifferent (chunk ∷ chunks) = (is_among chunks chunk ≡ false) × AreDifferent chunks
