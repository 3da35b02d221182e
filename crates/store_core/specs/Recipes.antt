-- Recipes that name new chunks in order.
use Rattle.std.specs.Prelude.{◌≡◌, ◌⊎◌, ℕ, ◌+◌, ◌<◌, List, [], ◌∷◌}

-- Each entry of a recipe is below `known`, the number of chunks that occurred before it, or it is
-- the next one, which then has occurred too. After the last entry `total` chunks have occurred.
abbrev pub IsInOrder : ℕ → List ℕ → ℕ → Type 0
IsInOrder known [] total = known ≡ total
IsInOrder known (n ∷ recipe) total =
    ((n < known) × IsInOrder known recipe total) ⊎ ((n ≡ known) × IsInOrder (known + 1) recipe total)
