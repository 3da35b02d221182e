-- What a write does to the bytes that were written. `None` stands for a sink that is not
-- observable.
use Rattle.std.specs.Prelude.{◌≡◌, ℕ, ◌≤◌, List, ◌++◌, length, take, Option, option_map}

-- these bytes were written after those before
abbrev pub Appends : Option (List ℕ) → Option (List ℕ) → List ℕ → Type 0
Appends before after bytes = after ≡ option_map (λ had. had ++ bytes) before

-- the first k bytes of the piece were written after those before, for some k
abbrev pub AppendsPrefix : Option (List ℕ) → Option (List ℕ) → List ℕ → Type 0
AppendsPrefix before after piece = (k : ℕ) × (k ≤ length piece) × Appends before after (take k piece)
