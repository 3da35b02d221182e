-- What a read does to the bytes that are left. `None` stands for a source that is not observable.
use Rattle.std.specs.Prelude.{◌≡◌, ℕ, ◌≤◌, List, [], ◌++◌, drop, Option, option_map, IfSome}

-- these bytes were taken from the front of what was left
abbrev pub Consumes : Option (List ℕ) → Option (List ℕ) → List ℕ → Type 0
Consumes before after bytes = before ≡ option_map (λ rest. bytes ++ rest) after

-- nothing is left, if the source is observable
abbrev pub IsAtEnd : Option (List ℕ) → Type 0
IsAtEnd left = IfSome left (λ rest. rest ≡ [])

-- the first n bytes are gone, for some n of at most `most`
abbrev pub LosesAtMost : ℕ → Option (List ℕ) → Option (List ℕ) → Type 0
LosesAtMost most before after = (n : ℕ) × (n ≤ most) × (after ≡ option_map (λ rest. drop n rest) before)
