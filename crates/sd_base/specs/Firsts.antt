-- The first of some numbers, or of some places of sessions, at which something does not hold.
use Rattle.std.specs.Prelude.{ℕ, ◌<◌}

-- it holds of each number below n
abbrev pub HoldsBelow : ℕ → (ℕ → Type 0) → Type 0
HoldsBelow n Holds = (k : ℕ) → k < n → Holds k

-- k is the first of the numbers below n of which it does not hold
pub record IsFirstFailing (n : ℕ) (Holds : ℕ → Type 0) (k : ℕ) : Type 0 where
  pub within : k < n
  pub before : HoldsBelow k Holds
  pub fails : Holds k → ⊥

-- it holds of each place of each session, of which there are so many
abbrev pub HoldsAtPlaces : ℕ → (ℕ → ℕ) → (ℕ → ℕ → Type 0) → Type 0
HoldsAtPlaces sessions places Holds = HoldsBelow sessions (λ k. HoldsBelow (places k) (Holds k))

-- the first session with a place of which it does not hold, and the first such place
pub record IsFirstFailingPlace (sessions : ℕ) (places : ℕ → ℕ) (Holds : ℕ → ℕ → Type 0) (session place : ℕ) : Type 0 where
  pub within : session < sessions
  pub before : HoldsAtPlaces session places Holds
  pub first : IsFirstFailing (places session) (Holds session) place
