-- The chunks of a text by their numbers, and which of them a worker names. All rules here are this
-- project's own.
use Rattle.std.specs.Prelude.{◌≡◌, ℕ, ◌+◌, ◌<◌, List, ◌∷◌, length, slice_index, slice_index_or, slice_range}

-- chunk i of a text, the first of which begins at a position: it reaches from the end before it, or
-- from that position, to its own end
abbrev pub chunk_at : List ℕ → ℕ → List ℕ → ℕ → List ℕ
chunk_at text start ends i = slice_range text (slice_index (start ∷ ends) i) (slice_index ends i)

-- the places of a share that begins at chunk `first` have the names of its chunks. Those after the
-- last chunk may have any.
abbrev pub HasNamesOf : (List ℕ → List ℕ) → List ℕ → ℕ → List ℕ → ℕ → List (List ℕ) → Type 0
HasNamesOf name_of text start ends first names =
    (k : ℕ) (d : List ℕ) → k < length names → first + k < length ends
    → slice_index_or names k d ≡ name_of (chunk_at text start ends (first + k))
