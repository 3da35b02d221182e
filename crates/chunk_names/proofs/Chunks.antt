-- Chunks by their numbers: where each lies, and their names in order.
use Rattle.std.proofs.Common.{◌≡◌, ℕ, zero, suc, ◌+◌, ◌<◌, ◌≤◌, List, [], ◌∷◌, length, map, slice_index, slice_index_or, refl, ap, ◌∙◌, arith}
use Rattle.sd_base.specs.Cutting.{RiseWithin, chunks_between}
use Rattle.chunk_names.specs.Shares.{chunk_at}

-- a chunk begins before its end, which is in the text
pub chunk_inside : (s high : ℕ) (ends : List ℕ) (i : ℕ) → RiseWithin s high ends → i < length ends →
    (slice_index (s ∷ ends) i < slice_index ends i) × (slice_index ends i ≤ high)
chunk_inside s high [] i rise inside = absurd (omega arith)
chunk_inside s high (cut ∷ ends) zero rise inside = (rise.0, rise.1)
chunk_inside s high (cut ∷ ends) (suc i) rise inside = chunk_inside cut high ends i rise.2 (omega arith)

-- there are no more chunks than bytes
more_ends : (s high : ℕ) (ends : List ℕ) → RiseWithin s high ends → s ≤ high → s + length ends ≤ high
more_ends s high [] rise within = omega arith
more_ends s high (cut ∷ ends) rise within = omega (arith, more_ends cut high ends rise.2 rise.1, rise.0)

pub few_ends : (s high : ℕ) (ends : List ℕ) → RiseWithin s high ends → length ends ≤ high
few_ends s high [] rise = omega arith
few_ends s high (cut ∷ ends) rise = omega (arith, more_ends cut high ends rise.2 rise.1, rise.0)

-- names that are each that of its chunk are the names of the chunks in order
pub names_in_order : (name_of : List ℕ → List ℕ) (text : List ℕ) (s : ℕ) (ends : List ℕ) (names : List (List ℕ)) →
    length names ≡ length ends →
    ((i : ℕ) → i < length ends → slice_index_or names i [] ≡ name_of (chunk_at text s ends i)) →
    names ≡ map name_of (chunks_between text s ends)
names_in_order name_of text s [] [] same each = refl
names_in_order name_of text s [] (name ∷ names) same each = absurd (omega arith)
names_in_order name_of text s (cut ∷ ends) [] same each = absurd (omega arith)
names_in_order name_of text s (cut ∷ ends) (name ∷ names) same each =
    ap (λ first. first ∷ names) (each 0 (omega arith))
    ∙ ap (λ rest. name_of (chunk_at text s (cut ∷ ends) 0) ∷ rest)
    (names_in_order name_of text cut ends names (omega arith) (λ i inside. each (suc i) (omega arith)))
