-- Chunks by their numbers: where each lies, and that names by a function of the bytes name them.
use Rattle.std.proofs.Common.{◌≡◌, ◌≢◌, true, false, ℕ, zero, suc, ◌+◌, ◌<◌, ◌≤◌, List, [], ◌∷◌, length, map, slice_index, slice_index_or, slice_range, refl, ap, sym, ◌∙◌, arith}
use Rattle.std.specs.Str.{bytes_eq}
use Rattle.std.proofs.lemmas.Slice.Eq.{bytes_eq-Decides}
use Rattle.std.proofs.lemmas.List.{get_or-map, length-map}
use Rattle.sd_base.specs.Cutting.{RiseWithin, chunks_between}
use Rattle.shard_plan.specs.Items.{AreNamed, ItemList, chunk_of, name_of}

-- a chunk begins before its end, which is in the text
pub chunk_inside : (s high : ℕ) (ends : List ℕ) (i : ℕ) → RiseWithin s high ends → i < length ends →
    (slice_index (s ∷ ends) i < slice_index ends i) × (slice_index ends i ≤ high)
chunk_inside s high [] i rise inside = absurd (omega arith)
chunk_inside s high (cut ∷ ends) zero rise inside = (rise.0, rise.1)
chunk_inside s high (cut ∷ ends) (suc i) rise inside = chunk_inside cut high ends i rise.2 (omega arith)

-- there are no more chunks than bytes
more_ends : (s high : ℕ) (ends : List ℕ) → RiseWithin s high ends → s ≤ high → s + length ends ≤ high
more_ends s high [] rise within = omega arith
more_ends s high (cut ∷ ends) rise within = omega (arith, more_ends cut high ends rise.2 rise.1, rise.0)

pub few_ends : (s high : ℕ) (ends : List ℕ) → RiseWithin s high ends → length ends ≤ high
few_ends s high [] rise = omega arith
few_ends s high (cut ∷ ends) rise = omega (arith, more_ends cut high ends rise.2 rise.1, rise.0)

-- there is one chunk for each end
pub one_a_cut : (text : List ℕ) (s : ℕ) (ends : List ℕ) → length (chunks_between text s ends) ≡ length ends
one_a_cut text s [] = refl
one_a_cut text s (cut ∷ ends) = ap suc (one_a_cut text cut ends)

-- chunk i reaches from the end before it to its own
pub chunk_is : (text : List ℕ) (s : ℕ) (ends : List ℕ) (i : ℕ) → i < length ends
    → slice_index_or (chunks_between text s ends) i [] ≡ slice_range text (slice_index (s ∷ ends) i) (slice_index ends i)
chunk_is text s [] i inside = absurd (omega arith)
chunk_is text s (cut ∷ ends) zero inside = refl
chunk_is text s (cut ∷ ends) (suc i) inside = chunk_is text cut ends i (omega arith)

-- names that are a function of the bytes are equal if the bytes are
pub named_by_function : (f : List ℕ → List ℕ) (chunks names : List (List ℕ)) → names ≡ map f chunks → AreNamed chunks names
named_by_function f chunks names is =
    let at : (i : ℕ) → i < length chunks → slice_index_or names i [] ≡ f (slice_index_or chunks i []) =
    λ i inside. ap (λ ns. slice_index_or ns i []) is ∙ get_or-map f chunks i [] [] inside
    in record {
      one_each = ap length is ∙ length-map chunks f;
      agree = λ i j first second same. at i first ∙ ap f same ∙ sym (at j second);
    }

-- chunks whose names differ have different bytes
pub other_names : (items : ItemList) (i j : ℕ) → AreNamed items.chunks items.names → i < length items.chunks → j < length items.chunks
    → bytes_eq (name_of items i) (name_of items j) ≡ false → chunk_of items i ≢ chunk_of items j
other_names items i j named first second differ same =
    let clash : false ≡ true =
    sym differ ∙ (bytes_eq-Decides (name_of items i) (name_of items j)).1 (named.agree i j first second same)
    in absurd cc
