-- The chunks of a text with their names. All rules here are this project's own.
use Rattle.std.specs.Prelude.{◌≡◌, ℕ, ◌<◌, List, [], length, slice_index_or}

-- the chunks, and the name of each
pub record ItemList : Type 0 where
  pub chunks : List (List ℕ)
  pub names : List (List ℕ)

-- the bytes of item i, or none if there is no such item
abbrev pub chunk_of : ItemList → ℕ → List ℕ
chunk_of items i = slice_index_or items.chunks i []

-- the name of item i, or an empty one if there is no such item
abbrev pub name_of : ItemList → ℕ → List ℕ
name_of items i = slice_index_or items.names i []

-- there is one name for each chunk, and chunks of equal bytes have equal names
pub record AreNamed (chunks names : List (List ℕ)) : Type 0 where
  pub one_each : length names ≡ length chunks
  pub agree : (i j : ℕ) → i < length chunks → j < length chunks
      → slice_index_or chunks i [] ≡ slice_index_or chunks j []
      → slice_index_or names i [] ≡ slice_index_or names j []
