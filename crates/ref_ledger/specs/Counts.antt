-- Reference counts, as a list with one count a chunk. All rules here are this project's own.
use Rattle.std.specs.Prelude.{ℕ, List, slice_index_or}

-- the count of chunk i, or 0 if it has none
abbrev pub count_at : List ℕ → ℕ → ℕ
count_at counts i = slice_index_or counts i 0
