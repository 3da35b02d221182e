-- What a plan shows of an input: a line for each chunk. All rules here are this project's own.
use Rattle.std.specs.Prelude.{ℕ, ◌+◌, ◌-◌, List, [], ◌∷◌, length}
use Rattle.ingest_core.specs.declared.line.Line.{Line}

-- the line of each chunk, in order, the first of which begins at an offset
abbrev pub lines_of : (List ℕ → List ℕ) → ℕ → List (List ℕ) → List Line
lines_of name_of offset [] = []
lines_of name_of offset (chunk ∷ chunks) =
    record { offset = offset; length = length chunk; name = name_of chunk } ∷ lines_of name_of (offset + length chunk) chunks

-- the line of each chunk that has a name, from where the chunks end
abbrev pub lines_to : ℕ → List ℕ → List (List ℕ) → List Line
lines_to offset [] names = []
lines_to offset (end ∷ ends) [] = []
lines_to offset (end ∷ ends) (name ∷ names) =
    record { offset = offset; length = end - offset; name = name } ∷ lines_to end ends names
