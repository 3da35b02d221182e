-- The text of a plan, from the lines that `ingest_core` makes of an input.
use Rattle.std.specs.Prelude.{ℕ, List, [], ◌∷◌, ◌++◌}
use Rattle.std.specs.Fmt.{decimal}
use Rattle.hex.specs.Hex.{encode_lower}
use Rattle.ingest_core.specs.declared.line.Line.{Line}

-- a line as it is printed: the offset of the chunk, its length and its name
abbrev pub printed_line : Line → List ℕ
printed_line line =
    decimal line.offset ++ 32 ∷ [] ++ decimal line.length ++ 32 ∷ [] ++ encode_lower line.name ++ 10 ∷ []

-- lines as they are printed, in order
abbrev pub printed_lines : List Line → List ℕ
printed_lines [] = []
printed_lines (line ∷ lines) = printed_line line ++ printed_lines lines
