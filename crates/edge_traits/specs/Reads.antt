-- How much one read of a source in memory takes.
use Rattle.std.specs.Prelude.{ℕ, List, [], ◌∷◌, min}

-- a read takes at most the next size, or as much as fits if the sizes are used up
abbrev pub max_read_len : List ℕ → ℕ → ℕ
max_read_len [] room = room
max_read_len (size ∷ _) room = min size room
