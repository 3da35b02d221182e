-- What contracts know of a shelf over a folder.
use Rattle.std.specs.Prelude.{ℕ}
use Rattle.edge_traits.specs.declared.folder_shelf.FolderShelf.{FolderShelf}

-- how many of its calls have failed, at most 2^64 - 1
abbrev pub folder_faults : {T F D : Type 0} → FolderShelf T F D → ℕ
folder_faults shelf = shelf.faults
