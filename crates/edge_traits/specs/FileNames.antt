-- The names of the files of a store in a folder. Numbers are decimal with no leading zeros.
use Rattle.std.specs.Prelude.{ℕ, List, [], ◌∷◌, ◌++◌, codes}
use Rattle.std.specs.Fmt.{decimal}
use Rattle.sd_base.specs.declared.file.File.{File}
use Rattle.sd_base.specs.declared.file.File.TheVariants.{Head, Seal, Book, Container}

-- the name of a file in its folder
abbrev pub file_name : File → List ℕ
file_name Head = codes "head"
file_name (Seal generation) = codes "seal." ++ decimal generation
file_name (Book generation) = codes "book." ++ decimal generation
file_name (Container generation number) = codes "container." ++ decimal generation ++ codes "." ++ decimal number

-- The path of a file in this folder. The empty path names no folder, so no file has a path in it.
abbrev pub path_in : List ℕ → File → List ℕ
path_in [] file = []
path_in (first ∷ rest) file = first ∷ rest ++ codes "/" ++ file_name file
