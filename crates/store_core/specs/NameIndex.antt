-- An index of names of chunks.
use Rattle.std.specs.Prelude.{◌≡◌, ℕ, List, length}
use Rattle.std.specs.HashMap.{HashMap, get}
use Rattle.std.specs.List.{position}
use Rattle.std.specs.Str.{bytes_eq}
use Rattle.std.specs.declared.hash.BuildHasherDefault.{BuildHasherDefault}
use Rattle.std.specs.declared.hash.FoldHasher.{FoldHasher}
use Rattle.store_core.specs.declared.name_index.NameIndex.{NameIndex}

-- a map from names to numbers of chunks
abbrev pub FirstNumbers : Type 0
FirstNumbers = HashMap (List ℕ) ℕ (BuildHasherDefault FoldHasher)

-- the map has the number of the first chunk of each of these names, and nothing else
abbrev pub HasFirsts : FirstNumbers → List (List ℕ) → Type 0
HasFirsts map names = (name : List ℕ) → get bytes_eq map name ≡ position (bytes_eq name) names

-- the index has the names of these chunks, in order
pub record Covers (index : NameIndex) (names : List (List ℕ)) : Type 0 where
  pub firsts : HasFirsts index.first names
  pub count : index.chunks ≡ length names
