-- The files of a shelf in memory, as a list of entries.
use Rattle.std.specs.Prelude.{◌≡◌, ◌≢◌, ℕ, ◌<◌, Bool, true, false, ◌&&◌, nat_eq, if◌then◌else◌, List, [], ◌∷◌, length, slice_index_or, Option, Some, None, option_map, unwrap_or}
use Rattle.sd_base.specs.declared.file.File.{File}
use Rattle.sd_base.specs.declared.file.File.TheVariants.{Head, Seal, Book, Container}
use Rattle.edge_traits.specs.declared.entries.Entry.{Entry}

abbrev pub is_same_file : File → File → Bool
is_same_file Head Head = true
is_same_file (Seal g) (Seal h) = nat_eq g h
is_same_file (Book g) (Book h) = nat_eq g h
is_same_file (Container g k) (Container h l) = nat_eq g h && nat_eq k l
is_same_file _ _ = false

-- the first entry of the file
abbrev pub entry_of_file : List Entry → File → Option Entry
entry_of_file [] file = None
entry_of_file (entry ∷ entries) file = if is_same_file entry.file file then Some entry else entry_of_file entries file

-- its bytes; a file that has no entry counts as empty
abbrev pub bytes_of_file : List Entry → File → List ℕ
bytes_of_file entries file = unwrap_or (option_map (λ entry. entry.bytes.items) (entry_of_file entries file)) []

-- whether it is loose; a file that has no entry is not
abbrev pub is_loose_file : List Entry → File → Bool
is_loose_file entries file = unwrap_or (option_map (λ entry. entry.is_loose) (entry_of_file entries file)) false

-- this is the index of the first entry of the file
pub record IsIndexOf (entries : List Entry) (file : File) (index : ℕ) : Type 0 where
  pub inside : index < length entries
  pub here : (d : Entry) → (slice_index_or entries index d).file ≡ file
  pub first : (k : ℕ) (d : Entry) → k < index → (slice_index_or entries k d).file ≢ file

-- no file has changed
pub record SameEntries (before after : List Entry) : Type 0 where
  pub bytes : (f : File) → bytes_of_file after f ≡ bytes_of_file before f
  pub loose : (f : File) → is_loose_file after f ≡ is_loose_file before f

-- no file has changed except this one
pub record ChangesEntry (file : File) (before after : List Entry) : Type 0 where
  pub bytes : (f : File) → f ≢ file → bytes_of_file after f ≡ bytes_of_file before f
  pub loose : (f : File) → f ≢ file → is_loose_file after f ≡ is_loose_file before f
