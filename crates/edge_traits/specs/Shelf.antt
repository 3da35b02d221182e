-- What the calls of a shelf do to its files.
use Rattle.std.specs.Prelude.{◌≡◌, ◌≢◌, ◌⊎◌, ℕ, ◌≤◌, List, ◌++◌, length, take, drop, Bool, true, false, Option, option_map, IfSome}
use Rattle.sd_base.specs.declared.file.File.{File}

-- the bytes of one file, if the shelf is observable
abbrev pub content : Option (File → List ℕ) → File → Option (List ℕ)
content files file = option_map (λ bytes_of. bytes_of file) files

-- no file has changed
abbrev pub SameFiles : Option (File → List ℕ) → Option (File → List ℕ) → Type 0
SameFiles before after = (f : File) → content after f ≡ content before f

-- no file has changed except this one
abbrev pub ChangesOnly : File → Option (File → List ℕ) → Option (File → List ℕ) → Type 0
ChangesOnly file before after = (f : File) → f ≢ file → content after f ≡ content before f

-- the file has its old bytes and then these
abbrev pub Appended : File → List ℕ → Option (File → List ℕ) → Option (File → List ℕ) → Type 0
Appended file bytes before after = content after file ≡ option_map (λ had. had ++ bytes) (content before file)

-- the file has its old bytes and then the first k of these, for some k
abbrev pub AppendedPrefix : File → List ℕ → Option (File → List ℕ) → Option (File → List ℕ) → Type 0
AppendedPrefix file piece before after = (k : ℕ) × (k ≤ length piece) × Appended file (take k piece) before after

-- the file has the first bytes that it had, up to this length
abbrev pub CutTo : File → ℕ → Option (File → List ℕ) → Option (File → List ℕ) → Type 0
CutTo file size before after = content after file ≡ option_map (λ had. take size had) (content before file)

-- the file is cut, or it is as it was
abbrev pub CutOrSame : File → ℕ → Option (File → List ℕ) → Option (File → List ℕ) → Type 0
CutOrSame file size before after = CutTo file size before after ⊎ (content after file ≡ content before file)

-- if the bytes are known, this is their number
abbrev pub HasLength : Option (List ℕ) → ℕ → Type 0
HasLength known n = IfSome known (λ bytes. n ≡ length bytes)

-- if the bytes are known, these are those from offset `at` on, as many as there are and as fit
abbrev pub IsReadAt : Option (List ℕ) → ℕ → ℕ → List ℕ → Type 0
IsReadAt known at room given = IfSome known (λ bytes. given ≡ take room (drop at bytes))

-- the same files are loose as before
abbrev pub SameLoose : (File → Bool) → (File → Bool) → Type 0
SameLoose before after = (f : File) → after f ≡ before f

-- an append or a cut may make its own file loose, and leaves each other file as it was
pub record MayLoosen (file : File) (before after : File → Bool) : Type 0 where
  pub own : before file ≡ true → after file ≡ true
  pub others : (f : File) → f ≢ file → after f ≡ before f

-- a flush makes its own file not loose, and leaves each other file as it was
pub record Flushed (file : File) (before after : File → Bool) : Type 0 where
  pub own : after file ≡ false
  pub others : (f : File) → f ≢ file → after f ≡ before f
