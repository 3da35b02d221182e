-- The texts that commands print, as bytes. Fields are separated by one space, a line ends with a
-- line feed, and numbers are decimal with no leading zeros. Names of chunks are SHA-256 (FIPS
-- 180-4) in hexadecimal.
use Rattle.std.specs.Prelude.{ℕ, ◌+◌, List, [], ◌∷◌, ◌++◌, length, codes}
use Rattle.std.specs.Fmt.{decimal}
use Rattle.std.specs.List.{concat, flat_map}
use Rattle.sha2.specs.Sha256.{sha256}
use Rattle.hex.specs.Hex.{encode_lower}
use Rattle.sd_base.specs.Distinct.{new_chunks}

-- the name of a chunk as it is printed: 64 lower-case hexadecimal digits
abbrev pub printed_name : List ℕ → List ℕ
printed_name chunk = encode_lower (sha256 chunk)

-- the line of a chunk: its offset in the input, its length and its name
abbrev pub plan_line : ℕ → List ℕ → List ℕ
plan_line offset chunk =
    decimal offset ++ 32 ∷ [] ++ decimal (length chunk) ++ 32 ∷ [] ++ printed_name chunk ++ 10 ∷ []

-- a line for each chunk, in order, the first chunk at an offset
abbrev pub plan_lines : ℕ → List (List ℕ) → List ℕ
plan_lines offset [] = []
plan_lines offset (chunk ∷ chunks) = plan_line offset chunk ++ plan_lines (offset + length chunk) chunks

-- the text of `plan`
abbrev pub plan_text : List (List ℕ) → List ℕ
plan_text chunks = plan_lines 0 chunks

-- the text of `init`
abbrev pub ready_text : List ℕ
ready_text = codes "ready" ++ 10 ∷ []

-- the text of an ingest: the name of the session, the number of its bytes, of its places and of its
-- new chunks
abbrev pub ingested_text : List ℕ → ℕ → ℕ → ℕ → List ℕ
ingested_text name bytes places fresh =
    codes "ingested " ++ name ++ 32 ∷ [] ++ decimal bytes ++ codes " bytes " ++ decimal places ++ codes " places "
    ++ decimal fresh ++ codes " new" ++ 10 ∷ []

-- the text of an ingest of these chunks, after those of all earlier ingests
abbrev pub ingest_text : List (List ℕ) → List ℕ → List (List ℕ) → List ℕ
ingest_text before name chunks =
    ingested_text name (length (concat chunks)) (length chunks) (length (new_chunks before chunks))

-- a session as `list` shows it: its number, its name, the number of its bytes and of its places
pub record SessionRow : Type 0 where
  pub number : ℕ
  pub name : List ℕ
  pub bytes : ℕ
  pub places : ℕ

abbrev pub list_line : SessionRow → List ℕ
list_line row =
    decimal row.number ++ 32 ∷ [] ++ row.name ++ 32 ∷ [] ++ decimal row.bytes ++ 32 ∷ [] ++ decimal row.places ++ 10 ∷ []

-- the text of `list`: a line for each row, in order
abbrev pub list_text : List SessionRow → List ℕ
list_text rows = flat_map list_line rows

-- the text of `drop`: the name of the dropped session and the number of its places
abbrev pub dropped_text : List ℕ → ℕ → List ℕ
dropped_text name places = codes "dropped " ++ name ++ 32 ∷ [] ++ decimal places ++ codes " places" ++ 10 ∷ []

-- a stored chunk as `refs` shows it: its number, its reference count, its length and its name
pub record ReferenceRow : Type 0 where
  pub number : ℕ
  pub count : ℕ
  pub length : ℕ
  pub name : List ℕ

abbrev pub refs_line : ReferenceRow → List ℕ
refs_line row =
    decimal row.number ++ 32 ∷ [] ++ decimal row.count ++ 32 ∷ [] ++ decimal row.length ++ 32 ∷ []
    ++ encode_lower row.name ++ 10 ∷ []

-- the text of `refs`: a line for each row, in order
abbrev pub refs_text : List ReferenceRow → List ℕ
refs_text rows = flat_map refs_line rows
