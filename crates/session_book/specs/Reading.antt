-- Reading a record from left to right: each field is a value and the bytes after it, or nothing if
-- the bytes do not begin with such a field. The public contracts do not speak of it: they speak of
-- spellings.
use Rattle.std.specs.Prelude.{◌≡◌, ℕ, zero, suc, ◌+◌, ◌==◌, ◌&&◌, nat_lt, nat_le, if◌then◌else◌, List, [], ◌∷◌, length, take, drop, Option, Some, None, is_some, Result, Ok, Err}
use Rattle.std.specs.Int.{w32, from_be_bytes}
use Rattle.std.specs.Str.{bytes_eq}
use Rattle.sha2.specs.Sha256.{sha256}
use Rattle.sd_base.specs.Names.{bad_name}
use Rattle.sd_base.specs.Records.{digested}
use Rattle.sd_base.specs.declared.limits.TheConstants.{MAX_CHUNK_LEN, MAX_CHUNKS, MAX_PLACES}
use Rattle.sd_base.specs.declared.record.TheConstants.{INGEST_KIND, DROP_KIND, NUMBER_LEN, DIGEST_LEN, AROUND_BODY}
use Rattle.sd_base.specs.declared.record.NewChunk.{NewChunk}
use Rattle.sd_base.specs.declared.record.IngestRecord.{IngestRecord}
use Rattle.sd_base.specs.declared.record.Record.{Record}
use Rattle.sd_base.specs.declared.record.Record.TheVariants.{Ingest, Drop}
use Rattle.session_book.specs.declared.record_reader.Stop.{Stop}
use Rattle.session_book.specs.declared.record_reader.Stop.TheVariants.{Memory, Unspelled}
use Rattle.session_book.specs.declared.step.Step.{Step}
use Rattle.session_book.specs.declared.step.Step.TheVariants.{Whole, Short, Bad}

infixl 10 ◌>>=◌
abbrev pub ◌>>=◌ : {A B : Type 0} → Option A → (A → Option B) → Option B
(Some x) >>= f = f x
None >>= f = None

-- why a reader stopped: memory ran out, or there is nothing to read
abbrev pub StopsAs : {Y : Type 0} → Stop → Option Y → Type 0
StopsAs Memory read = Unit {0}
StopsAs Unspelled read = read ≡ None

-- what a reader returned, seen by view, is what there is to read, unless memory ran out
abbrev pub ReadsAs : {X Y : Type 0} → (X → Y) → Result X Stop → Option Y → Type 0
ReadsAs view (Ok x) read = read ≡ Some (view x)
ReadsAs view (Err e) read = StopsAs e read

abbrev pub number_at : List ℕ → Option (ℕ × List ℕ)
number_at bytes =
    if nat_lt (length bytes) NUMBER_LEN then None
    else Some (from_be_bytes w32 (take NUMBER_LEN bytes), drop NUMBER_LEN bytes)

-- the first n bytes
abbrev pub bytes_at : ℕ → List ℕ → Option (List ℕ × List ℕ)
bytes_at n bytes = if nat_lt (length bytes) n then None else Some (take n bytes, drop n bytes)

-- a name of a session
abbrev pub checked_name : List ℕ × List ℕ → Option (List ℕ × List ℕ)
checked_name x = if is_some (bad_name x.0) then None else Some x

unfoldable pub name_at : List ℕ → Option (List ℕ × List ℕ)
name_at [] = None
name_at (n ∷ bytes) = bytes_at n bytes >>= checked_name

-- a new chunk
abbrev pub checked_chunk : NewChunk × List ℕ → Option (NewChunk × List ℕ)
checked_chunk x = if nat_le 1 x.0.length && nat_le x.0.length MAX_CHUNK_LEN then Some x else None

unfoldable pub chunk_at : List ℕ → Option (NewChunk × List ℕ)
chunk_at bytes = do
  size ← number_at bytes
  name ← bytes_at DIGEST_LEN size.1
  checked_chunk (record { length = size.0; name = name.0 }, name.1)

-- n items, one after another
unfoldable pub list_at : {A : Type 0} → (List ℕ → Option (A × List ℕ)) → ℕ → List ℕ → Option (List A × List ℕ)
list_at item zero bytes = Some ([], bytes)
list_at item (suc n) bytes = do
  first ← item bytes
  others ← list_at item n first.1
  Some (first.0 ∷ others.0, others.1)

-- the number of items, which is within a limit, and the items
abbrev pub counted_at : {A : Type 0} → ℕ → (List ℕ → Option (A × List ℕ)) → List ℕ → Option (List A × List ℕ)
counted_at limit item bytes = number_at bytes >>= λ n. if nat_le n.0 limit then list_at item n.0 n.1 else None

unfoldable pub chunks_at : List ℕ → Option (List NewChunk × List ℕ)
chunks_at bytes = counted_at MAX_CHUNKS chunk_at bytes

unfoldable pub entries_at : List ℕ → Option (List ℕ × List ℕ)
entries_at bytes = counted_at MAX_PLACES number_at bytes

-- an ingest of a name, from the bytes after the name
abbrev pub ingest_after_name : List ℕ → List ℕ → Option (IngestRecord × List ℕ)
ingest_after_name name bytes = do
  size ← number_at bytes
  fresh ← chunks_at size.1
  recipe ← entries_at fresh.1
  Some (record { name = name; length = size.0; fresh = fresh.0; recipe = recipe.0 }, recipe.1)

unfoldable pub ingest_at : List ℕ → Option (IngestRecord × List ℕ)
ingest_at bytes = name_at bytes >>= λ name. ingest_after_name name.0 name.1

-- a value with no bytes after it
abbrev pub ended : {A : Type 0} → (A → Record) → A × List ℕ → Option Record
ended made x = if length x.1 == 0 then Some (made x.0) else None

-- the record of a kind and a body
unfoldable pub record_of : ℕ → List ℕ → Option Record
record_of kind body =
    if kind == INGEST_KIND then ingest_at body >>= ended Ingest
    else if kind == DROP_KIND then number_at body >>= ended Drop
    else None

-- the kind, the body and the digest of the record that bytes begin
unfoldable pub parts_at : List ℕ → Option (ℕ × List ℕ × List ℕ)
parts_at [] = None
parts_at (kind ∷ bytes) = do
  size ← number_at bytes
  body ← bytes_at size.0 size.1
  digest ← bytes_at DIGEST_LEN body.1
  Some (kind, body.0, digest.0)

abbrev pub whole_or_bad : ℕ → Option Record → Step
whole_or_bad k None = Bad
whole_or_bad k (Some entry) = Whole entry k

-- the step of a kind, a body and a digest
abbrev pub step_of_body : ℕ → List ℕ → List ℕ → Step
step_of_body kind body digest =
    if bytes_eq (sha256 (digested kind body)) digest
    then whole_or_bad (AROUND_BODY + length body) (record_of kind body)
    else Bad

abbrev pub step_of_parts : Option (ℕ × List ℕ × List ℕ) → Step
step_of_parts None = Short
step_of_parts (Some parts) = step_of_body parts.0 parts.1 parts.2

unfoldable pub step_of : List ℕ → Step
step_of bytes = step_of_parts (parts_at bytes)
