-- The records of a store's book, one for each ingest and each drop, and the one spelling of each.
-- Numbers are unsigned and big-endian. The digest is SHA-256 (FIPS 180-4).
use Rattle.std.specs.Prelude.{◌≡◌, ℕ, ◌+◌, ◌^◌, ◌<◌, ◌≤◌, List, ◌∷◌, ◌++◌, length, take, slice_range, ◌⊎◌}
use Rattle.std.specs.Int.{w32, from_be_bytes, to_be_bytes}
use Rattle.std.specs.List.{All, flat_map}
use Rattle.sha2.specs.Sha256.{sha256}
use Rattle.sd_base.specs.Names.{IsName}
use Rattle.sd_base.specs.declared.limits.TheConstants.{MAX_CHUNK_LEN, MAX_CHUNKS, MAX_PLACES}
use Rattle.sd_base.specs.declared.record.TheConstants.{INGEST_KIND, DROP_KIND, NUMBER_LEN, DIGEST_LEN, AROUND_BODY}
use Rattle.sd_base.specs.declared.record.NewChunk.{NewChunk}
use Rattle.sd_base.specs.declared.record.IngestRecord.{IngestRecord}
use Rattle.sd_base.specs.declared.record.Record.{Record}
use Rattle.sd_base.specs.declared.record.Record.TheVariants.{Ingest, Drop}

-- a number in four bytes
abbrev pub u32_bytes : ℕ → List ℕ
u32_bytes n = to_be_bytes w32 n

-- a new chunk: its length and its name
abbrev pub new_chunk : NewChunk → List ℕ
new_chunk chunk = u32_bytes chunk.length ++ chunk.name

-- the body of an ingest: the length of the session's name in one byte, and the name; the length of
-- the input; the number of new chunks, and the chunks; the number of entries of the recipe, and the
-- entries
unfoldable pub ingest_body : IngestRecord → List ℕ
ingest_body entry =
    (length entry.name ∷ entry.name) ++ (u32_bytes entry.length
    ++ (u32_bytes (length entry.fresh) ++ (flat_map new_chunk entry.fresh
    ++ (u32_bytes (length entry.recipe) ++ flat_map u32_bytes entry.recipe))))

-- the first byte: `I` or `D`
abbrev pub kind_of : Record → ℕ
kind_of (Ingest entry) = INGEST_KIND
kind_of (Drop session) = DROP_KIND

-- the body of a drop is the number of the dropped session
abbrev pub body_of : Record → List ℕ
body_of (Ingest entry) = ingest_body entry
body_of (Drop session) = u32_bytes session

-- what the digest of a record is of: its kind, the length of its body, and the body
abbrev pub digested : ℕ → List ℕ → List ℕ
digested kind body = kind ∷ (u32_bytes (length body) ++ body)

-- these bytes and their digest
abbrev pub sealed : List ℕ → List ℕ
sealed bytes = bytes ++ sha256 bytes

-- the one spelling of a record
unfoldable pub spelling_of : Record → List ℕ
spelling_of entry = sealed (digested (kind_of entry) (body_of entry))

-- the limits of an ingest. The grammar asks for more, but the types of the fields keep to the rest.
pub record IsIngestWithinLimits (entry : IngestRecord) : Type 0 where
  pub chunks : length entry.fresh ≤ MAX_CHUNKS
  pub lengths : All (λ chunk. (1 ≤ chunk.length) × (chunk.length ≤ MAX_CHUNK_LEN)) entry.fresh
  pub places : length entry.recipe ≤ MAX_PLACES

abbrev pub IsWithinLimits : Record → Type 0
IsWithinLimits (Ingest entry) = IsIngestWithinLimits entry
IsWithinLimits (Drop session) = Unit {0}

-- a new chunk of the grammar
pub record IsNewChunk (chunk : NewChunk) : Type 0 where
  pub size : (1 ≤ chunk.length) × (chunk.length ≤ MAX_CHUNK_LEN)
  pub name : length chunk.name ≡ DIGEST_LEN

-- an ingest of the grammar
pub record IsIngest (entry : IngestRecord) : Type 0 where
  pub name : IsName entry.name
  pub size : entry.length < 2 ^ 32
  pub chunk_limit : length entry.fresh ≤ MAX_CHUNKS
  pub chunks : All IsNewChunk entry.fresh
  pub place_limit : length entry.recipe ≤ MAX_PLACES
  pub entries : All (λ n. n < 2 ^ 32) entry.recipe

-- a record of the grammar
abbrev pub IsRecord : Record → Type 0
IsRecord (Ingest entry) = IsIngest entry
IsRecord (Drop session) = session < 2 ^ 32

-- The grammar, as a relation between bytes and records: the first k bytes are the spelling of a
-- record.
pub record BeginsWith (bytes : List ℕ) (entry : Record) (k : ℕ) : Type 0 where
  pub lawful : IsRecord entry
  pub ends : k ≡ length (spelling_of entry)
  pub spelled : take k bytes ≡ spelling_of entry

-- the length of the body that the bytes after the kind state
abbrev pub stated_length : List ℕ → ℕ
stated_length bytes = from_be_bytes w32 (slice_range bytes 1 (1 + NUMBER_LEN))

-- fewer bytes than a kind and a length, or fewer than the record has whose kind and length they
-- begin with
abbrev pub IsShort : List ℕ → Type 0
IsShort bytes = (length bytes < 1 + NUMBER_LEN) ⊎ (length bytes < AROUND_BODY + stated_length bytes)

-- a kind, the length of a body, the body and their digest stand at the front of bytes
pub record BeginsSealed (bytes : List ℕ) : Type 0 where
  pub kind : ℕ
  pub body : List ℕ
  pub rest : List ℕ
  pub small : length body < 2 ^ 32
  pub spelled : bytes ≡ sealed (digested kind body) ++ rest

-- neither short nor beginning with a record of the grammar
abbrev pub BeginsWithNone : List ℕ → Type 0
BeginsWithNone bytes = (IsShort bytes → ⊥) × ((entry : Record) (k : ℕ) → BeginsWith bytes entry k → ⊥)

-- no spelling is a proper prefix of another, and no two records have one spelling
abbrev pub NoSpellingBeginsAnother : Type 0
NoSpellingBeginsAnother =
    (first second : Record) (x y : List ℕ) → IsRecord first → IsRecord second →
    spelling_of first ++ x ≡ spelling_of second ++ y → (first ≡ second) × (x ≡ y)
