-- How many bytes the parts of a record take.
use Rattle.std.proofs.Common.{◌≡◌, ℕ, ◌+◌, ◌*◌, ◌≤◌, List, [], ◌∷◌, ◌++◌, length, arith, ap, ◌∙◌, length-append}
use Rattle.std.specs.List.{All, flat_map}
use Rattle.sd_base.specs.declared.limits.TheConstants.{MAX_CHUNK_LEN}
use Rattle.sd_base.specs.declared.record.NewChunk.{NewChunk}
use Rattle.std.proofs.lemmas.List.Concat.{flat_map-cons}
use Rattle.sd_base.specs.Records.{u32_bytes, new_chunk, ingest_body, IsNewChunk, IsRecord, IsWithinLimits}
use Rattle.sd_base.specs.declared.record.Record.{Record}
use Rattle.sd_base.specs.declared.record.Record.TheVariants.{Ingest, Drop}
use Rattle.sd_base.specs.declared.record.IngestRecord.{IngestRecord}

pub length_entries : (entries : List ℕ) → length (flat_map u32_bytes entries) ≡ 4 * length entries
length_entries [] = omega arith
length_entries (n ∷ entries) =
    ap length (flat_map-cons u32_bytes n entries) ∙ omega (arith, length_entries entries)

pub length_ingest_body : (entry : IngestRecord) → length (ingest_body entry) ≡ 13 + length entry.name + length (flat_map new_chunk entry.fresh) + length (flat_map u32_bytes entry.recipe)
unfolding ingest_body
length_ingest_body entry =
    omega (
      arith,
      length-append entry.name (u32_bytes entry.length ++ (u32_bytes (length entry.fresh) ++ (flat_map new_chunk entry.fresh ++ (u32_bytes (length entry.recipe) ++ flat_map u32_bytes entry.recipe)))),
      length-append (flat_map new_chunk entry.fresh) (u32_bytes (length entry.recipe) ++ flat_map u32_bytes entry.recipe),
    )

-- lengths in their range and names of 32 bytes make new chunks
pub All-IsNewChunk : (chunks : List NewChunk) → All (λ chunk. (1 ≤ chunk.length) × (chunk.length ≤ MAX_CHUNK_LEN)) chunks → All (λ chunk. length chunk.name ≡ 32) chunks → All IsNewChunk chunks
All-IsNewChunk chunks sizes names = λ k d lt. record { size = sizes k d lt; name = names k d lt }

-- what the grammar has, has a spelling
pub IsWithinLimits-from_IsRecord : (entry : Record) → IsRecord entry → IsWithinLimits entry
IsWithinLimits-from_IsRecord (Ingest entry) lawful = record { chunks = lawful.chunk_limit; lengths = λ k d lt. (lawful.chunks k d lt).size; places = lawful.place_limit }
IsWithinLimits-from_IsRecord (Drop session) lawful = tt
