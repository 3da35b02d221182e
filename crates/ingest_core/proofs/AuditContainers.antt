-- The chunks that the containers of a store have lie at their spots, so an audit reads them, and what
-- it finds of their names is what the definition of a flaw asks.
use Rattle.std.proofs.Common.{◌≡◌, ℕ, zero, suc, ◌<◌, List, [], ◌∷◌, take, drop, length, map, slice_index_or, refl, ap, sym, subst, ◌∙◌, arith}
use Rattle.std.specs.Prelude.{Some}
use Rattle.std.proofs.lemmas.List.{get_or-map, length-map}
use Rattle.container_pack.proofs.ShelfLemmas.{IsStored-read}
use Rattle.container_pack.specs.Spots.{LieAt, LiesAt, filled_by, nothing_filled, spots_of, spots_on}
use Rattle.container_pack.specs.declared.fill.Fill.{Fill}
use Rattle.container_pack.specs.declared.spot.Spot.{Spot}
use Rattle.ingest_core.proofs.AuditChunks.{count-of, size-of}
use Rattle.ingest_core.specs.AuditChunks.{AreKeptNames, AreStored, IsMisnamed, kept_at, lengths_kept, spot_at}
use Rattle.sd_base.specs.Books.{chunks_in}
use Rattle.sd_base.specs.Flaws.{AreNamed, HaveChunks, IsChunkFlaw}
use Rattle.sd_base.specs.Opening.{Opened}
use Rattle.sd_base.specs.Packing.{packing}
use Rattle.sd_base.specs.declared.damage.Damage.{Damage}
use Rattle.sd_base.specs.declared.damage.Damage.TheVariants.{Chunk}
use Rattle.sd_base.specs.declared.file.File.{File}
use Rattle.sd_base.specs.declared.file.File.TheVariants.{Container}
use Rattle.sd_base.specs.declared.record.NewChunk.{NewChunk}

-- each chunk lies at its spot
lies-at : (containers : List (List ℕ)) (spots : List Spot) (chunks : List (List ℕ)) (i : ℕ) (none : Spot) →
    LieAt containers spots chunks → i < length chunks → LiesAt containers (slice_index_or spots i none) (slice_index_or chunks i [])
lies-at containers spots [] i none lie within = absurd omega (arith, within)
lies-at containers [] (chunk ∷ chunks) i none lie within = absurd lie
lies-at containers (spot ∷ spots) (chunk ∷ chunks) zero none lie within = lie.0
lies-at containers (spot ∷ spots) (chunk ∷ chunks) (suc i) none lie within =
    lies-at containers spots chunks i none lie.1 (omega (arith, within))

-- there is a spot for each chunk
spots-on : (fill : Fill) (lengths : List ℕ) → length (spots_on fill lengths) ≡ length lengths
spots-on fill [] = refl
spots-on fill (n ∷ lengths) = let later = spots-on (filled_by fill n) lengths in omega (arith, later)

pub spots-count : (kept : List NewChunk) (spots : List Spot) → spots ≡ spots_of (lengths_kept kept) → length spots ≡ length kept
spots-count kept spots are =
    ap length are ∙ spots-on nothing_filled (lengths_kept kept) ∙ length-map kept (λ (chunk : NewChunk). chunk.length)

module _ (opened : Opened) (chunks : List (List ℕ)) where
  abbrev book_chunks : List NewChunk
  book_chunks = chunks_in opened.book.sessions

  -- the chunks are read at their spots
  chunks-stored : (files : File → List ℕ) (spots : List Spot) → HaveChunks files opened chunks → LieAt (packing chunks) spots chunks →
      AreStored files opened.head.generation spots book_chunks chunks
  chunks-stored files spots have lie = record {
    lengths = have.lengths;
    bytes = λ i within.
        let generation = opened.head.generation in
        let spot : Spot = spot_at spots i in
        let n : ℕ = (kept_at book_chunks i).length in
        let chunk : List ℕ = slice_index_or chunks i [] in
        let count = count-of chunks book_chunks have.lengths in
        IsStored-read (Some files) generation spot n chunk (take n (drop spot.offset (files (Container generation spot.container))))
        (record {
          containers = packing chunks;
          begin = have.containers;
          lies = lies-at (packing chunks) spots chunks i (record { container = 0; offset = 0 }) lie (omega (arith, within, count));
          size = size-of chunks book_chunks i have.lengths within;
        }) refl;
  }

  module _ (name_of : List ℕ → List ℕ) where
    -- a name of the chunks
    name-is : (i : ℕ) → i < length chunks → slice_index_or (map name_of chunks) i [] ≡ name_of (slice_index_or chunks i [])
    name-is i within = get_or-map name_of chunks i [] [] within

    pub named-here : (files : File → List ℕ) → HaveChunks files opened chunks → AreKeptNames book_chunks (map name_of chunks) →
        AreNamed name_of opened.book chunks
    named-here files have are i within =
        let count = count-of chunks book_chunks have.lengths in
        sym (name-is i within) ∙ are i (omega (arith, within, count))

    pub flaw-here : (files : File → List ℕ) (damage : Damage) → HaveChunks files opened chunks →
        IsMisnamed book_chunks (map name_of chunks) 0 damage → IsChunkFlaw name_of opened chunks damage
    flaw-here files damage have found =
        let count = count-of chunks book_chunks have.lengths in
        let place = found.place in
        let below = found.first.within in
        let within : place < length chunks = omega (arith, below, count) in
        record {
          number = place;
          first = record {
            within = within;
            before = λ k early. sym (name-is k (omega (arith, early, within))) ∙ found.first.before k early;
            fails = λ is. found.first.fails (name-is place within ∙ is);
          };
          equals = found.equals
              ∙ ap (λ n. Chunk n (kept_at book_chunks place).name (slice_index_or (map name_of chunks) place [])) (omega arith)
              ∙ ap (λ (name : List ℕ). Chunk place (kept_at book_chunks place).name name) (name-is place within);
        }

    module _ (generation : ℕ) (of : opened.head.generation ≡ generation) (spots : List Spot) (kept : List NewChunk)
        (same : chunks_in opened.book.sessions ≡ kept) (lie : map length chunks ≡ lengths_kept kept → LieAt (packing chunks) spots chunks) where
      pub stored-here : (files : File → List ℕ) → HaveChunks files opened chunks → AreStored files generation spots kept chunks
      stored-here files have =
          subst (λ (g : ℕ). AreStored files g spots kept chunks) of
          (subst (λ (ks : List NewChunk). AreStored files opened.head.generation spots ks chunks) same
          (chunks-stored files spots have (lie (have.lengths ∙ ap lengths_kept same))))
