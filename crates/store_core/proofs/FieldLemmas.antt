-- What a store keeps of its chunks in memory.
use Rattle.std.proofs.Common.{◌≡◌, ℕ, zero, suc, ◌<◌, ◌≤◌, take, length-append, List, [], ◌∷◌, ◌++◌, length, refl, ap, sym, subst, ◌∙◌, arith, true}
use Rattle.std.proofs.lemmas.List.{length-map, map-append, take-append-le}
use Rattle.std.proofs.lemmas.List.Elements.{All-append, All-map}
use Rattle.std.specs.List.{All, fold}
use Rattle.container_pack.specs.Packer.{generation_of, IsBehind}
use Rattle.container_pack.specs.Spots.{filled_by, spots_of, spots_on, nothing_filled}
use Rattle.container_pack.specs.declared.fill.Fill.{Fill}
use Rattle.container_pack.specs.declared.packer.Packer.{Packer}
use Rattle.container_pack.specs.declared.spot.Spot.{Spot}
use Rattle.std.specs.Prelude.{◌≢◌}
use Rattle.sd_base.specs.declared.file.File.{File}
use Rattle.sd_base.specs.declared.file.File.TheVariants.{Container}
use Rattle.sd_base.specs.Books.{AreRecords, BookState, IsReplay, chunks_in, followed_by, without}
use Rattle.sd_base.specs.Opening.{chunk_lengths}
use Rattle.sd_base.specs.Records.{IsNewChunk}
use Rattle.sd_base.specs.declared.limits.TheConstants.{MAX_CHUNK_LEN, MAX_CHUNKS}
use Rattle.sd_base.specs.declared.record.NewChunk.{NewChunk}
use Rattle.sd_base.specs.declared.record.Record.{Record}
use Rattle.sd_base.specs.declared.record.Record.TheVariants.{Ingest, Drop}
use Rattle.sd_base.specs.declared.record.Session.{Session}
use Rattle.session_book.proofs.Adding.{drop_leaves, push_adds}
use Rattle.store_core.specs.NameIndex.{Covers}
use Rattle.store_core.specs.StoreFields.{ArePlaced, lengths_of, names_of}
use Rattle.store_core.specs.declared.name_index.NameIndex.{NameIndex}

-- ---- spots

on-count : (fill : Fill) (lengths : List ℕ) → length (spots_on fill lengths) ≡ length lengths
on-count fill [] = refl
on-count fill (n ∷ ns) = ap suc (on-count (filled_by fill n) ns)

-- there is a spot for each chunk
pub places-count : (chunks : List NewChunk) (number : ℕ) (lie : List Spot) (packer : Packer) (index : NameIndex) →
    ArePlaced chunks number lie packer index → length lie ≡ length chunks
places-count chunks number lie packer index placed =
    ap length placed.spots ∙ on-count nothing_filled (lengths_of chunks) ∙ length-map chunks (λ chunk. chunk.length)

-- ---- the chunks of a book that was replayed

-- its chunks are those of the grammar
after-records : (max : ℕ) (sessions : List Session) (records : List Record) → All IsNewChunk (chunks_in sessions) →
    AreRecords max sessions records → All IsNewChunk (chunks_in (fold followed_by sessions records))
after-records max sessions [] good lawful = good
after-records max sessions (Ingest entry ∷ records) good lawful =
    after-records max (followed_by sessions (Ingest entry)) records
    (subst (λ (chunks : List NewChunk). All IsNewChunk chunks) (sym (push_adds sessions (record { entry = entry; live = true })).chunks)
    (All-append IsNewChunk (chunks_in sessions) entry.fresh good lawful.0.chunks)) lawful.1.1
after-records max sessions (Drop k ∷ records) good lawful =
    after-records max (without k sessions) records
    (subst (λ (chunks : List NewChunk). All IsNewChunk chunks) (sym (drop_leaves sessions k lawful.1.0).chunks) good) lawful.1.1

module _ (max : ℕ) (bytes : List ℕ) (n : ℕ) (book : BookState) (replay : IsReplay max bytes n book) where
  good : All IsNewChunk (chunks_in book.sessions)
  good =
      subst (λ (b : BookState). All IsNewChunk (chunks_in b.sessions)) (sym replay.equals)
      (after-records max [] replay.records (λ k d lt. absurd (omega (arith, lt))) replay.holds.lawful)

  -- none is empty
  pub replayed-some : All (λ k. 1 ≤ k) (chunk_lengths book)
  replayed-some = All-map (λ k. 1 ≤ k) (λ (chunk : NewChunk). chunk.length) (chunks_in book.sessions) (λ k d lt. (good k d lt).size.0)

  -- none is too long
  pub replayed-bounded : All (λ k. k ≤ MAX_CHUNK_LEN) (chunk_lengths book)
  replayed-bounded =
      All-map (λ k. k ≤ MAX_CHUNK_LEN) (λ (chunk : NewChunk). chunk.length) (chunks_in book.sessions) (λ k d lt. (good k d lt).size.1)

  pub replayed-max : book.max ≡ max
  replayed-max = ap (λ (b : BookState). b.max) replay.equals

-- ---- one chunk more

-- a list of one
only : {n : ℕ} → n ≤ MAX_CHUNK_LEN → All (λ k. k ≤ MAX_CHUNK_LEN) (n ∷ [])
only short zero d lt = short
only short (suc k) d lt = absurd (omega (arith, lt))

longer-lengths : (chunks : List NewChunk) (more : NewChunk) → lengths_of (chunks ++ more ∷ []) ≡ lengths_of chunks ++ more.length ∷ []
longer-lengths chunks more = map-append (λ (chunk : NewChunk). chunk.length) chunks (more ∷ [])

longer-names : (chunks : List NewChunk) (more : NewChunk) → names_of (chunks ++ more ∷ []) ≡ names_of chunks ++ more.name ∷ []
longer-names chunks more = map-append (λ (chunk : NewChunk). chunk.name) chunks (more ∷ [])

module _ (chunks : List NewChunk) (more : NewChunk) (number : ℕ) (lie : List Spot) (spot : Spot) (packer next : Packer)
    (index : NameIndex) (placed : ArePlaced chunks number lie packer index) where
  same-index : Covers index (take index.chunks (names_of (chunks ++ more ∷ [])))
  same-index =
      subst (λ (names : List (List ℕ)). Covers index names)
      (sym (take-append-le index.chunks (names_of chunks) (more.name ∷ [])
      (omega (arith, placed.indexed, length-map chunks (λ (chunk : NewChunk). chunk.name))))
      ∙ ap (λ (names : List (List ℕ)). take index.chunks names) (sym (longer-names chunks more)))
      placed.covers

  pub placed-one_more : length chunks < MAX_CHUNKS → more.length ≤ MAX_CHUNK_LEN → generation_of next ≡ generation_of packer →
      spots_of (lengths_of chunks ++ more.length ∷ []) ≡ spots_of (lengths_of chunks) ++ spot ∷ [] →
      IsBehind next (lengths_of chunks ++ more.length ∷ []) → ArePlaced (chunks ++ more ∷ []) number (lie ++ spot ∷ []) next index
  placed-one_more few short of spots behind = record {
    limit = omega (arith, few, length-append chunks (more ∷ []));
    bounded = subst (λ (ns : List ℕ). All (λ n. n ≤ MAX_CHUNK_LEN) ns) (sym (longer-lengths chunks more))
        (All-append (λ n. n ≤ MAX_CHUNK_LEN) (lengths_of chunks) (more.length ∷ []) placed.bounded (only short));
    spots = ap (λ (l : List Spot). l ++ spot ∷ []) placed.spots ∙ sym spots ∙ ap spots_of (sym (longer-lengths chunks more));
    generation = of ∙ placed.generation;
    behind = subst (λ (ns : List ℕ). IsBehind next ns) (sym (longer-lengths chunks more)) behind;
    indexed = omega (arith, placed.indexed, length-append chunks (more ∷ []));
    covers = same-index;
  }

-- a file that is no container of a generation is none of a generation that equals it
pub no-container : (n m k : ℕ) (f : File) → n ≡ m → ((j : ℕ) → f ≢ Container m j) → f ≢ Container n k
no-container n m k f is apart = λ same. apart k (same ∙ ap (λ g. Container g k) is)
