-- The looks at the chunks and the sessions of a store, put together: what each found, as the
-- definition of a flaw asks.
use Rattle.std.proofs.Common.{◌≡◌, ◌⊎◌, inl, inr, ℕ, ◌≤◌, List, length, map, slice_index_or, ap, sym, subst, arith, IfSome}
use Rattle.std.specs.Prelude.{None, Option, Some}
use Rattle.std.specs.List.{All}
use Rattle.std.proofs.lemmas.List.{get_or-map, length-map}
use Rattle.container_pack.specs.Spots.{LieAt}
use Rattle.container_pack.specs.declared.spot.Spot.{Spot}
use Rattle.ingest_core.proofs.AuditContainers.{flaw-here, named-here, stored-here}
use Rattle.ingest_core.specs.AuditChunks.{AreKeptNames, AreStored, IsMisnamed, lengths_kept}
use Rattle.ingest_core.specs.AuditCuts.{AreCutsOfAll, IsFirstNotCut}
use Rattle.ingest_core.specs.AuditOrder.{IsFirstOutOfOrder}
use Rattle.ingest_core.specs.AuditTwins.{IsFirstTwin}
use Rattle.ingest_core.specs.declared.auditing.chunk_cuts.ChunkCuts.{ChunkCuts}
use Rattle.sd_base.proofs.MarkedContainers.{have-chunks}
use Rattle.sd_base.specs.Books.{BookState, chunks_in}
use Rattle.sd_base.specs.CuttingLaws.{AreFilled}
use Rattle.sd_base.specs.Firsts.{HoldsBelow}
use Rattle.sd_base.specs.Flaws.{AreCut, AreFlawless, AreInOrder, AreNamed, AreNew, HasMark, HaveChunks, IsFlawAmong, IsFlawOf}
use Rattle.sd_base.specs.Opening.{OpenAs, Opened, chunk_lengths, needed_sizes}
use Rattle.sd_base.specs.Packing.{packing}
use Rattle.sd_base.specs.Parameters.{IsValid}
use Rattle.sd_base.specs.declared.damage.Damage.{Damage}
use Rattle.sd_base.specs.declared.file.File.{File}
use Rattle.sd_base.specs.declared.raw_params.RawParams.{RawParams}
use Rattle.sd_base.specs.declared.record.NewChunk.{NewChunk}

-- chunks of lengths that are not 0 are not empty
pub filled-of : (chunks : List (List ℕ)) (ns : List ℕ) → map length chunks ≡ ns → All (λ n. 1 ≤ n) ns → AreFilled chunks
filled-of chunks ns same some k d within =
    let count = length-map chunks length in
    let sizes = ap length same in
    subst (λ n. 1 ≤ n) (get_or-map length chunks k d 0 within)
    (subst (λ (ms : List ℕ). 1 ≤ slice_index_or ms k 0) (sym same) (some k 0 (omega (arith, within, count, sizes))))

-- how the walk over the sessions of a book ends at a damage
abbrev pub IsOfSessions : BookState → RawParams → List (List ℕ) → List ChunkCuts → Damage → Type 0
IsOfSessions book params chunks cuts damage =
    IsValid params → AreFilled chunks → AreCutsOfAll params chunks cuts
    → IsFirstOutOfOrder book damage ⊎ (AreInOrder book × IsFirstNotCut params book chunks damage)

-- and without one
abbrev pub AreCutBy : BookState → RawParams → List (List ℕ) → List ChunkCuts → Type 0
AreCutBy book params chunks cuts =
    IsValid params → AreFilled chunks → AreCutsOfAll params chunks cuts → AreCut params book chunks

module _ (name_of : List ℕ → List ℕ) (opened : Opened) (chunks : List (List ℕ)) (generation : ℕ)
    (of : opened.head.generation ≡ generation) (spots : List Spot) (kept : List NewChunk)
    (same : chunks_in opened.book.sessions ≡ kept) (lie : map length chunks ≡ lengths_kept kept → LieAt (packing chunks) spots chunks) where
  abbrev Stored : (File → List ℕ) → Type 0
  Stored files = AreStored files generation spots kept chunks

  abbrev Named : Type 0
  Named = AreKeptNames kept (map name_of chunks)

  stored : (files : File → List ℕ) → HaveChunks files opened chunks → Stored files
  stored = stored-here opened chunks name_of generation of spots kept same lie

  names : (files : File → List ℕ) → HaveChunks files opened chunks → Named → AreNamed name_of opened.book chunks
  names files have are =
      named-here opened chunks name_of files have
      (subst (λ (ks : List NewChunk). AreKeptNames ks (map name_of chunks)) (sym same) are)

  pub misnamed-flaw : (told : Option (File → List ℕ)) (damage : Damage) →
      IfSome told (λ files. Stored files → IsMisnamed kept (map name_of chunks) 0 damage) →
      IfSome told (λ files. HaveChunks files opened chunks → IsFlawAmong name_of opened chunks damage)
  misnamed-flaw None damage holds = tt
  misnamed-flaw (Some files) damage holds = λ have.
      inl (flaw-here opened chunks name_of files damage have
      (subst (λ (ks : List NewChunk). IsMisnamed ks (map name_of chunks) 0 damage) (sym same) (holds (stored files have))))

  pub twin-flaw : (told : Option (File → List ℕ)) (damage : Damage) →
      IfSome told (λ files. Stored files → Named) → IfSome told (λ files. Stored files → Named → IsFirstTwin chunks damage) →
      IfSome told (λ files. HaveChunks files opened chunks → IsFlawAmong name_of opened chunks damage)
  twin-flaw None damage named holds = tt
  twin-flaw (Some files) damage named holds = λ have.
      let at = stored files have in
      let are = named at in
      let twin = holds at are in
      inr (inl (record { named = names files have are; number = twin.place; first = twin.first; equals = twin.equals }))

  module _ (some : All (λ n. 1 ≤ n) (chunk_lengths opened.book)) (params : RawParams) (is : params ≡ opened.head.params)
      (valid : IsValid params) (book : BookState) (at : book ≡ opened.book) (cuts : List ChunkCuts) where
    pub no-flaw : (told : Option (File → List ℕ)) → IfSome told (λ files. Stored files → Named) →
        IfSome told (λ files. Stored files → Named → AreNew chunks) →
        IfSome told (λ files. Stored files → AreCutsOfAll params chunks cuts) →
        AreInOrder book → AreCutBy book params chunks cuts →
        IfSome told (λ files. HaveChunks files opened chunks → AreFlawless name_of opened chunks)
    no-flaw None named different cut order walk = tt
    no-flaw (Some files) named different cut order walk = λ have.
        let here = stored files have in
        let are = named here in
        let all : AreCut params book chunks = walk valid (filled-of chunks (chunk_lengths opened.book) have.lengths some) (cut here) in
        record {
          named = names files have are;
          different = different here are;
          in_order = subst AreInOrder at order;
          cut = subst (λ (p : RawParams). AreCut p opened.book chunks) is (subst (λ (b : BookState). AreCut params b chunks) at all);
        }

    pub session-flaw : (told : Option (File → List ℕ)) (damage : Damage) → IfSome told (λ files. Stored files → Named) →
        IfSome told (λ files. Stored files → Named → AreNew chunks) →
        IfSome told (λ files. Stored files → AreCutsOfAll params chunks cuts) →
        IsOfSessions book params chunks cuts damage →
        IfSome told (λ files. HaveChunks files opened chunks → IsFlawAmong name_of opened chunks damage)
    session-flaw None damage named different cut walk = tt
    session-flaw (Some files) damage named different cut walk = λ have.
        let here = stored files have in
        let are = named here in
        elim (walk valid (filled-of chunks (chunk_lengths opened.book) have.lengths some) (cut here)) [
          | inl order ↦
              let found = subst (λ (b : BookState). IsFirstOutOfOrder b damage) at order in
              inr (inr (inl (record {
                named = names files have are;
                different = different here are;
                session = found.session;
                place = found.place;
                first = found.first;
                equals = found.equals;
              })))
          | inr both ↦
              let found = subst (λ (p : RawParams). IsFirstNotCut p opened.book chunks damage) is
              (subst (λ (b : BookState). IsFirstNotCut params b chunks damage) at both.1) in
              inr (inr (inr (record {
                named = names files have are;
                different = different here are;
                in_order = subst AreInOrder at both.0;
                session = found.session;
                place = found.place;
                first = found.first;
                equals = found.equals;
              })))
        ]

-- a store that was opened: its containers have their marks, so they have chunks
module _ (name_of : List ℕ → List ℕ) (opened : Opened) where
  abbrev pub AreMarked : (File → List ℕ) → Type 0
  AreMarked files = OpenAs files opened → HoldsBelow (length (needed_sizes opened.book)) (HasMark files opened)

  pub store-flaw : (told : Option (File → List ℕ)) (damage : Damage) → IfSome told AreMarked →
      ((chunks : List (List ℕ)) → IfSome told (λ files. HaveChunks files opened chunks → IsFlawAmong name_of opened chunks damage)) →
      IfSome told (λ files. OpenAs files opened → IsFlawOf name_of files opened (Some damage))
  store-flaw None damage marked found = tt
  store-flaw (Some files) damage marked found = λ opens.
      let have = have-chunks files opened opens (marked opens) in
      inr (have.0, have.1, found have.0 have.1)

  pub store-flawless : (told : Option (File → List ℕ)) → IfSome told AreMarked →
      ((chunks : List (List ℕ)) → IfSome told (λ files. HaveChunks files opened chunks → AreFlawless name_of opened chunks)) →
      IfSome told (λ files. OpenAs files opened → IsFlawOf name_of files opened None)
  store-flawless None marked found = tt
  store-flawless (Some files) marked found = λ opens.
      let have = have-chunks files opened opens (marked opens) in
      (have.0, have.1, found have.0 have.1)
