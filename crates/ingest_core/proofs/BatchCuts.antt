-- What is kept of the cuts of chunks, a batch after the other.
use Rattle.std.proofs.Common.{◌≡◌, inl, inr, ℕ, zero, suc, ◌+◌, ◌-◌, ◌<◌, ◌≤◌, false, List, [], ◌∷◌, ◌++◌, length, slice_index_or, refl, ap, sym, subst, ◌∙◌, arith, IfSome}
use Rattle.std.specs.Prelude.{Option, None, Some}
use Rattle.std.specs.List.{concat, slice_range}
use Rattle.std.proofs.lemmas.List.{get_or_append_left, get_or-append-add}
use Rattle.std.proofs.lemmas.Bool.{cases_lt}
use Rattle.chunk_names.specs.Shares.{chunk_at}
use Rattle.container_pack.specs.declared.spot.Spot.{Spot}
use Rattle.ingest_core.proofs.AuditBatches.{range-at, range-count, range-stored}
use Rattle.ingest_core.proofs.AuditChunks.{count-of, text-cut}
use Rattle.ingest_core.proofs.Refusals.{count-between}
use Rattle.ingest_core.specs.AuditChunks.{AreStored, ends_from}
use Rattle.ingest_core.specs.AuditCuts.{AreCutsOf, AreCutsOfAll, cuts_at}
use Rattle.ingest_core.specs.declared.auditing.chunk_cuts.ChunkCuts.{ChunkCuts}
use Rattle.sd_base.specs.Cutting.{chunks_between}
use Rattle.sd_base.specs.Firsts.{HoldsBelow}
use Rattle.sd_base.specs.declared.file.File.{File}
use Rattle.sd_base.specs.declared.raw_params.RawParams.{RawParams}
use Rattle.sd_base.specs.declared.record.NewChunk.{NewChunk}

no_cuts : ChunkCuts
no_cuts = record { is_uncut = false; may_be_followed = false }

-- a chunk of a text by its number
pub chunk-between : (text : List ℕ) (s : ℕ) (ends : List ℕ) (i : ℕ) → i < length ends →
    slice_index_or (chunks_between text s ends) i [] ≡ chunk_at text s ends i
chunk-between text s [] i within = absurd (omega (arith, within))
chunk-between text s (cut ∷ ends) zero within = refl
chunk-between text s (cut ∷ ends) (suc i) within = chunk-between text cut ends i (omega (arith, within))

-- what is kept of each chunk of a text
pub all-cuts : (params : RawParams) (text ends : List ℕ) (cuts : List ChunkCuts) → length cuts ≡ length ends →
    ((n : ℕ) → n < length ends → AreCutsOf params (chunk_at text 0 ends n) (cuts_at cuts n)) →
    AreCutsOfAll params (chunks_between text 0 ends) cuts
all-cuts params text ends cuts count each =
    let between = count-between text 0 ends in
    record {
      one_each = count ∙ sym between;
      each = λ n within.
          let inside : n < length ends = omega (arith, within, between) in
          subst (λ (chunk : List ℕ). AreCutsOf params chunk (cuts_at cuts n)) (sym (chunk-between text 0 ends n inside))
          (each n inside);
    }

-- what is kept of the first chunks
abbrev pub AreCutTo : RawParams → List (List ℕ) → List ChunkCuts → ℕ → Type 0
AreCutTo params stored cuts n = HoldsBelow n (λ k. AreCutsOf params (slice_index_or stored k []) (cuts_at cuts k))

-- what is kept of one batch more
cuts-next : (params : RawParams) (stored : List (List ℕ)) (a b : ℕ) (cuts found : List ChunkCuts) → length cuts ≡ a →
    length (slice_range stored a b) ≡ b - a → AreCutTo params stored cuts a → AreCutsOfAll params (slice_range stored a b) found →
    AreCutTo params stored (cuts ++ found) b
unfolding no_cuts
cuts-next params stored a b cuts found count size before here k below = elim (cases_lt k a) [
  | inl first ↦
      subst (λ (c : ChunkCuts). AreCutsOf params (slice_index_or stored k []) c)
      (sym (get_or_append_left cuts found no_cuts k (omega (arith, first, count)))) (before k first)
  | inr past ↦
      let i = k - a in
      let inside : i < b - a = omega (arith, past, below) in
      let at : a + i ≡ k = omega (arith, past) in
      let one : slice_index_or (slice_range stored a b) i [] ≡ slice_index_or stored k [] =
      range-at stored a b i [] inside ∙ ap (λ n. slice_index_or stored n []) at in
      let there : length cuts + i ≡ k = omega (arith, at, count) in
      let other : cuts_at (cuts ++ found) k ≡ cuts_at found i =
      ap (λ n. cuts_at (cuts ++ found) n) (sym there) ∙ get_or-append-add cuts found i no_cuts in
      subst (λ (c : ChunkCuts). AreCutsOf params (slice_index_or stored k []) c) (sym other)
      (subst (λ (chunk : List ℕ). AreCutsOf params chunk (cuts_at found i)) one
      (here.each i (omega (arith, inside, size))))
]

module _ (params : RawParams) (generation : ℕ) (spots : List Spot) (kept : List NewChunk) (stored : List (List ℕ)) where
  -- the same of chunks that files have
  abbrev pub AreReadTo : Option (File → List ℕ) → List ChunkCuts → ℕ → Type 0
  AreReadTo told cuts n = IfSome told (λ files. AreStored files generation spots kept stored → AreCutTo params stored cuts n)

  pub read-next : (told : Option (File → List ℕ)) (a b : ℕ) (cuts found : List ChunkCuts) → b ≤ length kept → length cuts ≡ a →
      AreReadTo told cuts a →
      IfSome told (λ files. AreStored files generation (slice_range spots a b) (slice_range kept a b) (slice_range stored a b)
      → AreCutsOfAll params (slice_range stored a b) found) → AreReadTo told (cuts ++ found) b
  read-next None a b cuts found within count before here = tt
  read-next (Some files) a b cuts found within count before here = λ are.
      let all = count-of stored kept are.lengths in
      let size = range-count stored a b (omega (arith, all, within)) in
      cuts-next params stored a b cuts found count size (before are) (here (range-stored files generation spots kept stored a b within are))

  pub read-all : (told : Option (File → List ℕ)) (n : ℕ) (cuts : List ChunkCuts) → length kept ≤ n → length cuts ≡ length kept →
      AreReadTo told cuts n → IfSome told (λ files. AreStored files generation spots kept stored → AreCutsOfAll params stored cuts)
  read-all None n cuts past count before = tt
  read-all (Some files) n cuts past count before = λ are.
      let all = count-of stored kept are.lengths in
      record { one_each = count ∙ sym all; each = λ k below. before are k (omega (arith, all, below, past)) }

  -- a batch that is read in one text
  pub cuts-read : (told : Option (File → List ℕ)) (text ends : List ℕ) (cuts : List ChunkCuts) → ends ≡ ends_from 0 kept →
      IfSome told (λ files. AreStored files generation spots kept stored → text ≡ concat stored) →
      AreCutsOfAll params (chunks_between text 0 ends) cuts →
      IfSome told (λ files. AreStored files generation spots kept stored → AreCutsOfAll params stored cuts)
  cuts-read None text ends cuts cut read all = tt
  cuts-read (Some files) text ends cuts cut read all = λ are.
      let same : chunks_between text 0 ends ≡ stored =
      ap (λ (es : List ℕ). chunks_between text 0 es) cut
      ∙ ap (λ (t : List ℕ). chunks_between t 0 (ends_from 0 kept)) (read are)
      ∙ text-cut kept stored [] are.lengths in
      subst (λ (chunks : List (List ℕ)). AreCutsOfAll params chunks cuts) same all
