-- The record of a session that is committed: it may follow the records of the book, and what the
-- store keeps of its chunks stays.
use Rattle.std.proofs.Common.{◌≡◌, ℕ, ◌+◌, ◌≤◌, List, [], ◌++◌, ap, append-nil, arith, drop, length, length-append, refl, subst, sym, true, ◌∙◌, inl, inr, ◌∷◌}
use Rattle.std.proofs.lemmas.List.{get_or-append-add, get_or-map, length-map, take-append-drop, get_or_append_left}
use Rattle.std.proofs.Math.Nat.{eq-or-lt_of_le}
use Rattle.std.proofs.Math.Seq.{get_or-append_seam}
use Rattle.std.specs.List.{All}
use Rattle.std.specs.Prelude.{◌↔◌, ◌⊎◌, Bool, None, Option, Some, slice_index_or}
use Rattle.container_pack.specs.Containers.{KeepsFront}
use Rattle.container_pack.specs.Packer.{IsBehind, IsUnflushed, generation_of}
use Rattle.container_pack.specs.declared.packer.Packer.{Packer}
use Rattle.container_pack.specs.declared.spot.Spot.{Spot}
use Rattle.sd_base.specs.Books.{MayIngest, chunks_in, followed_by}
use Rattle.sd_base.specs.Records.{IsIngestWithinLimits}
use Rattle.sd_base.specs.declared.file.File.{File}
use Rattle.sd_base.specs.declared.file.File.TheVariants.{Book}
use Rattle.sd_base.specs.declared.limits.TheConstants.{MAX_CHUNK_LEN}
use Rattle.sd_base.specs.declared.record.IngestRecord.{IngestRecord}
use Rattle.sd_base.specs.declared.record.NewChunk.{NewChunk}
use Rattle.sd_base.specs.declared.record.Record.TheVariants.{Ingest}
use Rattle.sd_base.specs.declared.record.Session.{Session}
use Rattle.session_book.proofs.Adding.{push_adds}
use Rattle.store_core.specs.Commits.{AreFlushed, CommitsNothing, HasOffered, early_refusal, session_record}
use Rattle.store_core.specs.StoreFields.{ArePlaced, AreUnflushed, lengths_of}
use Rattle.store_core.specs.StoreStates.{StoreState, chunks_of_store}
use Rattle.store_core.specs.declared.name_index.NameIndex.{NameIndex}
use Rattle.store_core.proofs.CommitLemmas.{room-in}
use Rattle.store_core.proofs.FieldLemmas.{places-count}

-- what holds of all holds of the last of them
All-later : {X : Type 0} (P : X → Type 0) (xs ys : List X) → All P (xs ++ ys) → All P ys
All-later P xs ys all = λ k d lt.
    subst P (get_or-append-add xs ys k d) (all (length xs + k) d (omega (arith, lt, length-append xs ys)))

-- what holds of the lengths holds of each length
All-lengths : (P : ℕ → Type 0) (chunks : List NewChunk) → All P (lengths_of chunks) →
    All (λ (chunk : NewChunk). P chunk.length) chunks
All-lengths P chunks all = λ k d lt.
    subst P (get_or-map (λ (chunk : NewChunk). chunk.length) chunks k d d.length lt)
    (all k d.length (omega (arith, lt, length-map chunks (λ (chunk : NewChunk). chunk.length))))

-- if no refusal comes before the writes
module _ (store : StoreState) (number : ℕ) (lie : List Spot) (packer : Packer) (index : NameIndex)
    (placed : ArePlaced (chunks_of_store store) number lie packer index) (name : List ℕ) (size : ℕ)
    (recipe : List ℕ) (none : early_refusal store.opened.book name (length recipe) ≡ None) where
  -- the record is within the limits
  pub session-within : IsIngestWithinLimits (session_record store name size recipe)
  session-within =
      let known = chunks_in store.opened.book.sessions in
      let room = room-in store.opened.book name (length recipe) none in
      let some = All-later (λ (chunk : NewChunk). 1 ≤ chunk.length) known store.offered
      (All-lengths (λ n. 1 ≤ n) (chunks_of_store store) placed.behind.none_empty) in
      let bounded = All-later (λ (chunk : NewChunk). chunk.length ≤ MAX_CHUNK_LEN) known store.offered
      (All-lengths (λ n. n ≤ MAX_CHUNK_LEN) (chunks_of_store store) placed.bounded) in
      record {
        chunks = omega (arith, placed.limit, length-append known store.offered);
        lengths = λ k d lt. (some k d lt, bounded k d lt);
        places = omega (arith, room.few_places);
      }

  -- it may follow those of the book
  pub session-follows : (max : ℕ) → All (λ (chunk : NewChunk). chunk.length ≤ max) store.offered →
      MayIngest max store.opened.book.sessions (session_record store name size recipe)
  session-follows max short =
      let room = room-in store.opened.book name (length recipe) none in
      record {
        short_chunks = short;
        free_name = room.free;
        session_limit = room.few_sessions;
        place_limit = room.few_places;
        chunk_limit = omega (arith, placed.limit, length-append (chunks_in store.opened.book.sessions) store.offered);
      }

-- the chunks lie as before when those offered have become chunks of the book
pub placed-committed : (sessions after : List Session) (entry : IngestRecord) (offered left : List NewChunk) (number : ℕ)
    (lie : List Spot) (packer next : Packer) (index : NameIndex) →
    ArePlaced (chunks_in sessions ++ offered) number lie packer index →
    after ≡ followed_by sessions (Ingest entry) → entry.fresh ≡ offered → left ≡ [] →
    generation_of next ≡ generation_of packer →
    ((lengths : List ℕ) → IsBehind packer lengths → IsBehind next lengths) →
    ArePlaced (chunks_in after ++ left) number lie next index
placed-committed sessions after entry offered left number lie packer next index placed is fresh none of behind =
    let known = chunks_in sessions in
    let same : known ++ offered ≡ chunks_in after ++ left =
    ap (λ (l : List NewChunk). known ++ l) (sym fresh)
    ∙ sym (push_adds sessions (record { entry = entry; live = true })).chunks
    ∙ ap chunks_in (sym is) ∙ sym (append-nil (chunks_in after)) ∙ ap (λ (l : List NewChunk). chunks_in after ++ l) (sym none) in
    subst (λ (chunks : List NewChunk). ArePlaced chunks number lie next index) same (record {
      limit = placed.limit;
      bounded = placed.bounded;
      spots = placed.spots;
      generation = of ∙ placed.generation;
      behind = behind (lengths_of (known ++ offered)) placed.behind;
      indexed = placed.indexed;
      covers = placed.covers;
    })

-- a file that stays as it was keeps its front
keeps-front : (file : File) (used : ℕ) (files : Option (File → List ℕ)) → KeepsFront file used files files
keeps-front file used None = ([], refl)
keeps-front file used (Some bytes) =
    (drop used (bytes file), ap (λ (l : List ℕ). let o : Option (List ℕ) = Some l in o) (sym (take-append-drop used (bytes file))))

-- files that stay as they were
pub nothing-committed : (generation used : ℕ) (files : Option (File → List ℕ)) → CommitsNothing generation used files files
nothing-committed generation used files =
    record { book = keeps-front (Book generation) used files; others = λ f apart. refl }

-- ---- what is flushed

-- no chunk is offered if there is a spot for each chunk of the book alone
pub none-unflushed : (number : ℕ) (lie : List Spot) (packer : Packer) → length lie ≤ number → AreUnflushed number lie packer
none-unflushed number lie packer few = λ i none from within. absurd (omega (arith, few, from, within))

-- the containers of the chunks that were offered are flushed with those that were appended to
pub offered-flushed : (store : StoreState) (number : ℕ) (lie : List Spot) (packer : Packer) (index : NameIndex)
    (loose : File → Bool) → ArePlaced (chunks_of_store store) number lie packer index →
    AreUnflushed (length (chunks_in store.opened.book.sessions)) lie packer →
    AreFlushed number (IsUnflushed packer) loose → AreFlushed number (HasOffered store) loose
offered-flushed store number lie packer index loose placed unflushed flushed = record {
  book = flushed.book;
  containers = λ k has.
      let none : Spot = record { container = 0; offset = 0 } in
      let count = places-count (chunks_of_store store) number lie packer index placed in
      let same : (slice_index_or lie has.number none).container ≡ k =
      ap (λ (l : List Spot). (slice_index_or l has.number none).container) placed.spots ∙ sym has.container in
      flushed.containers k (subst (λ j. IsUnflushed packer j) same
      (unflushed has.number none has.offered (omega (arith, count, has.within))));
}

-- once all chunks are those of the book, none is offered
pub committed-unflushed : (chunks left : List NewChunk) (number : ℕ) (lie : List Spot) (packer : Packer) (index : NameIndex) →
    ArePlaced (chunks ++ left) number lie packer index → left ≡ [] → AreUnflushed (length chunks) lie packer
committed-unflushed chunks left number lie packer index placed none =
    none-unflushed (length chunks) lie packer
    (omega (arith, places-count (chunks ++ left) number lie packer index placed, length-append chunks left, ap length none))

-- a chunk is appended to a container that is then to be flushed
pub unflushed-one_more : (number : ℕ) (lie : List Spot) (spot : Spot) (packer next : Packer) → AreUnflushed number lie packer →
    ((k : ℕ) → IsUnflushed next k ↔ (IsUnflushed packer k ⊎ (k ≡ spot.container))) → AreUnflushed number (lie ++ spot ∷ []) next
unflushed-one_more number lie spot packer next unflushed more = λ i none from within.
    let at : i ≤ length lie = omega (arith, within, length-append lie (spot ∷ [])) in
    elim (eq-or-lt_of_le at) [
      | inl last ↦
          let same : (slice_index_or (lie ++ spot ∷ []) i none).container ≡ spot.container =
          ap (λ j. (slice_index_or (lie ++ spot ∷ []) j none).container) last
          ∙ ap (λ (s : Spot). s.container) (get_or-append_seam lie spot [] none) in
          (more (slice_index_or (lie ++ spot ∷ []) i none).container).1 (inr same)
      | inr before ↦
          let same : (slice_index_or lie i none).container ≡ (slice_index_or (lie ++ spot ∷ []) i none).container =
          ap (λ (s : Spot). s.container) (sym (get_or_append_left lie (spot ∷ []) none i before)) in
          subst (λ k. IsUnflushed next k) same
          ((more (slice_index_or lie i none).container).1 (inl (unflushed i none from before)))
    ]
