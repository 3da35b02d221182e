-- A batch of chunks in one text: where they end, what is read of them, and that the text is cut into
-- them again.
use Rattle.std.proofs.Common.{◌≡◌, inl, inr, ℕ, ◌+◌, ◌-◌, ◌<◌, ◌≤◌, List, [], ◌∷◌, ◌++◌, take, drop, length, length-append, map, slice_index_or, slice_range, refl, ap, sym, subst, ◌∙◌, arith, IfSome}
use Rattle.std.specs.Prelude.{Err, IsErrAnd, None, OnErr, Option, Result, Some}
use Rattle.std.specs.List.{All, concat}
use Rattle.std.proofs.Math.Seq.{drop-append_seam, take-append_seam}
use Rattle.std.proofs.lemmas.List.{append_assoc, append-nil, drop_more, get_or-drop, length-drop, take_all, take_more, get_or-map, length-map}
use Rattle.std.proofs.lemmas.List.Elements.{All-head, All-tail}
use Rattle.std.proofs.lemmas.List.Folds.{concat-append}
use Rattle.std.proofs.lemmas.List.Sums.{sum_by-append}
use Rattle.container_pack.specs.declared.spot.Spot.{Spot}
use Rattle.edge_traits.specs.Shelf.{content}
use Rattle.ingest_core.proofs.FaultLemmas.{err-is, err-of, passed-is}
use Rattle.ingest_core.specs.AuditChunks.{AreStored, bytes_kept, ends_from, kept_at, lengths_kept, names_in, spot_at}
use Rattle.sd_base.specs.Cutting.{RiseWithin, chunks_between}
use Rattle.sd_base.specs.declared.file.File.{File}
use Rattle.sd_base.specs.declared.file.File.TheVariants.{Container}
use Rattle.sd_base.specs.declared.record.NewChunk.{NewChunk}
use Rattle.store_core.specs.Containers.{OnlyFinds}
use Rattle.store_core.specs.declared.fault.StoreFault.{StoreFault}

no_chunk : NewChunk
no_chunk = record { length = 0; name = [] }

-- the bytes of a chunk and of those after it
pub bytes-cons : (chunk : NewChunk) (kept : List NewChunk) → bytes_kept (chunk ∷ kept) ≡ chunk.length + bytes_kept kept
bytes-cons chunk kept =
    let parts : bytes_kept (chunk ∷ kept) ≡ (0 + chunk.length) + bytes_kept kept =
    sum_by-append (λ (chunk : NewChunk). chunk.length) (chunk ∷ []) kept in
    omega (arith, parts)

-- the bytes of the chunks from one on
pub bytes-next : (kept : List NewChunk) (i : ℕ) → i < length kept →
    bytes_kept (drop i kept) ≡ (kept_at kept i).length + bytes_kept (drop (i + 1) kept)
unfolding no_chunk
bytes-next kept i within = ap bytes_kept (drop_more kept i no_chunk within) ∙ bytes-cons (kept_at kept i) (drop (i + 1) kept)

-- what holds of the lengths of chunks holds of that of one
pub length-of : (P : ℕ → Type 0) (kept : List NewChunk) (i : ℕ) → i < length kept → All P (lengths_kept kept) → P (kept_at kept i).length
unfolding no_chunk
length-of P kept i within all =
    let count = length-map kept (λ (chunk : NewChunk). chunk.length) in
    subst P (get_or-map (λ (chunk : NewChunk). chunk.length) kept i no_chunk 0 within) (all i 0 (omega (arith, within, count)))

-- the bytes of a range of chunks
pub range-none : (kept : List NewChunk) (a b : ℕ) → b ≤ a → bytes_kept (slice_range kept a b) ≡ 0
range-none kept a b past =
    let none : b - a ≡ 0 = omega (arith, past) in
    ap (λ k. bytes_kept (take k (drop a kept))) none

pub range-bytes : (kept : List NewChunk) (a i : ℕ) → a ≤ i → i < length kept →
    bytes_kept (slice_range kept a (i + 1)) ≡ bytes_kept (slice_range kept a i) + (kept_at kept i).length
unfolding no_chunk
range-bytes kept a i from within =
    let rest = length-drop a kept in
    let left : (i + 1) - a ≡ (i - a) + 1 = omega (arith, from) in
    let here : a + (i - a) ≡ i = omega (arith, from) in
    let last : NewChunk = slice_index_or (drop a kept) (i - a) no_chunk in
    let one = bytes-cons last [] in
    let is : last ≡ kept_at kept i = get_or-drop a kept (i - a) no_chunk ∙ ap (λ k. slice_index_or kept k no_chunk) here in
    let size : last.length ≡ (kept_at kept i).length = ap (λ (chunk : NewChunk). chunk.length) is in
    let sum : bytes_kept (slice_range kept a (i + 1)) ≡ bytes_kept (slice_range kept a i) + bytes_kept (last ∷ []) =
    ap (λ k. bytes_kept (take k (drop a kept))) left
    ∙ ap bytes_kept (take_more (drop a kept) (i - a) no_chunk (omega (arith, from, within, rest)))
    ∙ sum_by-append (λ (chunk : NewChunk). chunk.length) (slice_range kept a i) (last ∷ []) in
    let nothing : bytes_kept [] ≡ 0 = refl in
    omega (arith, sum, one, size, nothing)

-- one end more
pub ends-next : (kept : List NewChunk) (ends whole : List ℕ) (offset i : ℕ) → i < length kept →
    ends ++ ends_from offset (drop i kept) ≡ whole →
    (ends ++ (offset + (kept_at kept i).length) ∷ []) ++ ends_from (offset + (kept_at kept i).length) (drop (i + 1) kept) ≡ whole
unfolding no_chunk
ends-next kept ends whole offset i within is =
    let end = offset + (kept_at kept i).length in
    append_assoc ends (end ∷ []) (ends_from end (drop (i + 1) kept))
    ∙ ap (λ (left : List NewChunk). ends ++ ends_from offset left) (sym (drop_more kept i no_chunk within))
    ∙ is

-- one chunk more
concat-next : (stored : List (List ℕ)) (i : ℕ) → i < length stored →
    concat (take (i + 1) stored) ≡ concat (take i stored) ++ slice_index_or stored i []
concat-next stored i within =
    ap concat (take_more stored i [] within)
    ∙ concat-append (take i stored) (slice_index_or stored i [] ∷ [])
    ∙ ap (λ (last : List ℕ). concat (take i stored) ++ last) (append-nil (slice_index_or stored i []))

pub count-of : (stored : List (List ℕ)) (kept : List NewChunk) → map length stored ≡ lengths_kept kept → length stored ≡ length kept
count-of stored kept same =
    sym (length-map stored length) ∙ ap length same ∙ length-map kept (λ chunk. chunk.length)

pub size-of : (stored : List (List ℕ)) (kept : List NewChunk) (i : ℕ) → map length stored ≡ lengths_kept kept → i < length kept →
    length (slice_index_or stored i []) ≡ (kept_at kept i).length
unfolding no_chunk
size-of stored kept i same within =
    let count = count-of stored kept same in
    sym (get_or-map length stored i [] 0 (omega (arith, within, count)))
    ∙ ap (λ (ns : List ℕ). slice_index_or ns i 0) same
    ∙ get_or-map (λ chunk. chunk.length) kept i no_chunk 0 within

module _ (generation : ℕ) (spots : List Spot) (kept : List NewChunk) (stored : List (List ℕ)) where
  -- the text that is read has these first chunks
  abbrev pub IsTextTo : Option (File → List ℕ) → ℕ → List ℕ → Type 0
  IsTextTo told i text =
      IfSome told (λ files. AreStored files generation spots kept stored → text ≡ concat (take i stored))

  -- one chunk more that is read
  pub text-next : (told : Option (File → List ℕ)) (i : ℕ) (old new : List ℕ) → i < length kept → IsTextTo told i old →
      IfSome (content told (Container generation (spot_at spots i).container)) (λ bytes.
      new ≡ old ++ take (kept_at kept i).length (drop (spot_at spots i).offset bytes)) →
      IsTextTo told (i + 1) new
  text-next None i old new within before read = tt
  text-next (Some files) i old new within before read = λ are.
      let at = are.bytes i within in
      let count = count-of stored kept are.lengths in
      read
      ∙ ap (λ (last : List ℕ). old ++ last) at
      ∙ ap (λ (front : List ℕ). front ++ slice_index_or stored i []) (before are)
      ∙ sym (concat-next stored i (omega (arith, within, count)))

  -- no stored chunk reaches past the end of its container
  pub text-whole : (told : Option (File → List ℕ)) (i : ℕ) → i < length kept →
      IfSome (content told (Container generation (spot_at spots i).container)) (λ bytes.
      length (take (kept_at kept i).length (drop (spot_at spots i).offset bytes)) < (kept_at kept i).length) →
      IfSome told (λ files. AreStored files generation spots kept stored → ⊥)
  text-whole None i within short = tt
  text-whole (Some files) i within short = λ are.
      let size = ap length (are.bytes i within) ∙ size-of stored kept i are.lengths within in
      omega (arith, size, short)

  -- all chunks are read
  pub text-all : (told : Option (File → List ℕ)) (i : ℕ) (text : List ℕ) → length kept ≤ i → IsTextTo told i text →
      IfSome told (λ files. AreStored files generation spots kept stored → text ≡ concat stored)
  text-all None i text past before = tt
  text-all (Some files) i text past before = λ are.
      let count = count-of stored kept are.lengths in
      before are ∙ ap concat (take_all i stored (omega (arith, past, count)))

-- the ends rise
pub ends-rise : (kept : List NewChunk) (offset high : ℕ) → All (λ n. 1 ≤ n) (lengths_kept kept) → offset + bytes_kept kept ≤ high →
    RiseWithin offset high (ends_from offset kept)
ends-rise [] offset high some within = tt
ends-rise (chunk ∷ kept) offset high some within =
    let first : 1 ≤ chunk.length = All-head (λ n. 1 ≤ n) chunk.length (lengths_kept kept) some in
    let bytes = bytes-cons chunk kept in (
      omega (arith, first),
      omega (arith, within, bytes),
      ends-rise kept (offset + chunk.length) high (All-tail (λ n. 1 ≤ n) chunk.length (lengths_kept kept) some) (omega (arith, within, bytes)),
    )

-- a chunk between two others
range-is : (front chunk rest : List ℕ) (n : ℕ) → length chunk ≡ n → slice_range (front ++ (chunk ++ rest)) (length front) (length front + n) ≡ chunk
range-is front chunk rest n size =
    let left : (length front + n) - length front ≡ length chunk = omega (arith, size) in
    ap (λ k. take k (drop (length front) (front ++ (chunk ++ rest)))) left
    ∙ ap (λ (l : List ℕ). take (length chunk) l) (drop-append_seam front (chunk ++ rest))
    ∙ take-append_seam chunk rest

-- a text is cut into its chunks
pub text-cut : (kept : List NewChunk) (stored : List (List ℕ)) (front : List ℕ) → map length stored ≡ lengths_kept kept →
    chunks_between (front ++ concat stored) (length front) (ends_from (length front) kept) ≡ stored
text-cut [] [] front same = refl
text-cut [] (chunk ∷ stored) front same = absurd cc
text-cut (chunk ∷ kept) [] front same = absurd cc
text-cut (chunk ∷ kept) (bytes ∷ stored) front same =
    let size : length bytes ≡ chunk.length = ap (λ (ns : List ℕ). slice_index_or ns 0 0) same in
    let rest : map length stored ≡ lengths_kept kept = ap (λ (ns : List ℕ). drop 1 ns) same in
    let end : length (front ++ bytes) ≡ length front + chunk.length = length-append front bytes ∙ ap (λ n. length front + n) size in
    let whole : (front ++ bytes) ++ concat stored ≡ front ++ (bytes ++ concat stored) = append_assoc front bytes (concat stored) in
    ap (λ (first : List ℕ). first ∷ chunks_between (front ++ (bytes ++ concat stored)) (length front + chunk.length) (ends_from (length front + chunk.length) kept))
    (range-is front bytes (concat stored) chunk.length size)
    ∙ ap (λ (later : List (List ℕ)). bytes ∷ later)
    (ap (λ (text : List ℕ). chunks_between text (length front + chunk.length) (ends_from (length front + chunk.length) kept)) (sym whole)
    ∙ ap (λ n. chunks_between ((front ++ bytes) ++ concat stored) n (ends_from n kept)) (sym end)
    ∙ text-cut kept stored (front ++ bytes) rest)

pub ends-count : (offset : ℕ) (kept : List NewChunk) → length (ends_from offset kept) ≡ length kept
ends-count offset [] = refl
ends-count offset (chunk ∷ kept) = let later = ends-count (offset + chunk.length) kept in omega (arith, later)

module _ (name_of : List ℕ → List ℕ) (kept : List NewChunk) (text ends : List ℕ) (cut : ends ≡ ends_from 0 kept) where
  -- the names of the chunks of a text are those of the chunks that were read
  names-are : (stored : List (List ℕ)) → map length stored ≡ lengths_kept kept → text ≡ concat stored →
      names_in name_of text ends ≡ map name_of stored
  names-are stored same read =
      ap (λ (chunks : List (List ℕ)). map name_of chunks)
      (ap (λ (es : List ℕ). chunks_between text 0 es) cut
      ∙ ap (λ (t : List ℕ). chunks_between t 0 (ends_from 0 kept)) read
      ∙ text-cut kept stored [] same)

  -- what holds of the names of the text holds of those of the chunks
  pub batch-named : (P : List (List ℕ) → Type 0) (generation : ℕ) (spots : List Spot) (stored : List (List ℕ))
      (told : Option (File → List ℕ)) →
      IfSome told (λ files. AreStored files generation spots kept stored → text ≡ concat stored) →
      P (names_in name_of text ends) →
      IfSome told (λ files. AreStored files generation spots kept stored → P (map name_of stored))
  batch-named P generation spots stored None read holds = tt
  batch-named P generation spots stored (Some files) read holds = λ are.
      subst P (names-are stored are.lengths (read are)) holds

-- a fault that is passed on is one of those that a call which only reads may return
pub finds-passed : {S T : Type 0} (r : Result S StoreFault) (fault : StoreFault) (q : Result T StoreFault) → r ≡ Err fault →
    IsErrAnd q (λ e. e ≡ fault) → OnErr r (OnlyFinds r) → OnErr q (OnlyFinds q)
finds-passed {S} {T} r fault q was same only =
    subst (λ (p : Result T StoreFault). OnErr p (OnlyFinds p)) (sym (passed-is fault q same))
    (elim (subst (λ (p : Result S StoreFault). OnErr p (OnlyFinds p)) was only) [
      | inl wrong ↦ inl (wrong.0, err-of T (err-is wrong.1))
      | inr (inl failed) ↦ inr (inl (err-of T (err-is failed)))
      | inr (inr memory) ↦ inr (inr (err-of T (err-is memory)))
    ])
