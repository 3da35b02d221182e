-- The chunks of an input that are offered one after another: one more chunk.
use Rattle.std.proofs.lemmas.Bool.{cases_Bool}
use Rattle.std.specs.Str.{bytes_eq}
use Rattle.std.proofs.Common.{Some, None, true, false, ◌≡◌, inl, inr, ℕ, ◌+◌, ◌<◌, ◌≤◌, List, [], ◌∷◌, ◌++◌, IfSome, length, map, slice_index_or, refl, ap, sym, subst, ◌∙◌, arith}
use Rattle.std.proofs.lemmas.List.{get_or-map, get_or_append_left, append_assoc, append-nil, length-append, map-append}
use Rattle.std.proofs.lemmas.List.Elements.{All-append, All-from_recursion}
use Rattle.std.proofs.lemmas.List.Folds.{concat-append}
use Rattle.std.proofs.Math.Seq.{get_or-append_seam}
use Rattle.std.specs.List.{AllByRecursion, concat}
use Rattle.sd_base.specs.Books.{bytes_named, chunks_in}
use Rattle.sd_base.specs.Distinct.{first_index, is_among, new_chunks}
use Rattle.sd_base.specs.StateLaws.{chunk_at}
use Rattle.sd_base.specs.States.{State, stored_chunks}
use Rattle.sd_base.proofs.Recipes.{chunk_at-first_index}
use Rattle.sd_base.proofs.StateBooks.{first_index-below}
use Rattle.sd_base.specs.declared.file.File.{File}
use Rattle.sd_base.specs.declared.limits.TheConstants.{MAX_CHUNKS}
use Rattle.sd_base.specs.declared.record.NewChunk.{NewChunk}
use Rattle.store_core.specs.Commits.{recipe_chunks}
use Rattle.store_core.specs.CleanFiles.{AreCleanWith}
use Rattle.store_core.specs.Offers.{IsOffered, OffersAt}
use Rattle.store_core.specs.Recipes.{IsInOrder}
use Rattle.store_core.proofs.OfferLemmas.{stands-count}
use Rattle.store_core.proofs.StoreLemmas.{Told}
use Rattle.store_core.specs.StoreStates.{StoreState, chunks_of_store}
use Rattle.ingest_core.specs.Offering.{AreOffered, StandsWith}
use Rattle.ingest_core.proofs.RecipeLemmas.{bytes-more, bytes-push, in_order-new, in_order-old, length_at, lengths-more, recipe-more}

-- the lengths of chunks are those that a store can be offered
abbrev pub Fit : ℕ → List (List ℕ) → Type 0
Fit max chunks = AllByRecursion (λ chunk. (1 ≤ length chunk) × (length chunk ≤ max)) chunks

-- chunks joined, and one more
joined : (done : List (List ℕ)) (chunk : List ℕ) →
    length (concat (done ++ chunk ∷ [])) ≡ length (concat done) + length chunk
joined done chunk =
    ap length (concat-append done (chunk ∷ []) ∙ ap (λ last. concat done ++ last) (append-nil chunk))
    ∙ length-append (concat done) chunk

-- one more chunk has a number that the store knows, and was not added to it
pub one_known : (first now : StoreState) (done : List (List ℕ)) (recipe : List ℕ) (chunk : List ℕ) (n : ℕ) →
    AreOffered first done recipe now → n < length (chunks_of_store now) →
    length_at (chunks_of_store now) n ≡ length chunk → AreOffered first (done ++ chunk ∷ []) (recipe ++ n ∷ []) now
one_known first now done recipe chunk n had below size =
    let known = length (chunks_in first.opened.book.sessions) in
    record {
      opened = had.opened;
      sound = had.sound;
      count = omega (arith, had.count, length-append recipe (n ∷ []), length-append done (chunk ∷ []));
      in_order = in_order-old known (length (chunks_of_store now)) n recipe had.in_order below;
      sums = omega (arith, bytes-push (chunks_of_store now) recipe n, size, had.sums, joined done chunk);
      short = had.short;
    }

-- one more chunk was offered
pub one_more : (first now next : StoreState) (done : List (List ℕ)) (recipe : List ℕ) (chunk name : List ℕ) (i : ℕ) →
    AreOffered first done recipe now → length chunk ≤ first.opened.head.params.max →
    OffersAt now (record { length = length chunk; name = name }) i next →
    AreOffered first (done ++ chunk ∷ []) (recipe ++ i ∷ []) next
one_more first now next done recipe chunk name i had short (inl (below, kept, same)) =
    subst (λ (s : StoreState). AreOffered first (done ++ chunk ∷ []) (recipe ++ i ∷ []) s) (sym same)
    (one_known first now done recipe chunk i had below (ap (λ (c : NewChunk). c.length) kept))
one_more first now next done recipe chunk name i had short (inr (end, within, is)) =
    let new : NewChunk = record { length = length chunk; name = name } in
    let known = length (chunks_in first.opened.book.sessions) in
    let kept = chunks_of_store now in
    let all : List NewChunk = chunks_in now.opened.book.sessions ++ (now.offered ++ new ∷ []) in
    let moved : all ≡ kept ++ new ∷ [] = sym (append_assoc (chunks_in now.opened.book.sessions) now.offered (new ∷ [])) in
    let more : length all ≡ length kept + 1 = ap length moved ∙ length-append kept (new ∷ []) in
    let size : length_at all i ≡ length chunk =
    ap (λ (cs : List NewChunk). length_at cs i) moved ∙ ap (length_at (kept ++ new ∷ [])) end
    ∙ ap (λ (c : NewChunk). c.length) (get_or-append_seam kept new [] (record { length = 0; name = [] })) in
    let before : bytes_named all recipe ≡ bytes_named kept recipe =
    ap (λ (cs : List NewChunk). bytes_named cs recipe) moved ∙ bytes-more kept (new ∷ []) known recipe had.in_order in
    subst (λ (s : StoreState). AreOffered first (done ++ chunk ∷ []) (recipe ++ i ∷ []) s) (sym is) (record {
      opened = had.opened;
      sound = had.sound;
      count = omega (arith, had.count, length-append recipe (i ∷ []), length-append done (chunk ∷ []));
      in_order = subst (λ n. IsInOrder known (recipe ++ i ∷ []) n) (sym more)
          (subst (λ n. IsInOrder known (recipe ++ n ∷ []) (length kept + 1)) (sym end)
          (in_order-new known (length kept) recipe had.in_order));
      sums = omega (arith, bytes-push all recipe i, size, before, had.sums, joined done chunk);
      short = All-append (λ (c : NewChunk). c.length ≤ first.opened.head.params.max) now.offered (new ∷ []) had.short
          (All-from_recursion (λ (c : NewChunk). c.length ≤ first.opened.head.params.max) (new ∷ []) (short, tt));
    })

-- the numbers of a recipe are those of chunks of these lengths, whatever the shelf holds
abbrev pub HaveLengths : StoreState → List ℕ → List (List ℕ) → Type 0
HaveLengths store recipe chunks = map (length_at (chunks_of_store store)) recipe ≡ map length chunks

lengths-push : (kept : List NewChunk) (recipe : List ℕ) (chunks : List (List ℕ)) (n : ℕ) (chunk : List ℕ) →
    map (length_at kept) recipe ≡ map length chunks → length_at kept n ≡ length chunk →
    map (length_at kept) (recipe ++ n ∷ []) ≡ map length (chunks ++ chunk ∷ [])
lengths-push kept recipe chunks n chunk had size =
    map-append (length_at kept) recipe (n ∷ []) ∙ ap (λ front. front ++ length_at kept n ∷ []) had
    ∙ ap (λ last. map length chunks ++ last ∷ []) size ∙ sym (map-append length chunks (chunk ∷ []))

-- and so they are after one more chunk that the store knows, and one that was offered
pub lengths-known : (now : StoreState) (recipe : List ℕ) (done : List (List ℕ)) (n : ℕ) (chunk : List ℕ) →
    HaveLengths now recipe done → length_at (chunks_of_store now) n ≡ length chunk →
    HaveLengths now (recipe ++ n ∷ []) (done ++ chunk ∷ [])
lengths-known now recipe done n chunk had size = lengths-push (chunks_of_store now) recipe done n chunk had size

pub lengths-offered : (first now next : StoreState) (done : List (List ℕ)) (recipe : List ℕ) (chunk name : List ℕ) (i : ℕ) →
    AreOffered first done recipe now → OffersAt now (record { length = length chunk; name = name }) i next →
    HaveLengths now recipe done → HaveLengths next (recipe ++ i ∷ []) (done ++ chunk ∷ [])
lengths-offered first now next done recipe chunk name i offered (inl (below, kept, same)) had =
    subst (λ (s : StoreState). HaveLengths s (recipe ++ i ∷ []) (done ++ chunk ∷ [])) (sym same)
    (lengths-known now recipe done i chunk had (ap (λ (c : NewChunk). c.length) kept))
lengths-offered first now next done recipe chunk name i offered (inr (end, within, is)) had =
    let new : NewChunk = record { length = length chunk; name = name } in
    let known = length (chunks_in first.opened.book.sessions) in
    let kept = chunks_of_store now in
    let all : List NewChunk = chunks_in now.opened.book.sessions ++ (now.offered ++ new ∷ []) in
    let moved : all ≡ kept ++ new ∷ [] = sym (append_assoc (chunks_in now.opened.book.sessions) now.offered (new ∷ [])) in
    let size : length_at (kept ++ new ∷ []) i ≡ length chunk =
    ap (length_at (kept ++ new ∷ [])) end
    ∙ ap (λ (c : NewChunk). c.length) (get_or-append_seam kept new [] (record { length = 0; name = [] })) in
    subst (λ (s : StoreState). HaveLengths s (recipe ++ i ∷ []) (done ++ chunk ∷ [])) (sym is)
    (subst (λ (cs : List NewChunk). map (length_at cs) (recipe ++ i ∷ []) ≡ map length (done ++ chunk ∷ [])) (sym moved)
    (lengths-push (kept ++ new ∷ []) recipe done i chunk (lengths-more kept (new ∷ []) known recipe offered.in_order ∙ had) size))

-- ---- a store that stands for a state

-- a chunk that is not among others has no index among them
first_index-none : (chunks : List (List ℕ)) (chunk : List ℕ) → is_among chunks chunk ≡ false →
    first_index chunks chunk ≡ length chunks
first_index-none [] chunk alone = refl
first_index-none (first ∷ chunks) chunk alone = elim (cases_Bool (bytes_eq chunk first)) [
  | inl same ↦ absurd (let clash : true ≡ false = sym (rw same refl) ∙ alone in cc)
  | inr other ↦
      let later = first_index-none chunks chunk (rw other at alone) in rw other (omega (arith, later))
]

-- a chunk is at its first index, also if it is new and is put after the others
chunk-here : (all : List (List ℕ)) (chunk : List ℕ) →
    chunk_at (all ++ new_chunks all (chunk ∷ [])) (first_index all chunk) ≡ chunk
chunk-here all chunk = elim (cases_Bool (is_among all chunk)) [
  | inl among ↦
      get_or_append_left all (new_chunks all (chunk ∷ [])) [] (first_index all chunk)
      (first_index-below all chunk among)
      ∙ chunk_at-first_index all chunk among
  | inr alone ↦
      let new : new_chunks all (chunk ∷ []) ≡ chunk ∷ [] = rw alone refl in
      ap (λ more. chunk_at (all ++ more) (first_index all chunk)) new
      ∙ ap (chunk_at (all ++ chunk ∷ [])) (first_index-none all chunk alone)
      ∙ get_or-append_seam all chunk [] []
]

module _ (name_of : List ℕ → List ℕ) (before : File → List ℕ) (now : StoreState) (files : File → List ℕ) (state : State)
    (done : List (List ℕ)) (recipe : List ℕ) (known : ℕ)
    (order : IsInOrder known recipe (length (chunks_of_store now))) (chunk : List ℕ) where
  -- the recipe goes on to name the chunks
  names-more : (had : StandsWith name_of before now files state done recipe) →
      recipe_chunks state (had.offered ++ new_chunks (stored_chunks state ++ had.offered) (chunk ∷ []))
      (recipe ++ first_index (stored_chunks state ++ had.offered) chunk ∷ []) ≡ done ++ chunk ∷ []
  names-more had =
      let all = stored_chunks state ++ had.offered in
      let new = new_chunks all (chunk ∷ []) in
      let i = first_index all chunk in
      let here = subst (λ n. IsInOrder known recipe n) (stands-count name_of now files state had.offered had.stands) order in
      ap (λ chunks. map (chunk_at chunks) (recipe ++ i ∷ [])) (sym (append_assoc (stored_chunks state) had.offered new))
      ∙ map-append (chunk_at (all ++ new)) recipe (i ∷ [])
      ∙ ap (λ front. front ++ chunk_at (all ++ new) i ∷ []) (recipe-more all new known recipe here ∙ had.names)
      ∙ ap (λ last. done ++ last ∷ []) (chunk-here all chunk)

  -- there are no more chunks than there may be
  few-more : (next : StoreState) (i : ℕ) (name : List ℕ) (more : List (List ℕ)) →
      (had : StandsWith name_of before now files state done recipe) →
      OffersAt now (record { length = length chunk; name = name }) i next →
      length (chunks_of_store next) ≡ length (stored_chunks state ++ more) → length (stored_chunks state ++ more) ≤ MAX_CHUNKS
  few-more next i name more had (inl old) count =
      let same = ap (λ (s : StoreState). length (chunks_of_store s)) old.2 in
      let had_count = stands-count name_of now files state had.offered had.stands in
      omega (arith, same, had_count, count, had.few)
  few-more next i name more had (inr new) count =
      let one : List NewChunk = record { length = length chunk; name = name } ∷ [] in
      let same = ap (λ (s : StoreState). length (chunks_of_store s)) new.2 in
      let longer = ap length (append_assoc (chunks_in now.opened.book.sessions) now.offered one) in
      let sum = length-append (chunks_of_store now) one in
      omega (arith, same, longer, sum, new.0, new.1, count)

  -- one more chunk was offered to a store that stands for a state
  pub stands-more : (next : StoreState) (after : Told) (i : ℕ) (name : List ℕ) →
      OffersAt now (record { length = length chunk; name = name }) i next →
      (had : StandsWith name_of before now files state done recipe) → IsOffered name_of state had.offered chunk i next after →
      (AreCleanWith name_of files state had.offered → IfSome after (λ then. AreCleanWith name_of then state
      (had.offered ++ new_chunks (stored_chunks state ++ had.offered) (chunk ∷ [])))) →
      IfSome after (λ then. StandsWith name_of before next then state (done ++ chunk ∷ []) (recipe ++ i ∷ []))
  stands-more next None i name at had offers clean = tt
  stands-more next (Some then) i name at had offers clean =
      let more = had.offered ++ new_chunks (stored_chunks state ++ had.offered) (chunk ∷ []) in
      record {
        offered = more;
        stands = offers.1;
        names = ap (λ n. recipe_chunks state more (recipe ++ n ∷ [])) offers.0 ∙ names-more had;
        few = few-more next i name more had at (stands-count name_of next then state more offers.1);
        clean = λ alone. clean (had.clean alone);
      }

-- what the entries of a recipe have is at each place that of the chunk
pub at-place : {T : Type 0} (f : ℕ → T) (other : T) (recipe : List ℕ) (all : List T) (i : ℕ) → map f recipe ≡ all →
    i < length recipe → f (slice_index_or recipe i 0) ≡ slice_index_or all i other
at-place f other recipe all i had inside =
    sym (get_or-map f recipe i 0 other inside) ∙ ap (λ ts. slice_index_or ts i other) had

-- one more chunk has the bytes of an earlier one, and the number of that one
pub stands-known : (name_of : List ℕ → List ℕ) (before : File → List ℕ) (now : StoreState) (files : File → List ℕ)
    (state : State) (done : List (List ℕ)) (recipe : List ℕ) (chunk : List ℕ) (i : ℕ) → i < length recipe →
    slice_index_or done i [] ≡ chunk → StandsWith name_of before now files state done recipe →
    StandsWith name_of before now files state (done ++ chunk ∷ []) (recipe ++ slice_index_or recipe i 0 ∷ [])
stands-known name_of before now files state done recipe chunk i inside same had =
    let all = stored_chunks state ++ had.offered in
    let n = slice_index_or recipe i 0 in
    record {
      offered = had.offered;
      stands = had.stands;
      names = map-append (chunk_at all) recipe (n ∷ []) ∙ ap (λ front. front ++ chunk_at all n ∷ []) had.names
          ∙ ap (λ last. done ++ last ∷ []) (at-place (chunk_at all) [] recipe done i had.names inside ∙ same);
      few = had.few;
      clean = had.clean;
    }
