-- What a store that stands for a state finds of a chunk, and how it goes on to stand for one.
use Rattle.std.proofs.Common.{◌≡◌, ◌≢◌, inl, inr, ℕ, zero, suc, ◌<◌, ◌≤◌, Bool, true, false, List, [], ◌∷◌, ◌++◌, length, map, refl, ap, sym, subst, ◌∙◌, arith, append-nil}
use Rattle.std.proofs.Math.Path.{fun_ext}
use Rattle.std.proofs.lemmas.List.{append_assoc, get_or-map, length-map, map-append}
use Rattle.std.specs.Prelude.{None, Option, Some, drop, slice_index_or, take}
use Rattle.std.specs.List.{All}
use Rattle.std.specs.Str.{bytes_eq}
use Rattle.std.proofs.lemmas.Bool.{cases_Bool}
use Rattle.std.proofs.lemmas.List.Folds.{list_any-append}
use Rattle.std.proofs.lemmas.Slice.Eq.{bytes_eq-Decides}
use Rattle.container_pack.specs.Containers.{Begins, ContainersBegin, IsStored}
use Rattle.container_pack.specs.Spots.{LieAt, LiesAt, spots_of}
use Rattle.container_pack.specs.declared.spot.Spot.{Spot}
use Rattle.container_pack.proofs.PackingLemmas.{packing-grows}
use Rattle.container_pack.proofs.ShelfLemmas.{IsStored-read}
use Rattle.container_pack.proofs.SpotLemmas.{spots_of-lie_by_lengths}
use Rattle.edge_traits.specs.Shelf.{content}
use Rattle.sd_base.specs.Books.{book_of, chunks_in}
use Rattle.sd_base.specs.Distinct.{first_index, is_among, new_chunks, AreDifferent}
use Rattle.sd_base.specs.Opening.{OpenAs, Opened}
use Rattle.sd_base.specs.Packing.{packing}
use Rattle.sd_base.specs.StateBooks.{book_of_state}
use Rattle.sd_base.specs.StateLaws.{chunk_at}
use Rattle.sd_base.specs.States.{IsLawful, State, placed_chunks, stored_chunks}
use Rattle.sd_base.specs.Stores.{GivesNames, HoldState, IsFrontOf, named, records_of}
use Rattle.sd_base.specs.declared.damage.Damage.{Damage}
use Rattle.sd_base.specs.declared.file.File.{File}
use Rattle.sd_base.specs.declared.file.File.TheVariants.{Book, Container, Head, Seal}
use Rattle.sd_base.specs.declared.limits.TheConstants.{SETTINGS_LEN}
use Rattle.sd_base.specs.declared.record.NewChunk.{NewChunk}
use Rattle.sd_base.proofs.Distinct.{distinct-different}
use Rattle.sd_base.proofs.HeldStates.{held_state_opens}
use Rattle.sd_base.proofs.States.{among_later}
use Rattle.store_core.specs.Offers.{IsFoundDamaged, IsLeastSame, IsNewBelow, IsSame, with_offer}
use Rattle.store_core.specs.StoreFields.{lengths_of}
use Rattle.store_core.specs.StoreStates.{StandsFor, StoreState, chunk_as_read, chunks_of_store, kept_chunk, spot_of_chunk}
use Rattle.store_core.proofs.IngestLemmas.{book-chunks}
use Rattle.store_core.proofs.Verdicts.{open_as_one}

-- ---- how a store stands for a state

-- a store that opened on files that hold a state stands for it
pub stands-opened : (name_of : List ℕ → List ℕ) (files : File → List ℕ) (state : State) (opened : Opened) →
    GivesNames name_of → IsLawful state → HoldState name_of files state → OpenAs files opened →
    StandsFor name_of (record { opened = opened; offered = []; sound = true }) files state []
stands-opened name_of files state opened names lawful holds opens =
    let stored = stored_chunks state in
    let none = sym (append-nil stored) in
    let book : Opened = record {
      head = record { params = state.params; generation = state.generation };
      book = book_of_state name_of state;
    } in
    record {
      lawful = lawful;
      opened = open_as_one files opened book opens (held_state_opens name_of names files state lawful holds);
      offers = refl;
      different = subst AreDifferent none (distinct-different (placed_chunks state.events));
      held = holds;
      begin = subst (λ chunks. ContainersBegin (Some files) state.generation (packing chunks)) none
          (λ k within. holds.containers k within);
    }

-- it goes on to do so if no file changes
pub stands-same : (name_of : List ℕ → List ℕ) (store : StoreState) (before after : File → List ℕ) (state : State)
    (offered : List (List ℕ)) → ((f : File) → after f ≡ before f) →
    StandsFor name_of store before state offered → StandsFor name_of store after state offered
stands-same name_of store before after state offered same stands =
    subst (λ files. StandsFor name_of store files state offered) (sym (fun_ext same)) stands

-- whether `offer` and `commit` may be called does not matter
pub stands-sound : (name_of : List ℕ → List ℕ) (store : StoreState) (files : File → List ℕ) (state : State)
    (offered : List (List ℕ)) (b : Bool) →
    StandsFor name_of store files state offered → StandsFor name_of (record store { sound = b }) files state offered
stands-sound name_of store files state offered b stands = record {
  lawful = stands.lawful;
  opened = stands.opened;
  offers = stands.offers;
  different = stands.different;
  held = stands.held;
  begin = stands.begin;
}

-- ---- chunks by their numbers

-- each chunk lies at its spot
lies-at : (containers : List (List ℕ)) (spots : List Spot) (chunks : List (List ℕ)) (i : ℕ) (none : Spot) →
    LieAt containers spots chunks → i < length chunks → LiesAt containers (slice_index_or spots i none) (chunk_at chunks i)
lies-at containers spots [] i none lie within = absurd omega (arith, within)
lies-at containers [] (chunk ∷ chunks) i none lie within = absurd lie
lies-at containers (spot ∷ spots) (chunk ∷ chunks) zero none lie within = lie.0
lies-at containers (spot ∷ spots) (chunk ∷ chunks) (suc i) none lie within =
    lies-at containers spots chunks i none lie.1 (omega (arith, within))

-- the chunks by length and name have the lengths of the chunks
pub lengths-named : (name_of : List ℕ → List ℕ) (chunks : List (List ℕ)) → lengths_of (map (named name_of) chunks) ≡ map length chunks
lengths-named name_of [] = refl
lengths-named name_of (chunk ∷ chunks) = ap (λ ns. length chunk ∷ ns) (lengths-named name_of chunks)

-- what a store that stands for a state finds, if the chunks of the state and those offered are `all`
module _ (name_of : List ℕ → List ℕ) (store : StoreState) (files : File → List ℕ) (state : State)
    (offered : List (List ℕ)) (stands : StandsFor name_of store files state offered) where
  abbrev all : List (List ℕ)
  all = stored_chunks state ++ offered

  -- its chunks are these, by length and name
  pub stands-chunks : chunks_of_store store ≡ map (named name_of) all
  stands-chunks =
      ap (λ (opened : Opened). chunks_in opened.book.sessions ++ store.offered) stands.opened
      ∙ ap (λ committed. committed ++ store.offered) (book-chunks name_of state)
      ∙ ap (λ new. map (named name_of) (stored_chunks state) ++ new) stands.offers
      ∙ sym (map-append (named name_of) (stored_chunks state) offered)

  pub stands-count : length (chunks_of_store store) ≡ length all
  stands-count = ap length stands-chunks ∙ length-map all (named name_of)

  pub stands-kept : (i : ℕ) → i < length all → kept_chunk store i ≡ named name_of (chunk_at all i)
  stands-kept i within =
      let none : NewChunk = record { length = 0; name = [] } in
      ap (λ chunks. slice_index_or chunks i none) stands-chunks ∙ get_or-map (named name_of) all i [] none within

  -- each is read as it is
  pub stands-read : All (λ n. 1 ≤ n) (lengths_of (chunks_of_store store)) → (i : ℕ) → i < length all →
      chunk_as_read files store i ≡ chunk_at all i
  stands-read some i within =
      let none : Spot = record { container = 0; offset = 0 } in
      let spot = spot_of_chunk store i in
      let lengths : lengths_of (chunks_of_store store) ≡ map length all =
      ap lengths_of stands-chunks ∙ lengths-named name_of all in
      let lie = spots_of-lie_by_lengths (lengths_of (chunks_of_store store)) all some (sym lengths)
      (spots_of (lengths_of (chunks_of_store store))) refl in
      let stored : IsStored (Some files) state.generation spot (length (chunk_at all i)) (chunk_at all i) = record {
        containers = packing all;
        begin = stands.begin;
        lies = lies-at (packing all) (spots_of (lengths_of (chunks_of_store store))) all i none lie within;
        size = refl;
      } in
      let read = λ (generation n : ℕ). take n (drop spot.offset (files (Container generation spot.container))) in
      ap (λ (opened : Opened). read opened.head.generation (kept_chunk store i).length) stands.opened
      ∙ ap (λ (kept : NewChunk). read state.generation kept.length) (stands-kept i within)
      ∙ IsStored-read (Some files) state.generation spot (length (chunk_at all i)) (chunk_at all i)
      (read state.generation (length (chunk_at all i))) stored refl

-- ---- one more chunk

-- what begins with more begins with less
begins-less : (told : Option (List ℕ)) (front more rest : List ℕ) → more ≡ front ++ rest → Begins told more → Begins told front
begins-less None front more rest longer begins = tt
begins-less (Some bytes) front more rest longer begins =
    (rest ++ begins.0, begins.1 ∙ ap (λ b. b ++ begins.0) longer ∙ append_assoc front rest begins.0)

-- containers that begin with more chunks begin with fewer
pub begin-fewer : (files : Option (File → List ℕ)) (generation : ℕ) (chunks more : List (List ℕ)) →
    ContainersBegin files generation (packing (chunks ++ more)) → ContainersBegin files generation (packing chunks)
begin-fewer files generation chunks more begin = λ k within.
    let grown = packing-grows chunks more in
    let grow = grown.prefix k within in
    begins-less (content files (Container generation k)) (slice_index_or (packing chunks) k [])
    (slice_index_or (packing (chunks ++ more)) k []) grow.0 grow.1 (begin k (omega (arith, within, grown.no_fewer)))

-- the files go on to hold a state if the containers begin with its chunks and maybe more, and no
-- other file changes
pub held-on : (name_of : List ℕ → List ℕ) (before after : File → List ℕ) (state : State) (more : List (List ℕ)) →
    HoldState name_of before state → ContainersBegin (Some after) state.generation (packing (stored_chunks state ++ more)) →
    ((f : File) → ((k : ℕ) → f ≢ Container state.generation k) → after f ≡ before f) → HoldState name_of after state
held-on name_of before after state more held begin others =
    let same_head : after Head ≡ before Head = others Head (λ k is. absurd cc) in
    let same_seal : after (Seal state.generation) ≡ before (Seal state.generation) =
    others (Seal state.generation) (λ k is. absurd cc) in
    let same_book : after (Book state.generation) ≡ before (Book state.generation) =
    others (Book state.generation) (λ k is. absurd cc) in
    record {
      settings = ap (take SETTINGS_LEN) same_head ∙ held.settings;
      generation = ap length same_head ∙ held.generation;
      seal = ap length same_seal ∙ held.seal;
      book = subst (IsFrontOf (book_of (records_of name_of state))) (sym same_book) held.book;
      containers = begin-fewer (Some after) state.generation (stored_chunks state) more begin;
    }

-- the store with a new chunk appended stands for the state, with the chunk offered
pub stands-appended : (name_of : List ℕ → List ℕ) (store : StoreState) (before after : File → List ℕ) (state : State)
    (offered : List (List ℕ)) (chunk : List ℕ) → StandsFor name_of store before state offered →
    AreDifferent ((stored_chunks state ++ offered) ++ chunk ∷ []) →
    ContainersBegin (Some after) state.generation (packing ((stored_chunks state ++ offered) ++ chunk ∷ [])) →
    ((f : File) → ((k : ℕ) → f ≢ Container state.generation k) → after f ≡ before f) →
    StandsFor name_of (with_offer store (named name_of chunk)) after state (offered ++ chunk ∷ [])
stands-appended name_of store before after state offered chunk stands different begin others =
    let stored = stored_chunks state in
    let more = offered ++ chunk ∷ [] in
    let together : (stored ++ offered) ++ chunk ∷ [] ≡ stored ++ more = append_assoc stored offered (chunk ∷ []) in
    let now : ContainersBegin (Some after) state.generation (packing (stored ++ more)) =
    subst (λ chunks. ContainersBegin (Some after) state.generation (packing chunks)) together begin in
    record {
      lawful = stands.lawful;
      opened = stands.opened;
      offers = ap (λ new. new ++ named name_of chunk ∷ []) stands.offers
          ∙ sym (map-append (named name_of) offered (chunk ∷ []));
      different = subst AreDifferent together different;
      held = held-on name_of before after state more stands.held now others;
      begin = now;
    }

-- ---- a chunk that is looked for

-- the least number of a chunk is its first index
first_index-least : (chunks : List (List ℕ)) (chunk : List ℕ) (i : ℕ) → i < length chunks → chunk_at chunks i ≡ chunk →
    ((j : ℕ) → j < i → chunk_at chunks j ≡ chunk → ⊥) → first_index chunks chunk ≡ i
first_index-least [] chunk i within here none = absurd omega (arith, within)
first_index-least (first ∷ chunks) chunk zero within here none = rw ((bytes_eq-Decides chunk first).1 (sym here)) refl
first_index-least (first ∷ chunks) chunk (suc i) within here none = elim (cases_Bool (bytes_eq chunk first)) [
  | inl same ↦ absurd (none 0 (omega arith) (sym ((bytes_eq-Decides chunk first).0 same)))
  | inr other ↦
      let later = first_index-least chunks chunk i (omega (arith, within)) here
      (λ j below is. none (suc j) (omega (arith, below)) is) in
      rw other (omega (arith, later))
]

-- a chunk that has a number is among the chunks
among-at : (chunks : List (List ℕ)) (chunk : List ℕ) (i : ℕ) → i < length chunks → chunk_at chunks i ≡ chunk →
    is_among chunks chunk ≡ true
among-at [] chunk i within here = absurd omega (arith, within)
among-at (first ∷ chunks) chunk zero within here = rw ((bytes_eq-Decides chunk first).1 (sym here)) refl
among-at (first ∷ chunks) chunk (suc i) within here =
    among_later chunk first chunks (among-at chunks chunk i (omega (arith, within)) here)

-- a chunk that has no number is not among the chunks
alone-at : (chunks : List (List ℕ)) (chunk : List ℕ) →
    ((j : ℕ) → j < length chunks → chunk_at chunks j ≡ chunk → ⊥) →
    (first_index chunks chunk ≡ length chunks) × (is_among chunks chunk ≡ false)
alone-at [] chunk none = (refl, refl)
alone-at (first ∷ chunks) chunk none = elim (cases_Bool (bytes_eq chunk first)) [
  | inl same ↦ absurd (none 0 (omega arith) (sym ((bytes_eq-Decides chunk first).0 same)))
  | inr other ↦
      let later = alone-at chunks chunk (λ j below is. none (suc j) (omega (arith, below)) is) in
      rw other (omega (arith, later.0), later.1)
]

-- chunks stay different if one more follows that is not among them
different-one_more : (chunks : List (List ℕ)) (chunk : List ℕ) → AreDifferent chunks → is_among chunks chunk ≡ false →
    AreDifferent (chunks ++ chunk ∷ [])
different-one_more [] chunk different alone = (refl, tt)
different-one_more (first ∷ chunks) chunk different alone = elim (cases_Bool (bytes_eq chunk first)) [
  | inl same ↦ let clash : true ≡ false = sym (rw same refl) ∙ alone in absurd cc
  | inr other ↦
      let both = list_any-append (bytes_eq first) chunks (chunk ∷ []) in
      elim (cases_Bool (bytes_eq first chunk)) [
        | inl same ↦
            let equal : chunk ≡ first = sym ((bytes_eq-Decides first chunk).0 same) in
            let clash : true ≡ false = sym ((bytes_eq-Decides chunk first).1 equal) ∙ other in absurd cc
        | inr unequal ↦
            (both ∙ rw (different.0, unequal) refl, different-one_more chunks chunk different.1 (rw other at alone))
      ]
]

-- a store that stands for a state looks for a chunk; none of its chunks is empty
module _ (name_of : List ℕ → List ℕ) (store : StoreState) (files : File → List ℕ) (state : State)
    (offered : List (List ℕ)) (stands : StandsFor name_of store files state offered)
    (some : All (λ n. 1 ≤ n) (lengths_of (chunks_of_store store))) (chunk : List ℕ) where
  abbrev known : List (List ℕ)
  known = stored_chunks state ++ offered

  -- chunk i is the same exactly if it is chunk i of the state and those offered
  same-is : (i : ℕ) → IsSame name_of files store chunk i → (i < length known) × (chunk_at known i ≡ chunk)
  same-is i same =
      let count = stands-count name_of store files state offered stands in
      let within : i < length known = omega (arith, count, same.within) in
      (within, sym (stands-read name_of store files state offered stands some i within) ∙ same.bytes)

  is-same : (i : ℕ) → i < length known → chunk_at known i ≡ chunk → IsSame name_of files store chunk i
  is-same i within is =
      let count = stands-count name_of store files state offered stands in
      let kept : kept_chunk store i ≡ named name_of chunk =
      stands-kept name_of store files state offered stands i within ∙ ap (named name_of) is in
      record {
        within = omega (arith, count, within);
        name = ap (λ (c : NewChunk). c.name) kept;
        size = ap (λ (c : NewChunk). c.length) kept;
        bytes = stands-read name_of store files state offered stands some i within ∙ is;
      }

  -- the least chunk that is the same has the first index, and is no new chunk
  pub stands-least : (i : ℕ) → IsLeastSame name_of files store chunk i →
      (i ≡ first_index known chunk) × (new_chunks known (chunk ∷ []) ≡ [])
  stands-least i found =
      let here = same-is i found.same in
      let none = λ (j : ℕ) (below : j < i) (is : chunk_at known j ≡ chunk).
      found.least j below (is-same j (omega (arith, below, here.0)) is) in
      (sym (first_index-least known chunk i here.0 here.1 none), rw (among-at known chunk i here.0 here.1) refl)

  -- if no chunk is the same, it is a new chunk
  pub stands-none : IsNewBelow name_of files store chunk (length known) →
      (first_index known chunk ≡ length known) × (is_among known chunk ≡ false)
      × (new_chunks known (chunk ∷ []) ≡ chunk ∷ []) × AreDifferent (known ++ chunk ∷ [])
  stands-none new =
      let alone = alone-at known chunk (λ j below is. new.none j below (is-same j below is)) in
      (alone.0, alone.1, rw alone.1 refl, different-one_more known chunk stands.different alone.1)

  -- no chunk is found damaged
  pub stands-undamaged : (damage : Damage) → IsFoundDamaged name_of files store chunk damage → ⊥
  stands-undamaged damage found =
      let count = stands-count name_of store files state offered stands in
      let within : found.number < length known = omega (arith, count, found.within) in
      found.damaged.differs
      (ap name_of (stands-read name_of store files state offered stands some found.number within)
      ∙ ap (λ (c : NewChunk). c.name) (sym (stands-kept name_of store files state offered stands found.number within)))
