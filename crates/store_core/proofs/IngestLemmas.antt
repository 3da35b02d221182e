-- A recipe over the chunks of a store is one more ingest.
use Rattle.std.proofs.Common.{◌≡◌, inl, inr, ℕ, zero, suc, ◌+◌, ◌^◌, ◌<◌, ◌≤◌, true, false, None, List, [], ◌∷◌, ◌++◌, length, map, take, drop, refl, ap, sym, subst, ◌∙◌, arith, length-append, append-nil}
use Rattle.std.specs.Prelude.{slice_index_or}
use Rattle.std.specs.List.{All, concat, fold}
use Rattle.std.specs.Str.{bytes_eq}
use Rattle.std.proofs.lemmas.Bool.{cases_Bool}
use Rattle.std.proofs.lemmas.Grind.{flat_map-append}
use Rattle.std.proofs.lemmas.List.{append_assoc, length-take-le, take-append-drop}
use Rattle.std.proofs.lemmas.List.Elements.{All-append, All-from_recursion}
use Rattle.std.proofs.lemmas.List.Folds.{list_any-append}
use Rattle.std.proofs.lemmas.List.Sums.{fold-append, sum_by-cons}
use Rattle.std.proofs.lemmas.Slice.Eq.{bytes_eq-Decides}
use Rattle.sd_base.specs.Books.{BookState, book_after, book_of, bytes_named, chunks_in, followed_by, live_session, places_in, sessions_of, with_record}
use Rattle.sd_base.specs.Distinct.{is_among, not_among, distinct, first_index, new_chunks, AreDifferent}
use Rattle.sd_base.specs.Names.{IsName}
use Rattle.sd_base.specs.Records.{spelling_of}
use Rattle.sd_base.specs.StateBooks.{book_of_state}
use Rattle.sd_base.specs.StateLaws.{chunk_at}
use Rattle.sd_base.specs.States.{Event, ingested, IsCutting, IsLawful, MayAllHappen, MayHappen, State, StoredSession, bytes_of_session, followed_by_event, live_session_named, placed_chunks, sessions_after, sessions_in, stored_chunks, with_event}
use Rattle.sd_base.specs.Stores.{named, ingest_record, records_of}
use Rattle.sd_base.specs.declared.limits.TheConstants.{MAX_CHUNKS, MAX_PLACES, MAX_SESSIONS}
use Rattle.sd_base.specs.declared.record.Record.{Record}
use Rattle.sd_base.specs.declared.record.Record.TheVariants.{Ingest}
use Rattle.sd_base.specs.declared.record.Session.{Session}
use Rattle.sd_base.proofs.Distinct.{is_among-distinct}
use Rattle.sd_base.proofs.HeldStates.{sessions-book}
use Rattle.sd_base.proofs.StateBooks.{chunks-book, length-book, live_session-book, places-book, session_chunks-fold}
use Rattle.sd_base.proofs.States.{among_own, among_later, among_second, placed_chunks-append, stored_chunks-followed, records_of-followed}
use Rattle.store_core.specs.Recipes.{IsInOrder}

-- ---- chunks by their numbers

-- the chunk of each number is among the chunks
among-chunk_at : (all : List (List ℕ)) (n : ℕ) → n < length all → is_among all (chunk_at all n) ≡ true
among-chunk_at [] n below = absurd omega (arith, below)
among-chunk_at (first ∷ all) zero below = among_own first all
among-chunk_at (first ∷ all) (suc n) below =
    among_later (chunk_at all n) first all (among-chunk_at all n (omega (arith, below)))

-- what is among chunks differs from what is not
differs : (chunks : List (List ℕ)) (c first : List ℕ) →
    is_among chunks c ≡ true → is_among chunks first ≡ false → bytes_eq c first ≡ false
differs chunks c first among alone = elim (cases_Bool (bytes_eq c first)) [
  | inl same ↦
      let equal : c ≡ first = (bytes_eq-Decides c first).0 same in
      let clash : true ≡ false = sym among ∙ ap (is_among chunks) equal ∙ alone in absurd cc
  | inr other ↦ other
]

-- if the chunks are different, the first index of chunk n is n
first_index-chunk_at : (all : List (List ℕ)) (n : ℕ) → AreDifferent all → n < length all →
    first_index all (chunk_at all n) ≡ n
first_index-chunk_at [] n different below = absurd omega (arith, below)
first_index-chunk_at (first ∷ all) zero different below = rw ((bytes_eq-Decides first first).1 refl) refl
first_index-chunk_at (first ∷ all) (suc n) different below =
    let within : n < length all = omega (arith, below) in
    let later = first_index-chunk_at all n different.1 within in
    let other = differs all (chunk_at all n) first (among-chunk_at all n within) different.0 in
    rw other (omega (arith, later))

-- ---- recipes in order

-- no more chunks occurred before a recipe than after it
pub in_order-limit : (known total : ℕ) (recipe : List ℕ) → IsInOrder known recipe total → known ≤ total
in_order-limit known total [] order = omega (arith, order)
in_order-limit known total (n ∷ recipe) (inl old) = in_order-limit known total recipe old.1
in_order-limit known total (n ∷ recipe) (inr new) =
    let limit = in_order-limit (known + 1) total recipe new.1 in omega (arith, limit)

-- the chunks that a recipe names have the numbers of the recipe
pub recipe-names : (all : List (List ℕ)) (k : ℕ) (recipe : List ℕ) →
    AreDifferent all → IsInOrder k recipe (length all) →
    map (first_index all) (map (chunk_at all) recipe) ≡ recipe
recipe-names all k [] different order = refl
recipe-names all k (n ∷ recipe) different (inl old) =
    let limit = in_order-limit k (length all) recipe old.1 in
    rw (first_index-chunk_at all n different (omega (arith, old.0, limit)))
    (ap (λ ns. n ∷ ns) (recipe-names all k recipe different old.1))
recipe-names all k (n ∷ recipe) different (inr new) =
    let limit = in_order-limit (k + 1) (length all) recipe new.1 in
    rw (first_index-chunk_at all n different (omega (arith, new.0, limit)))
    (ap (λ ns. n ∷ ns) (recipe-names all (k + 1) recipe different new.1))

-- what is not among others stays not among them if a chunk is left out that is among them
not_among-left_out : (before : List (List ℕ)) (c : List ℕ) (chunks : List (List ℕ)) →
    is_among before c ≡ true → not_among before (not_among (c ∷ []) chunks) ≡ not_among before chunks
not_among-left_out before c [] known = refl
not_among-left_out before c (first ∷ chunks) known =
    let later = not_among-left_out before c chunks known in
    elim (cases_Bool (bytes_eq first c)) [
      | inl same ↦
          let equal : c ≡ first = sym ((bytes_eq-Decides first c).0 same) in
          rw (same, subst (λ d. is_among before d ≡ true) equal known) later
      | inr other ↦ elim (cases_Bool (is_among before first)) [
        | inl among ↦ rw (other, among) later
        | inr alone ↦ rw (other, alone) (ap (λ rest. first ∷ rest) later)
      ]
    ]

-- chunks that are among neither others nor one more are not among them together
not_among-one_more : (before : List (List ℕ)) (c : List ℕ) (chunks : List (List ℕ)) →
    not_among before (not_among (c ∷ []) chunks) ≡ not_among (before ++ c ∷ []) chunks
not_among-one_more before c [] = refl
not_among-one_more before c (first ∷ chunks) =
    let later = not_among-one_more before c chunks in
    let both = list_any-append (bytes_eq first) before (c ∷ []) in
    elim (cases_Bool (bytes_eq first c)) [
      | inl same ↦ elim (cases_Bool (is_among before first)) [
        | inl among ↦ rw (same, both, among) later
        | inr alone ↦ rw (same, both, alone, same) later
      ]
      | inr other ↦ elim (cases_Bool (is_among before first)) [
        | inl among ↦ rw (other, both, among) later
        | inr alone ↦ rw (other, both, alone, other) (ap (λ rest. first ∷ rest) later)
      ]
    ]

-- the chunk after others is none of them
next-alone : (before : List (List ℕ)) (c : List ℕ) (rest : List (List ℕ)) →
    AreDifferent (before ++ c ∷ rest) → is_among before c ≡ false
next-alone [] c rest different = refl
next-alone (first ∷ before) c rest different = elim (cases_Bool (bytes_eq c first)) [
  | inl same ↦
      let equal : c ≡ first = (bytes_eq-Decides c first).0 same in
      let all = before ++ c ∷ rest in
      let own = among_second c before (c ∷ rest) (among_own c rest) in
      let here : is_among all first ≡ true = subst (λ d. is_among all d ≡ true) equal own in
      let clash : true ≡ false = sym here ∙ different.0 in absurd cc
  | inr other ↦ rw other (next-alone before c rest different.1)
]

-- the chunk after others has their number
chunk_at-seam : (before : List (List ℕ)) (c : List ℕ) (rest : List (List ℕ)) →
    chunk_at (before ++ c ∷ rest) (length before) ≡ c
chunk_at-seam [] c rest = refl
chunk_at-seam (first ∷ before) c rest = chunk_at-seam before c rest

-- each of the first chunks is among them
among-front : (before rest : List (List ℕ)) (n : ℕ) → n < length before →
    is_among before (chunk_at (before ++ rest) n) ≡ true
among-front [] rest n below = absurd omega (arith, below)
among-front (first ∷ before) rest zero below = among_own first before
among-front (first ∷ before) rest (suc n) below =
    among_later (chunk_at (before ++ rest) n) first before (among-front before rest n (omega (arith, below)))

-- a recipe that names the chunks after `before` in order has these as its new ones
new_in_order : (all before rest : List (List ℕ)) (recipe : List ℕ) → AreDifferent all → all ≡ before ++ rest →
    IsInOrder (length before) recipe (length all) → new_chunks before (map (chunk_at all) recipe) ≡ rest
new_in_order all before [] [] different split order = refl
new_in_order all before (c ∷ rest) [] different split order =
    let sum = ap length split ∙ length-append before (c ∷ rest) in absurd omega (arith, sum, order)
new_in_order all before rest (n ∷ recipe) different split (inl old) =
    let front = among-front before rest n old.0 in
    let known = subst (λ a. is_among before (chunk_at a n) ≡ true) (sym split) front in
    let left_out = not_among-left_out before (chunk_at all n) (distinct (map (chunk_at all) recipe)) known in
    rw known (left_out ∙ new_in_order all before rest recipe different split old.1)
new_in_order all before [] (n ∷ recipe) different split (inr new) =
    let limit = in_order-limit (length before + 1) (length all) recipe new.1 in
    let sum = ap length split ∙ length-append before [] in absurd omega (arith, limit, sum)
new_in_order all before (c ∷ rest) (n ∷ recipe) different split (inr new) =
    let chunk : chunk_at all n ≡ c =
    ap (λ a. chunk_at a n) split ∙ ap (chunk_at (before ++ c ∷ rest)) new.0 ∙ chunk_at-seam before c rest in
    let alone = next-alone before c rest (subst AreDifferent split different) in
    let one_more : length (before ++ c ∷ []) ≡ length before + 1 = length-append before (c ∷ []) in
    let order = subst (λ k. IsInOrder k recipe (length all)) (sym one_more) new.1 in
    let moved = split ∙ sym (append_assoc before (c ∷ []) rest) in
    let later = new_in_order all (before ++ c ∷ []) rest recipe different moved order in
    ap (λ d. not_among before (d ∷ not_among (d ∷ []) (distinct (map (chunk_at all) recipe)))) chunk
    ∙ rw alone (ap (λ cs. c ∷ cs) (not_among-one_more before c (distinct (map (chunk_at all) recipe)) ∙ later))

-- the new chunks of a recipe in order are those from number k on
pub recipe-new_chunks : (all : List (List ℕ)) (k : ℕ) (recipe : List ℕ) →
    AreDifferent all → k ≤ length all → IsInOrder k recipe (length all) →
    new_chunks (take k all) (map (chunk_at all) recipe) ≡ drop k all
recipe-new_chunks all k recipe different within order =
    new_in_order all (take k all) (drop k all) recipe different (sym (take-append-drop k all))
    (subst (λ n. IsInOrder n recipe (length all)) (sym (length-take-le k all within)) order)

-- the entry of chunk n among the named chunks has its length
length_at-is : (name_of : List ℕ → List ℕ) (all : List (List ℕ)) (n : ℕ) →
    (slice_index_or (map (named name_of) all) n (record { length = 0; name = [] })).length
    ≡ length (chunk_at all n)
length_at-is name_of [] n = refl
length_at-is name_of (c ∷ all) zero = refl
length_at-is name_of (c ∷ all) (suc n) = length_at-is name_of all n

-- the bytes of the chunks that a recipe names are counted by their lengths
pub recipe-bytes : (name_of : List ℕ → List ℕ) (all : List (List ℕ)) (recipe : List ℕ) →
    length (concat (map (chunk_at all) recipe)) ≡ bytes_named (map (named name_of) all) recipe
recipe-bytes name_of all [] = refl
recipe-bytes name_of all (n ∷ recipe) =
    let length_of : ℕ → ℕ =
    λ k. (slice_index_or (map (named name_of) all) k (record { length = 0; name = [] })).length in
    length-append (chunk_at all n) (concat (map (chunk_at all) recipe))
    ∙ ap (λ k. k + length (concat (map (chunk_at all) recipe))) (sym (length_at-is name_of all n))
    ∙ ap (λ k. length_of n + k) (recipe-bytes name_of all recipe)
    ∙ sym (sum_by-cons length_of n recipe)

-- ---- the book of a state

module _ (name_of : List ℕ → List ℕ) (state : State) where
  -- the live session of a name has the same number in the book
  pub book-live_session : (name : List ℕ) →
      live_session (book_of_state name_of state).sessions name ≡ live_session_named (sessions_in state) name
  book-live_session name =
      ap (λ sessions. live_session sessions name) (sessions-book name_of state)
      ∙ live_session-book name_of (stored_chunks state) [] (sessions_in state) name

  -- the book has as many sessions as the state, dropped ones too
  pub book-session_count : length (book_of_state name_of state).sessions ≡ length (sessions_in state)
  book-session_count =
      ap length (sessions-book name_of state) ∙ length-book name_of (stored_chunks state) [] (sessions_in state)

  -- the book has as many places as the state
  pub book-place_count : places_in (book_of_state name_of state).sessions ≡ length (placed_chunks state.events)
  book-place_count =
      ap places_in (sessions-book name_of state)
      ∙ places-book name_of (stored_chunks state) [] (sessions_in state)
      ∙ ap length (session_chunks-fold state.events [])

  -- the chunks of the book are the stored ones, by length and name
  pub book-chunks : chunks_in (book_of_state name_of state).sessions ≡ map (named name_of) (stored_chunks state)
  book-chunks =
      ap chunks_in (sessions-book name_of state)
      ∙ chunks-book name_of (stored_chunks state) [] (sessions_in state)
      ∙ ap (λ chunks. map (named name_of) (distinct chunks)) (session_chunks-fold state.events [])

book_with : ℕ → List Session → ℕ → BookState
book_with max sessions used = record { sessions = sessions; used = used; max = max }

-- the book of records with one more is the book with one more record
pub book_after-one_more : (max : ℕ) (records : List Record) (entry : Record) →
    book_after max (records ++ entry ∷ []) ≡ with_record (book_after max records) entry
unfolding book_with
book_after-one_more max records entry =
    let used : length (book_of (records ++ entry ∷ [])) ≡ length (book_of records) + length (spelling_of entry) =
    ap length (flat_map-append spelling_of records (entry ∷ []))
    ∙ length-append (book_of records) (book_of (entry ∷ []))
    ∙ ap (λ bytes. length (book_of records) + length bytes) (append-nil (spelling_of entry)) in
    ap (λ sessions. book_with max sessions (length (book_of (records ++ entry ∷ []))))
    (fold-append followed_by [] records (entry ∷ []))
    ∙ ap (book_with max (followed_by (sessions_of records) entry)) used

-- ---- recipes over the chunks of a state

-- what is left without some chunks depends only on which these are
not_among-alike : (xs ys : List (List ℕ)) → ((c : List ℕ) → is_among xs c ≡ is_among ys c) →
    (chunks : List (List ℕ)) → not_among xs chunks ≡ not_among ys chunks
not_among-alike xs ys alike [] = refl
not_among-alike xs ys alike (chunk ∷ chunks) =
    let later = not_among-alike xs ys alike chunks in
    elim (cases_Bool (is_among ys chunk)) [
      | inl among ↦ rw (alike chunk, among) later
      | inr alone ↦ rw (alike chunk, alone) (ap (λ rest. chunk ∷ rest) later)
    ]

-- events that may all happen, and one that may follow them, may all happen
may-one_more : (events : List Event) (sessions : List StoredSession) (event : Event) →
    MayAllHappen sessions events → MayHappen (fold with_event sessions events) event →
    MayAllHappen sessions (events ++ event ∷ [])
may-one_more [] sessions event all may = (may, tt)
may-one_more (first ∷ events) sessions event all may =
    (all.0, may-one_more events (with_event sessions first) event all.1 may)

-- what holds of each session and of one more holds of all
all-one_more : (P : StoredSession → Type 0) (sessions : List StoredSession) (session : StoredSession) →
    All P sessions → P session → All P (sessions ++ session ∷ [])
all-one_more P sessions session all one =
    All-append P sessions (session ∷ []) all (All-from_recursion P (session ∷ []) (one, tt))

-- the record of an ingest of these chunks, of which `new` are new
abbrev pub ingest_of : (List ℕ → List ℕ) → List ℕ → List (List ℕ) → List (List ℕ) → List ℕ → Record
ingest_of name_of name chunks new recipe = Ingest (record {
  name = name;
  length = length (concat chunks);
  fresh = map (named name_of) new;
  recipe = recipe;
})

module _ (state : State) (offered chunks : List (List ℕ)) (recipe : List ℕ)
    (different : AreDifferent (stored_chunks state ++ offered))
    (order : IsInOrder (length (stored_chunks state)) recipe (length (stored_chunks state ++ offered)))
    (named_so : chunks ≡ map (chunk_at (stored_chunks state ++ offered)) recipe) where
  -- the new chunks of the recipe are the offered ones
  pub ingest-new_chunks : new_chunks (placed_chunks state.events) chunks ≡ offered
  ingest-new_chunks =
      not_among-alike (placed_chunks state.events) (stored_chunks state)
      (λ c. sym (is_among-distinct (placed_chunks state.events) c)) (distinct chunks)
      ∙ ap (new_chunks (stored_chunks state)) named_so
      ∙ new_in_order (stored_chunks state ++ offered) (stored_chunks state) offered recipe different refl order

  -- they are stored after those of the state
  pub ingest-stored_chunks : (name : List ℕ) →
      stored_chunks (followed_by_event state (ingested name chunks)) ≡ stored_chunks state ++ offered
  ingest-stored_chunks name =
      stored_chunks-followed state (ingested name chunks)
      ∙ ap (λ cs. stored_chunks state ++ new_chunks (placed_chunks state.events) cs) (append-nil chunks)
      ∙ ap (λ cs. stored_chunks state ++ cs) ingest-new_chunks

  -- the numbers of the chunks are the recipe
  pub ingest-recipe : map (first_index (stored_chunks state ++ offered)) chunks ≡ recipe
  ingest-recipe =
      ap (map (first_index (stored_chunks state ++ offered))) named_so
      ∙ recipe-names (stored_chunks state ++ offered) (length (stored_chunks state)) recipe different order

  -- the record of the ingest comes after those of the state
  pub ingest-records : (name_of : List ℕ → List ℕ) (name : List ℕ) →
      records_of name_of (followed_by_event state (ingested name chunks))
      ≡ records_of name_of state ++ ingest_of name_of name chunks offered recipe ∷ []
  ingest-records name_of name =
      let all = stored_chunks state ++ offered in
      let placed = placed_chunks state.events in
      let records = records_of name_of state in
      records_of-followed name_of state (ingested name chunks)
      ∙ ap (λ stored. records ++ Ingest (ingest_record name_of stored placed name chunks) ∷ [])
      (ingest-stored_chunks name)
      ∙ ap (λ new. records ++ ingest_of name_of name chunks new (map (first_index all) chunks) ∷ [])
      ingest-new_chunks
      ∙ ap (λ ns. records ++ ingest_of name_of name chunks offered ns ∷ []) ingest-recipe

  -- the bytes of the chunks are those that the recipe names
  pub ingest-bytes : (name_of : List ℕ → List ℕ) →
      length (concat chunks) ≡ bytes_named (map (named name_of) (stored_chunks state ++ offered)) recipe
  ingest-bytes name_of =
      ap (λ cs. length (concat cs)) named_so ∙ recipe-bytes name_of (stored_chunks state ++ offered) recipe

  -- the book of the new state is that of the old one with this record
  pub ingest-book : (name_of : List ℕ → List ℕ) (name : List ℕ) →
      book_of_state name_of (followed_by_event state (ingested name chunks))
      ≡ with_record (book_of_state name_of state) (ingest_of name_of name chunks offered recipe)
  ingest-book name_of name =
      ap (book_after state.params.max) (ingest-records name_of name)
      ∙ book_after-one_more state.params.max (records_of name_of state)
      (ingest_of name_of name chunks offered recipe)

  -- the state with one more ingest is lawful
  pub ingest-lawful : (name : List ℕ) →
      IsLawful state → IsName name → live_session_named (sessions_in state) name ≡ None →
      IsCutting state.params chunks → length (concat chunks) < 2 ^ 32 → length (sessions_in state) < MAX_SESSIONS →
      length (placed_chunks state.events) + length chunks ≤ MAX_PLACES →
      length (stored_chunks state ++ offered) ≤ MAX_CHUNKS →
      IsLawful (followed_by_event state (ingested name chunks))
  ingest-lawful name lawful is_name free cut few_bytes few_sessions few_places few_chunks =
      let event = ingested name chunks in
      let session : StoredSession = record { name = name; chunks = chunks; live = true } in
      let sessions : sessions_after (state.events ++ event ∷ []) ≡ sessions_in state ++ session ∷ [] =
      fold-append with_event [] state.events (event ∷ []) in
      let session_count = ap length sessions ∙ length-append (sessions_in state) (session ∷ []) in
      let places : placed_chunks (state.events ++ event ∷ []) ≡ placed_chunks state.events ++ chunks =
      placed_chunks-append state.events (event ∷ [])
      ∙ ap (λ own. placed_chunks state.events ++ own) (append-nil chunks) in
      let place_count = ap length places ∙ length-append (placed_chunks state.events) chunks in
      let chunk_count = ap length (ingest-stored_chunks name) in
      record {
        params = lawful.params;
        generation = lawful.generation;
        events = may-one_more state.events [] event lawful.events (is_name, free);
        cut = subst (All (λ s. IsCutting state.params s.chunks)) (sym sessions)
            (all-one_more (λ s. IsCutting state.params s.chunks) (sessions_in state) session lawful.cut cut);
        bytes = subst (All (λ s. length (bytes_of_session s) < 2 ^ 32)) (sym sessions)
            (all-one_more (λ s. length (bytes_of_session s) < 2 ^ 32) (sessions_in state) session
            lawful.bytes few_bytes);
        sessions = omega (arith, session_count, few_sessions);
        places = omega (arith, place_count, few_places);
        chunks = omega (arith, chunk_count, few_chunks);
      }
