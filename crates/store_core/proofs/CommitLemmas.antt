-- What a commit makes of the state that the files of a store hold, and of the store.
use Rattle.std.proofs.Common.{◌≡◌, inl, inr, ℕ, ◌+◌, ◌^◌, ◌<◌, ◌≤◌, Bool, true, false, arith, List, [], ◌∷◌, ◌++◌, length, map, refl, ap, sym, subst, ◌∙◌}
use Rattle.std.specs.Prelude.{◌⊎◌, Err, IfSome, Ok, OnErr, is_ok, OnOk, Option, Result, Some, None, if◌then◌else◌, is_some, nat_le, nat_lt}
use Rattle.std.specs.List.{concat}
use Rattle.std.proofs.lemmas.Bool.{leb-false}
use Rattle.std.proofs.lemmas.List.{length-map, map-append}
use Rattle.sd_base.specs.Books.{BookState, bytes_named, chunks_in, live_session, places_in}
use Rattle.sd_base.specs.Names.{IsName}
use Rattle.sd_base.specs.Opening.{Opened}
use Rattle.sd_base.specs.Records.{IsIngest, spelling_of}
use Rattle.sd_base.specs.StateBooks.{book_of_state}
use Rattle.sd_base.specs.StateLaws.{chunk_at}
use Rattle.sd_base.specs.States.{Event, ingested, IsCutting, State, live_session_named, placed_chunks, sessions_in, stored_chunks}
use Rattle.sd_base.specs.Stores.{named, HoldState, IsCommittedAlone, records_of}
use Rattle.sd_base.specs.declared.file.File.{File}
use Rattle.sd_base.specs.declared.limits.TheConstants.{MAX_CHUNKS, MAX_PLACES, MAX_SESSIONS}
use Rattle.sd_base.specs.declared.record.IngestRecord.{IngestRecord}
use Rattle.sd_base.specs.declared.record.NewChunk.{NewChunk}
use Rattle.sd_base.specs.declared.record.Record.{Record}
use Rattle.sd_base.specs.declared.record.Record.TheVariants.{Ingest}
use Rattle.store_core.specs.CleanFiles.{AreCleanWith}
use Rattle.store_core.specs.Commits.{CommitsIngest, CommitsNothing, CommitsRecord, committed_state, committed_store, early_refusal, recipe_chunks, session_record}
use Rattle.store_core.specs.Recipes.{IsInOrder}
use Rattle.store_core.specs.StoreStates.{StandsFor, StoreState, chunks_of_store}
use Rattle.store_core.specs.declared.fault.StoreFault.{StoreFault}
use Rattle.store_core.specs.declared.fault.StoreFault.TheVariants.{NameTaken, TooManyPlaces, TooManySessions}
use Rattle.store_core.proofs.RecordLemmas.{Bytes, entry-alone, entry-held, entry-stands, nothing-held}
use Rattle.store_core.proofs.IngestLemmas.{book-chunks, book-live_session, book-place_count, book-session_count, ingest-lawful, ingest-records, ingest-stored_chunks, recipe-bytes}

-- ---- what a store says of its state

-- the record of a session with the offered chunks as its new ones
abbrev pub entry_of : (List ℕ → List ℕ) → List (List ℕ) → List ℕ → List ℕ → ℕ → IngestRecord
entry_of name_of offered recipe name size =
    record { name = name; length = size; fresh = map (named name_of) offered; recipe = recipe }

module _ (name_of : List ℕ → List ℕ) (store : StoreState) (files : Bytes) (state : State)
    (offered : List (List ℕ)) (stands : StandsFor name_of store files state offered) where
  -- the chunks of the store are the stored ones and those offered, by length and name
  chunks-named : chunks_of_store store ≡ map (named name_of) (stored_chunks state ++ offered)
  chunks-named =
      ap (λ opened. chunks_in opened.book.sessions ++ store.offered) stands.opened
      ∙ ap (λ chunks. chunks ++ store.offered) (book-chunks name_of state)
      ∙ ap (λ chunks. map (named name_of) (stored_chunks state) ++ chunks) stands.offers
      ∙ sym (map-append (named name_of) (stored_chunks state) offered)

  -- the bytes that a recipe names in the store are those of its chunks
  pub named-bytes : (recipe : List ℕ) (size : ℕ) → bytes_named (chunks_of_store store) recipe ≡ size →
      size ≡ length (concat (recipe_chunks state offered recipe))
  named-bytes recipe size sum =
      sym sum ∙ ap (λ chunks. bytes_named chunks recipe) chunks-named
      ∙ sym (recipe-bytes name_of (stored_chunks state ++ offered) recipe)

  -- the record that is committed has the offered chunks as its new ones
  pub session_record-is : (recipe name : List ℕ) (size : ℕ) →
      session_record store name size recipe ≡ entry_of name_of offered recipe name size
  session_record-is recipe name size =
      ap (λ (fresh : List NewChunk). let entry : IngestRecord =
      record { name = name; length = size; fresh = fresh; recipe = recipe } in entry) stands.offers

-- ---- what is not refused

-- a state has room for a session of this name and so many places, except that nothing is said of
-- its chunks
pub record HasRoomFor (state : State) (name : List ℕ) (places : ℕ) : Type 0 where
  pub free : live_session_named (sessions_in state) name ≡ None
  pub few_sessions : length (sessions_in state) < MAX_SESSIONS
  pub few_places : length (placed_chunks state.events) + places ≤ MAX_PLACES

-- if none of three tests refuses, each of them is false
all_false : (a b c : Bool) (x y z : StoreFault) →
    (if a then Some x else if b then Some y else if c then Some z else None) ≡ None →
    (a ≡ false) × ((b ≡ false) × (c ≡ false))
all_false true b c x y z none = absurd cc
all_false false true c x y z none = absurd cc
all_false false false true x y z none = absurd cc
all_false false false false x y z none = (refl, (refl, refl))

-- what was not found is nothing
none-is : (found : Option ℕ) → is_some found ≡ false → found ≡ None
none-is None same = refl
none-is (Some k) same = absurd cc

-- a book has room for a session of this name and so many places, except that nothing is said of its
-- chunks
pub record HasRoomIn (book : BookState) (name : List ℕ) (places : ℕ) : Type 0 where
  pub free : live_session book.sessions name ≡ None
  pub few_sessions : length book.sessions < MAX_SESSIONS
  pub few_places : places_in book.sessions + places ≤ MAX_PLACES

-- if no refusal comes before the writes, there is room
pub room-in : (book : BookState) (name : List ℕ) (places : ℕ) → early_refusal book name places ≡ None →
    HasRoomIn book name places
room-in book name places none =
    let tests = all_false (is_some (live_session book.sessions name))
    (nat_le MAX_SESSIONS (length book.sessions))
    (nat_lt MAX_PLACES (places_in book.sessions + places)) NameTaken TooManySessions TooManyPlaces none in
    let few_places : places_in book.sessions + places < MAX_PLACES + 1 =
    leb-false (MAX_PLACES + 1) (places_in book.sessions + places) tests.1.1 in
    record {
      free = none-is (live_session book.sessions name) tests.0;
      few_sessions = leb-false MAX_SESSIONS (length book.sessions) tests.1.0;
      few_places = omega (arith, few_places);
    }

-- and so there is in the state
pub refused-not : (name_of : List ℕ → List ℕ) (store : StoreState) (files : Bytes) (state : State)
    (offered : List (List ℕ)) → StandsFor name_of store files state offered → (name : List ℕ) (places : ℕ) →
    early_refusal store.opened.book name places ≡ None → HasRoomFor state name places
refused-not name_of store files state offered stands name places none =
    let book = book_of_state name_of state in
    let room = room-in book name places
    (ap (λ opened. early_refusal opened.book name places) (sym stands.opened) ∙ none) in
    let sessions = book-session_count name_of state in
    let place_count = book-place_count name_of state in
    record {
      free = sym (book-live_session name_of state name) ∙ room.free;
      few_sessions = omega (arith, sessions, room.few_sessions);
      few_places = omega (arith, place_count, room.few_places);
    }

-- ---- a commit

module _ (name_of : List ℕ → List ℕ) (store : StoreState) (before after : Bytes) (state : State)
    (offered : List (List ℕ)) (recipe name : List ℕ) (size : ℕ)
    (stands : StandsFor name_of store before state offered)
    (order : IsInOrder (length (stored_chunks state)) recipe (length (stored_chunks state ++ offered)))
    (sum : size ≡ length (concat (recipe_chunks state offered recipe))) where
  abbrev entry : Record
  entry = Ingest (entry_of name_of offered recipe name size)

  abbrev event : Event
  event = ingested name (recipe_chunks state offered recipe)

  -- the files change as a commit of this session changes them
  abbrev pub CommitsSession : Type 0
  CommitsSession =
      CommitsRecord state.generation (book_of_state name_of state).used (spelling_of entry) (Some before) (Some after)

  -- the stored chunks are the old ones and those offered
  committed-chunks : stored_chunks (committed_state state offered name recipe) ≡ stored_chunks state ++ offered
  committed-chunks =
      let chunks = recipe_chunks state offered recipe in
      ingest-stored_chunks state offered chunks recipe stands.different order refl name

  -- the record comes after those of the state
  committed-records : records_of name_of (committed_state state offered name recipe) ≡ records_of name_of state ++ entry ∷ []
  committed-records =
      let old = records_of name_of state in
      let chunks = recipe_chunks state offered recipe in
      let entry_for : ℕ → Record = λ n. Ingest (entry_of name_of offered recipe name n) in
      ingest-records state offered chunks recipe stands.different order refl name_of name
      ∙ ap (λ n. old ++ entry_for n ∷ []) (sym sum)

  -- the files hold the new state
  pub committed-held : CommitsSession → HoldState name_of after (committed_state state offered name recipe)
  committed-held done =
      entry-held name_of store before after state offered stands event entry committed-records committed-chunks done

  -- if they had nothing else before, they have nothing else
  pub committed-alone : CommitsSession → AreCleanWith name_of before state offered → (file : File) →
      IsCommittedAlone name_of (committed_state state offered name recipe) file (after file)
  committed-alone done =
      entry-alone name_of store before after state offered stands event entry committed-records committed-chunks done

  -- the store stands for the new state, with nothing offered
  pub committed-stands :
      IsName name → HasRoomFor state name (length recipe) →
      IsCutting state.params (recipe_chunks state offered recipe) → size < 2 ^ 32 →
      length (stored_chunks state ++ offered) ≤ MAX_CHUNKS →
      CommitsSession →
      StandsFor name_of (committed_store store (entry_of name_of offered recipe name size)) after
      (committed_state state offered name recipe) []
  committed-stands is_name room cut few_bytes few_chunks done =
      let chunks = recipe_chunks state offered recipe in
      let places = length-map recipe (chunk_at (stored_chunks state ++ offered)) in
      entry-stands name_of store before after state offered stands event entry committed-records committed-chunks done
      (ingest-lawful state offered chunks recipe stands.different order refl name stands.lawful
      is_name room.free cut (subst (λ n. n < 2 ^ 32) sum few_bytes) room.few_sessions
      (subst (λ n. length (placed_chunks state.events) + n ≤ MAX_PLACES) (sym places) room.few_places)
      few_chunks)

-- ---- what a commit leaves

-- a commit of a store that stands for a state
module _ (name_of : List ℕ → List ℕ) (store : StoreState) (before after : Bytes) (state : State)
    (offered : List (List ℕ)) (stands : StandsFor name_of store before state offered)
    (recipe name : List ℕ) (size : ℕ) where
  -- the recipe names the state's chunks in order
  pub in-order : IsInOrder (length (chunks_in store.opened.book.sessions)) recipe (length (chunks_of_store store)) →
      IsInOrder (length (stored_chunks state)) recipe (length (stored_chunks state ++ offered))
  in-order order =
      let stored = stored_chunks state in
      let known : length (chunks_in store.opened.book.sessions) ≡ length stored =
      ap (λ opened. length (chunks_in opened.book.sessions)) stands.opened
      ∙ ap length (book-chunks name_of state) ∙ length-map stored (named name_of) in
      subst (λ n. IsInOrder n recipe (length (stored ++ offered))) known
      (subst (λ n. IsInOrder (length (chunks_in store.opened.book.sessions)) recipe n)
      (ap length (chunks-named name_of store before state offered stands)
      ∙ length-map (stored ++ offered) (named name_of)) order)

  -- the files change as its state says
  pub ingest-done : CommitsIngest store (session_record store name size recipe) (Some before) (Some after) →
      CommitsRecord state.generation (book_of_state name_of state).used
      (spelling_of (Ingest (entry_of name_of offered recipe name size))) (Some before) (Some after)
  ingest-done done =
      let bytes = spelling_of (Ingest (entry_of name_of offered recipe name size)) in
      subst (λ (opened : Opened).
      CommitsRecord opened.head.generation opened.book.used bytes (Some before) (Some after)) stands.opened
      (subst (λ (entry : IngestRecord). CommitsIngest store entry (Some before) (Some after))
      (session_record-is name_of store before state offered stands recipe name size) done)

  nothing-done : CommitsNothing store.opened.head.generation store.opened.book.used (Some before) (Some after) →
      CommitsNothing state.generation (book_of_state name_of state).used (Some before) (Some after)
  nothing-done done =
      subst (λ (opened : Opened).
      CommitsNothing opened.head.generation opened.book.used (Some before) (Some after)) stands.opened done

-- a store that stood for a state stands for the state with the session, or its files hold one of the
-- two states
pub commit-stands : (name_of : List ℕ → List ℕ) (store new : StoreState) (before after : Option Bytes)
    (recipe name : List ℕ) (size : ℕ) (result : Result ℕ StoreFault) →
    early_refusal store.opened.book name (length recipe) ≡ None →
    IsInOrder (length (chunks_in store.opened.book.sessions)) recipe (length (chunks_of_store store)) →
    bytes_named (chunks_of_store store) recipe ≡ size → length (chunks_of_store store) ≤ MAX_CHUNKS →
    OnOk result (CommitsIngest store (session_record store name size recipe) before after) →
    OnOk result (IsIngest (session_record store name size recipe)) →
    OnErr result (CommitsNothing store.opened.head.generation store.opened.book.used before after
    ⊎ CommitsIngest store (session_record store name size recipe) before after) →
    OnOk result (new ≡ committed_store store (session_record store name size recipe)) →
    (state : State) (offered : List (List ℕ)) → IfSome before (λ had. StandsFor name_of store had state offered →
    IsCutting state.params (recipe_chunks state offered recipe) → IfSome after (λ has.
    OnOk result (StandsFor name_of new has (committed_state state offered name recipe) [])
    × OnErr result (HoldState name_of has state
    ⊎ HoldState name_of has (committed_state state offered name recipe))))
commit-stands name_of store new None after recipe name size result none order sum few done lawful failed is state offered = tt
commit-stands name_of store new (Some had) None recipe name size result none order sum few done lawful failed is state offered =
    λ stands cut. tt
commit-stands name_of store new (Some had) (Some has) recipe name size (Ok k) none order sum few done lawful failed is state offered =
    λ stands cut.
    let known = in-order name_of store had has state offered stands recipe name size order in
    let total = named-bytes name_of store had state offered stands recipe size sum in
    let entry = session_record-is name_of store had state offered stands recipe name size in
    let count = ap length (chunks-named name_of store had state offered stands)
    ∙ length-map (stored_chunks state ++ offered) (named name_of) in
    let room = refused-not name_of store had state offered stands name (length recipe) none in (
      subst (λ (s : StoreState). StandsFor name_of s has (committed_state state offered name recipe) [])
          (sym (is ∙ ap (committed_store store) entry))
          (committed-stands name_of store had has state offered recipe name size stands known total
          lawful.name room cut lawful.size (omega (arith, few, count))
          (ingest-done name_of store had has state offered stands recipe name size done)),
      tt,
    )
commit-stands name_of store new (Some had) (Some has) recipe name size (Err fault) none order sum few done lawful failed is state offered =
    λ stands cut.
    let known = in-order name_of store had has state offered stands recipe name size order in
    let total = named-bytes name_of store had state offered stands recipe size sum in (
      tt,
      elim failed [
        | inl nothing ↦ inl (nothing-held name_of had has state stands.held
            (nothing-done name_of store had has state offered stands recipe name size nothing))
        | inr some ↦ inr (committed-held name_of store had has state offered recipe name size stands known total
            (ingest-done name_of store had has state offered stands recipe name size some))
      ],
    )

-- the store as a commit leaves it is sound exactly if the commit was
pub committed-sound : (store old now : StoreState) (own : IngestRecord) (result : Result ℕ StoreFault) (sound : Bool) →
    now ≡ store → OnOk result (store ≡ committed_store old own) → sound ≡ is_ok result →
    OnOk result (record now { sound = sound } ≡ committed_store old own)
committed-sound store old now own (Ok k) sound same is tells =
    ap (λ (s : StoreState). let marked : StoreState = record s { sound = sound } in marked) (same ∙ is)
    ∙ ap (λ b. let marked : StoreState = record (committed_store old own) { sound = b } in marked) tells
committed-sound store old now own (Err fault) sound same is tells = tt
