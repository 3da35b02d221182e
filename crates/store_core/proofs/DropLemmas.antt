-- What a drop makes of the state that the files of a store hold, and of the store.
use Rattle.std.proofs.Common.{◌≡◌, inl, inr, ℕ, zero, suc, ◌<◌, Bool, true, false, List, [], ◌∷◌, ◌++◌, length, refl, ap, sym, subst, ◌∙◌, arith, append-nil}
use Rattle.std.specs.Prelude.{◌⊎◌, ◌&&◌, Err, IfOk, IfSome, IsTrue, None, Ok, OnErr, OnOk, Option, Result, Some, is_ok, option_map, slice_index_or, unwrap_or}
use Rattle.std.specs.List.{slice_get}
use Rattle.std.specs.Str.{bytes_eq}
use Rattle.std.proofs.lemmas.Bool.{and_parts}
use Rattle.std.proofs.lemmas.List.{length-map}
use Rattle.std.proofs.lemmas.List.Quantifiers.{position-Some}
use Rattle.container_pack.specs.Packer.{IsBehind, generation_of}
use Rattle.container_pack.specs.declared.packer.Packer.{Packer}
use Rattle.container_pack.specs.declared.spot.Spot.{Spot}
use Rattle.sd_base.specs.Books.{chunks_in, is_live, live_session, without}
use Rattle.sd_base.specs.Distinct.{distinct, first_index}
use Rattle.sd_base.specs.Opening.{Opened}
use Rattle.sd_base.specs.Records.{spelling_of}
use Rattle.sd_base.specs.References.{references_in_book, references_in_state}
use Rattle.sd_base.specs.StateBooks.{book_of_state, book_sessions}
use Rattle.sd_base.specs.States.{State, StoredSession, dropped, is_live_in, live_session_named, places_of_number, sessions_in, stored_chunks}
use Rattle.sd_base.specs.Stores.{HoldState, HoldStateAlone, records_of}
use Rattle.sd_base.specs.declared.record.Record.TheVariants.{Drop}
use Rattle.sd_base.specs.declared.record.NewChunk.{NewChunk}
use Rattle.sd_base.specs.declared.record.Session.{Session}
use Rattle.sd_base.proofs.HeldStates.{sessions-book}
use Rattle.sd_base.proofs.Passes.{found-live, lawful-dropped, placed-dropped}
use Rattle.sd_base.proofs.References.{references-book}
use Rattle.sd_base.proofs.States.{records_of-followed}
use Rattle.session_book.proofs.Adding.{drop_leaves}
use Rattle.store_core.specs.Commits.{CommitsNothing, CommitsRecord}
use Rattle.store_core.specs.Counting.{recipe_at}
use Rattle.store_core.specs.Drops.{CommitsDrop, dropped_state, dropped_store}
use Rattle.store_core.specs.Restores.{recipe_named}
use Rattle.store_core.specs.StoreFields.{ArePlaced, lengths_of}
use Rattle.store_core.specs.StoreStates.{StandsFor, StoreState}
use Rattle.store_core.specs.declared.fault.StoreFault.{StoreFault}
use Rattle.store_core.specs.declared.name_index.NameIndex.{NameIndex}
use Rattle.store_core.proofs.CleanCommits.{clean-with-none}
use Rattle.store_core.proofs.IngestLemmas.{book-live_session}
use Rattle.store_core.proofs.RecordLemmas.{Bytes, entry-alone, entry-held, entry-stands, nothing-held}
use Rattle.store_core.proofs.RestoreLemmas.{recipe_in}

-- ---- the session that is dropped

live-there : (sessions : List Session) (k : ℕ) (none : Session) → k < length sessions →
    (slice_index_or sessions k none).live ≡ true → is_live sessions k ≡ true
live-there [] k none within live = absurd (omega (arith, within))
live-there (s ∷ sessions) zero none within live = live
live-there (s ∷ sessions) (suc k) none within live = live-there sessions k none (omega (arith, within)) live

-- a session that was found by its name is live
pub found-is_live : (sessions : List Session) (name : List ℕ) (k : ℕ) → live_session sessions name ≡ Some k →
    IsTrue (is_live sessions k)
found-is_live sessions name k found =
    let none : Session = record { entry = record { name = []; length = 0; fresh = []; recipe = [] }; live = false } in
    let first = position-Some (λ (s : Session). s.live && bytes_eq s.entry.name name) sessions k none found in
    let own = slice_index_or sessions k none in
    live-there sessions k none first.0 (and_parts own.live (bytes_eq own.entry.name name) first.1).0

-- ---- a drop of a session of a state

module _ (name_of : List ℕ → List ℕ) (store : StoreState) (before after : Bytes) (state : State) (k : ℕ)
    (stands : StandsFor name_of store before state [])
    (done : CommitsDrop store k (Some before) (Some after)) where
  -- the record comes after those of the state
  dropped-records : records_of name_of (dropped_state state k) ≡ records_of name_of state ++ Drop k ∷ []
  dropped-records = records_of-followed name_of state (dropped k)

  -- the stored chunks are as before
  dropped-chunks : stored_chunks (dropped_state state k) ≡ stored_chunks state ++ []
  dropped-chunks = ap distinct (placed-dropped state k) ∙ sym (append-nil (stored_chunks state))

  drop-done : CommitsRecord state.generation (book_of_state name_of state).used (spelling_of (Drop k)) (Some before) (Some after)
  drop-done =
      subst (λ (opened : Opened).
      CommitsRecord opened.head.generation opened.book.used (spelling_of (Drop k)) (Some before) (Some after)) stands.opened
      done

  dropped-held : HoldState name_of after (dropped_state state k)
  dropped-held =
      entry-held name_of store before after state [] stands (dropped k) (Drop k) dropped-records dropped-chunks drop-done

  dropped-stands : is_live_in (sessions_in state) k ≡ true →
      StandsFor name_of (dropped_store store k) after (dropped_state state k) []
  dropped-stands live =
      entry-stands name_of store before after state [] stands (dropped k) (Drop k) dropped-records dropped-chunks drop-done
      (lawful-dropped state k stands.lawful live)

  dropped-alone : HoldStateAlone name_of before state → HoldStateAlone name_of after (dropped_state state k)
  dropped-alone clean = record {
    holds = dropped-held;
    alone = entry-alone name_of store before after state [] stands (dropped k) (Drop k) dropped-records dropped-chunks
        drop-done (clean-with-none name_of before state clean);
  }

-- the live session of a name in a state is live
live-in : (state : State) (name : List ℕ) (k : ℕ) → live_session_named (sessions_in state) name ≡ Some k →
    is_live_in (sessions_in state) k ≡ true
live-in state name k found =
    subst (λ (session : Option ℕ). IfSome session (λ j. is_live_in (sessions_in state) j ≡ true)) found
    (found-live (sessions_in state) name)

-- the session that was found in the book of a store is the one of the state
found-same : (name_of : List ℕ → List ℕ) (store : StoreState) (files : Bytes) (state : State) →
    StandsFor name_of store files state [] → (name : List ℕ) (found session : ℕ) →
    live_session store.opened.book.sessions name ≡ Some found →
    live_session_named (sessions_in state) name ≡ Some session → found ≡ session
found-same name_of store files state stands name found session there is =
    let same : Some found ≡ Some session =
    sym there ∙ ap (λ (o : Opened). live_session o.book.sessions name) stands.opened
    ∙ book-live_session name_of state name ∙ is in cc

module _ (name_of : List ℕ → List ℕ) (store : StoreState) (name : List ℕ) (found : ℕ)
    (there : live_session store.opened.book.sessions name ≡ Some found) (result : Result ℕ StoreFault)
    (before after : Option Bytes) (done : OnOk result (CommitsDrop store found before after)) where
  -- a store that stood for a state stands for the state with the drop, or its files hold one of the
  -- two states
  pub drop-stands : (new : StoreState) →
      OnErr result (CommitsNothing store.opened.head.generation store.opened.book.used before after
      ⊎ CommitsDrop store found before after) →
      OnOk result (new ≡ dropped_store store found) →
      (state : State) (session : ℕ) → IfSome before (λ had. StandsFor name_of store had state [] →
      live_session_named (sessions_in state) name ≡ Some session → IfSome after (λ has.
      OnOk result (StandsFor name_of new has (dropped_state state session) [])
      × OnErr result (HoldState name_of has state ⊎ HoldState name_of has (dropped_state state session))))
  drop-stands new failed is state session = both result before after done failed is where
    both : (r : Result ℕ StoreFault) (old now : Option Bytes) → OnOk r (CommitsDrop store found old now) →
        OnErr r (CommitsNothing store.opened.head.generation store.opened.book.used old now ⊎ CommitsDrop store found old now) →
        OnOk r (new ≡ dropped_store store found) →
        IfSome old (λ had. StandsFor name_of store had state [] →
        live_session_named (sessions_in state) name ≡ Some session → IfSome now (λ has.
        OnOk r (StandsFor name_of new has (dropped_state state session) [])
        × OnErr r (HoldState name_of has state ⊎ HoldState name_of has (dropped_state state session))))
    both r None now written other equal = tt
    both r (Some had) None written other equal = λ stands live. tt
    both (Ok n) (Some had) (Some has) written other equal = λ stands live.
        let same = found-same name_of store had state stands name found session there live in (
          subst (λ (s : StoreState). StandsFor name_of s has (dropped_state state session) [])
              (sym (equal ∙ ap (dropped_store store) same))
              (dropped-stands name_of store had has state session stands
              (subst (λ k. CommitsDrop store k (Some had) (Some has)) same written) (live-in state name session live)),
          tt,
        )
    both (Err fault) (Some had) (Some has) written other equal = λ stands live.
        let same = found-same name_of store had state stands name found session there live in (
          tt,
          elim other [
            | inl nothing ↦ inl (nothing-held name_of had has state stands.held
                (subst (λ (opened : Opened). CommitsNothing opened.head.generation opened.book.used (Some had) (Some has))
                stands.opened nothing))
            | inr some ↦ inr (dropped-held name_of store had has state session stands
                (subst (λ k. CommitsDrop store k (Some had) (Some has)) same some))
          ],
        )

  -- a store that stood for a state and had clean files has clean files after a drop
  pub drop-clean : (state : State) (session : ℕ) → IfSome before (λ had. StandsFor name_of store had state [] →
      live_session_named (sessions_in state) name ≡ Some session → HoldStateAlone name_of had state →
      OnOk result (IfSome after (λ has. HoldStateAlone name_of has (dropped_state state session))))
  drop-clean state session = both result before after done where
    both : (r : Result ℕ StoreFault) (old now : Option Bytes) → OnOk r (CommitsDrop store found old now) →
        IfSome old (λ had. StandsFor name_of store had state [] →
        live_session_named (sessions_in state) name ≡ Some session → HoldStateAlone name_of had state →
        OnOk r (IfSome now (λ has. HoldStateAlone name_of has (dropped_state state session))))
    both r None now written = tt
    both (Err fault) (Some had) now written = λ stands live clean. tt
    both (Ok n) (Some had) None written = λ stands live clean. tt
    both (Ok n) (Some had) (Some has) written = λ stands live clean.
        let same = found-same name_of store had state stands name found session there live in
        dropped-alone name_of store had has state session stands
        (subst (λ k. CommitsDrop store k (Some had) (Some has)) same written) clean

-- ---- how many places a drop has

-- the recipe of the live session of a name
pub named-at : (store : StoreState) (name : List ℕ) (k : ℕ) → live_session store.opened.book.sessions name ≡ Some k →
    recipe_named store name ≡ recipe_at store.opened.book.sessions k
named-at store name k found = ap (recipe_in store.opened.book.sessions) found

recipe-count : (name_of : List ℕ → List ℕ) (stored before : List (List ℕ)) (sessions : List StoredSession) (k : ℕ) →
    length (recipe_at (book_sessions name_of stored before sessions) k)
    ≡ unwrap_or (option_map (λ (s : StoredSession). length s.chunks) (slice_get sessions k)) 0
recipe-count name_of stored before [] k = refl
recipe-count name_of stored before (s ∷ sessions) zero = length-map s.chunks (first_index stored)
recipe-count name_of stored before (s ∷ sessions) (suc k) = recipe-count name_of stored (before ++ s.chunks) sessions k

-- a session of the book has as many places as that of the state
pub drop-places : (name_of : List ℕ → List ℕ) (store : StoreState) (name : List ℕ) (found : ℕ)
    (there : live_session store.opened.book.sessions name ≡ Some found) (told : Option Bytes) (result : Result ℕ StoreFault) →
    IfOk result (λ places. places ≡ length (recipe_at store.opened.book.sessions found)) →
    (state : State) (session : ℕ) → IfSome told (λ files. StandsFor name_of store files state [] →
    live_session_named (sessions_in state) name ≡ Some session →
    IfOk result (λ places. places ≡ places_of_number state session))
drop-places name_of store name found there None result counted state session = tt
drop-places name_of store name found there (Some files) (Err fault) counted state session = λ stands live. tt
drop-places name_of store name found there (Some files) (Ok places) counted state session = λ stands live.
    let same = found-same name_of store files state stands name found session there live in
    counted ∙ ap (λ k. length (recipe_at store.opened.book.sessions k)) same
    ∙ ap (λ (o : Opened). length (recipe_at o.book.sessions session)) stands.opened
    ∙ ap (λ sessions. length (recipe_at sessions session)) (sessions-book name_of state)
    ∙ recipe-count name_of (stored_chunks state) [] (sessions_in state) session

-- ---- a name that a live session has

-- a name that a live session of the book has is that of a live session of the state
pub some-live : (P : Type 0) (name_of : List ℕ → List ℕ) (store : StoreState) (name : List ℕ) (found : ℕ) (told : Option Bytes) →
    live_session store.opened.book.sessions name ≡ Some found →
    (state : State) → IfSome told (λ files. StandsFor name_of store files state [] →
    live_session_named (sessions_in state) name ≡ None → P)
some-live P name_of store name found None there state = tt
some-live P name_of store name found (Some files) there state = λ stands live.
    let clash : Some found ≡ None =
    sym there ∙ ap (λ (o : Opened). live_session o.book.sessions name) stands.opened
    ∙ book-live_session name_of state name ∙ live in absurd cc

-- ---- counts

-- the counts of the store are those of the state
pub stands-references : (name_of : List ℕ → List ℕ) (store : StoreState) (files : Bytes) (state : State)
    (offered : List (List ℕ)) → StandsFor name_of store files state offered → (i : ℕ) →
    references_in_book store.opened.book.sessions i ≡ references_in_state state i
stands-references name_of store files state offered stands i =
    ap (λ (o : Opened). references_in_book o.book.sessions i) stands.opened ∙ references-book name_of state i

-- ---- whether the store is sound

-- the store as a drop leaves it is sound exactly if the drop was
pub dropped-sound : (store old now : StoreState) (k : ℕ) (result : Result ℕ StoreFault) (sound : Bool) →
    now ≡ store → OnOk result (store ≡ dropped_store old k) → sound ≡ is_ok result →
    OnOk result (record now { sound = sound } ≡ dropped_store old k)
dropped-sound store old now k (Ok n) sound same is tells =
    ap (λ (s : StoreState). let marked : StoreState = record s { sound = sound } in marked) (same ∙ is)
    ∙ ap (λ b. let marked : StoreState = record (dropped_store old k) { sound = b } in marked) tells
dropped-sound store old now k (Err fault) sound same is tells = tt

-- ---- what the store keeps

-- the chunks lie as before when a session is dropped
pub placed-left : (sessions after : List Session) (k : ℕ) (offered : List NewChunk) (number : ℕ) (lie : List Spot)
    (packer next : Packer) (index : NameIndex) → IsTrue (is_live sessions k) → after ≡ without k sessions →
    ArePlaced (chunks_in sessions ++ offered) number lie packer index → generation_of next ≡ generation_of packer →
    ((lengths : List ℕ) → IsBehind packer lengths → IsBehind next lengths) →
    ArePlaced (chunks_in after ++ offered) number lie next index
placed-left sessions after k offered number lie packer next index live is placed of behind =
    let same : chunks_in sessions ++ offered ≡ chunks_in after ++ offered =
    ap (λ (chunks : List NewChunk). chunks ++ offered) (sym (drop_leaves sessions k live).chunks ∙ ap chunks_in (sym is)) in
    subst (λ (chunks : List NewChunk). ArePlaced chunks number lie next index) same (record {
      limit = placed.limit;
      bounded = placed.bounded;
      spots = placed.spots;
      generation = of ∙ placed.generation;
      behind = behind (lengths_of (chunks_in sessions ++ offered)) placed.behind;
      indexed = placed.indexed;
      covers = placed.covers;
    })
