-- What one more record makes of the state that the files of a store hold.
use Rattle.std.proofs.Common.{◌≡◌, ◌≢◌, inl, inr, ℕ, ◌+◌, ◌<◌, ◌==◌, true, List, [], ◌∷◌, ◌++◌, length, take, refl, ap, sym, subst, ◌∙◌, length-append, append-nil}
use Rattle.std.specs.Prelude.{Some, slice_index_or}
use Rattle.std.proofs.Math.Seq.{take-append_seam}
use Rattle.std.proofs.lemmas.Bool.{cases_Bool, eqb-false, eqb-true}
use Rattle.std.proofs.lemmas.Grind.{flat_map-append}
use Rattle.std.proofs.lemmas.List.{length-replicate}
use Rattle.sd_base.specs.Books.{BookState, book_after, book_of, with_record}
use Rattle.sd_base.specs.Distinct.{AreDifferent}
use Rattle.sd_base.specs.Opening.{HeadState, Opened}
use Rattle.sd_base.specs.Packing.{packing}
use Rattle.sd_base.specs.Records.{spelling_of}
use Rattle.sd_base.specs.StateBooks.{book_of_state}
use Rattle.sd_base.specs.States.{Event, IsLawful, State, followed_by_event, stored_chunks}
use Rattle.sd_base.specs.Stores.{HoldState, IsCommittedAlone, IsFrontOf, records_of}
use Rattle.sd_base.specs.declared.file.File.{File}
use Rattle.sd_base.specs.declared.file.File.TheVariants.{Book, Container, Head, Seal}
use Rattle.sd_base.specs.declared.limits.TheConstants.{COMMIT_BYTE, SETTINGS_LEN}
use Rattle.sd_base.specs.declared.record.Record.{Record}
use Rattle.store_core.specs.CleanFiles.{AreCleanWith}
use Rattle.store_core.specs.Commits.{CommitsNothing, CommitsRecord}
use Rattle.store_core.specs.StoreStates.{StandsFor, StoreState}
use Rattle.store_core.proofs.IngestLemmas.{book_after-one_more}
use Rattle.store_core.proofs.StoreLemmas.{held-is}

abbrev pub Bytes : Type 0
Bytes = File → List ℕ

-- ---- a commit that ended before its seal

-- the front of a file is what its first bytes are
front-is : (front tail had : List ℕ) → had ≡ front ++ tail → take (length front) had ≡ front
front-is front tail had split = ap (take (length front)) split ∙ take-append_seam front tail

-- if only the bytes after those of the book have changed, then the files hold the same state
pub nothing-held : (name_of : List ℕ → List ℕ) (before after : Bytes) (state : State) →
    HoldState name_of before state →
    CommitsNothing state.generation (book_of_state name_of state).used (Some before) (Some after) →
    HoldState name_of after state
nothing-held name_of before after state held done =
    let old = book_of (records_of name_of state) in
    let had = before (Book state.generation) in
    let head : after Head ≡ before Head = held-is (done.others Head (λ is. absurd cc)) in
    let seal : after (Seal state.generation) ≡ before (Seal state.generation) =
    held-is (done.others (Seal state.generation) (λ is. absurd cc)) in
    let book : after (Book state.generation) ≡ take (length old) had ++ done.book.0 = held-is done.book.1 in
    let front = front-is old held.book.0 had held.book.1 in
    record {
      settings = ap (take SETTINGS_LEN) head ∙ held.settings;
      generation = ap length head ∙ held.generation;
      seal = ap length seal ∙ held.seal;
      book = (done.book.0, book ∙ ap (λ bytes. bytes ++ done.book.0) front);
      containers = λ k within.
          let there = held.containers k within in
          (there.0, held-is (done.others (Container state.generation k) (λ is. absurd cc)) ∙ there.1);
    }

-- ---- a commit of a record

-- the store with one more record in its book, and nothing offered
abbrev pub recorded_store : StoreState → Record → StoreState
recorded_store store entry = record {
  opened = record store.opened { book = with_record store.opened.book entry };
  offered = [];
  sound = true;
}

-- the record of an event is committed to a store that stands for a state
module _ (name_of : List ℕ → List ℕ) (store : StoreState) (before after : Bytes) (state : State)
    (offered : List (List ℕ)) (stands : StandsFor name_of store before state offered) (event : Event) (entry : Record)
    (records : records_of name_of (followed_by_event state event) ≡ records_of name_of state ++ entry ∷ [])
    (stored : stored_chunks (followed_by_event state event) ≡ stored_chunks state ++ offered) where
  abbrev new : State
  new = followed_by_event state event

  -- the book of the new state
  entry-book : book_of_state name_of new ≡ with_record (book_of_state name_of state) entry
  entry-book =
      ap (book_after state.params.max) records
      ∙ book_after-one_more state.params.max (records_of name_of state) entry

  -- the record is the last of the book
  entry-bytes : book_of (records_of name_of new) ≡ book_of (records_of name_of state) ++ spelling_of entry
  entry-bytes =
      let old = records_of name_of state in
      ap book_of records ∙ flat_map-append spelling_of old (entry ∷ [])
      ∙ ap (λ bytes. book_of old ++ bytes) (append-nil (spelling_of entry))

  -- the store has opened as the new state, with the record in its book
  entry-opened : (recorded_store store entry).opened ≡ record {
    head = record { params = state.params; generation = state.generation };
    book = book_of_state name_of new;
  }
  entry-opened =
      let head : HeadState = record { params = state.params; generation = state.generation } in
      let opened : BookState → Opened = λ book. record { head = head; book = book } in
      let with_one_more : Opened → Opened = λ old. record { head = old.head; book = with_record old.book entry } in
      ap with_one_more stands.opened ∙ ap opened (sym entry-book)

  module _ (done : CommitsRecord state.generation (book_of_state name_of state).used (spelling_of entry)
      (Some before) (Some after)) where
    -- the containers begin with the old chunks and those offered
    entry-containers : (k : ℕ) → k < length (packing (stored_chunks state ++ offered)) →
        IsFrontOf (slice_index_or (packing (stored_chunks state ++ offered)) k []) (after (Container state.generation k))
    entry-containers k within =
        let there = stands.begin k within in (
          there.0,
          held-is (done.others (Container state.generation k) (λ is. absurd cc) (λ is. absurd cc)) ∙ there.1,
        )

    -- the book is that of the new state, and no more
    entry-book_file : after (Book state.generation) ≡ book_of (records_of name_of new)
    entry-book_file =
        let old = book_of (records_of name_of state) in
        let had = before (Book state.generation) in
        let book : after (Book state.generation) ≡ take (length old) had ++ spelling_of entry = held-is done.book in
        book ∙ ap (λ bytes. bytes ++ spelling_of entry) (front-is old stands.held.book.0 had stands.held.book.1)
        ∙ sym entry-bytes

    -- the files hold the new state
    pub entry-held : HoldState name_of after new
    entry-held =
        let held = stands.held in
        let head : after Head ≡ before Head = held-is (done.others Head (λ is. absurd cc) (λ is. absurd cc)) in
        let seal : after (Seal state.generation) ≡ before (Seal state.generation) ++ COMMIT_BYTE ∷ [] =
        held-is done.seal in
        record {
          settings = ap (take SETTINGS_LEN) head ∙ held.settings;
          generation = ap length head ∙ held.generation;
          seal = ap length seal ∙ length-append (before (Seal state.generation)) (COMMIT_BYTE ∷ [])
              ∙ ap (λ n. n + 1) held.seal ∙ sym (length-append state.events (event ∷ []));
          book = ([], entry-book_file ∙ sym (append-nil (book_of (records_of name_of new))));
          containers = subst (λ chunks. (k : ℕ) → k < length (packing chunks) →
              IsFrontOf (slice_index_or (packing chunks) k []) (after (Container state.generation k)))
              (sym stored) entry-containers;
        }

    -- the store stands for the new state, with nothing offered
    pub entry-stands : IsLawful new → StandsFor name_of (recorded_store store entry) after new []
    entry-stands lawful =
        let all : stored_chunks new ++ [] ≡ stored_chunks state ++ offered = append-nil (stored_chunks new) ∙ stored in
        record {
          lawful = lawful;
          opened = entry-opened;
          offers = refl;
          different = subst AreDifferent (sym all) stands.different;
          held = entry-held;
          begin = subst (λ cs. (k : ℕ) → k < length (packing cs) →
              IsFrontOf (slice_index_or (packing cs) k []) (after (Container state.generation k)))
              (sym all) entry-containers;
        }

    same : (file : File) → file ≢ Book state.generation → file ≢ Seal state.generation → after file ≡ before file
    same file no_book no_seal = held-is (done.others file no_book no_seal)

    -- if the files had nothing but the state and the offered chunks, they have the new state alone
    pub entry-alone : AreCleanWith name_of before state offered → (file : File) → IsCommittedAlone name_of new file (after file)
    entry-alone clean Head =
        ap length (same Head (λ is. absurd cc) (λ is. absurd cc)) ∙ clean.others Head (λ k is. absurd cc)
    entry-alone clean (Seal g) = elim (cases_Bool (g == state.generation)) [
      | inl own ↦
          let is = eqb-true g state.generation own in
          rw own (ap (λ n. length (after (Seal n))) is ∙ entry-held.seal
          ∙ sym (length-replicate (length new.events) COMMIT_BYTE))
      | inr other ↦
          let apart = eqb-false g state.generation other in
          let none = clean.others (Seal g) (λ k is. absurd cc) in
          rw other (ap length (same (Seal g) (λ is. absurd cc) (λ is. apart (cc is))) ∙ rw other at none)
    ]
    entry-alone clean (Book g) = elim (cases_Bool (g == state.generation)) [
      | inl own ↦
          let is = eqb-true g state.generation own in
          rw own (ap (λ n. after (Book n)) is ∙ entry-book_file)
      | inr other ↦
          let apart = eqb-false g state.generation other in
          let none = clean.others (Book g) (λ k is. absurd cc) in
          rw other (same (Book g) (λ is. apart (cc is)) (λ is. absurd cc) ∙ rw other at none)
    ]
    entry-alone clean (Container g k) = elim (cases_Bool (g == state.generation)) [
      | inl own ↦
          let is = eqb-true g state.generation own in
          rw own (same (Container g k) (λ is. absurd cc) (λ is. absurd cc) ∙ ap (λ n. before (Container n k)) is
          ∙ clean.containers k ∙ ap (λ (chunks : List (List ℕ)). slice_index_or (packing chunks) k []) (sym stored))
      | inr other ↦
          let apart = eqb-false g state.generation other in
          let none = clean.others (Container g k) (λ j is. apart (cc is)) in
          rw other (same (Container g k) (λ is. absurd cc) (λ is. absurd cc) ∙ rw other at none)
    ]
