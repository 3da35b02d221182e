-- Files that open and have no flaw hold a lawful state: the records of the book are those of the
-- events that they tell.
use Rattle.std.proofs.Common.{◌≡◌, ℕ, zero, suc, ◌+◌, ◌^◌, ◌<◌, ◌≤◌, true, false, None, List, [], ◌∷◌, ◌++◌, length, map, take, slice_index_or, refl, sym, ap, ap₂, subst, ◌∙◌, append-nil, append_assoc, length-append, arith}
use Rattle.std.proofs.Math.Seq.{take-append_seam}
use Rattle.std.specs.List.{All, AllByRecursion, concat, fold}
use Rattle.std.proofs.lemmas.List.Elements.{All-from_get_or, All-from_recursion, All-get_or}
use Rattle.std.proofs.lemmas.List.{append_cancel_left, get_or-map, get_or_append_left, length-map, map-append, take-map, take_all}
use Rattle.std.proofs.lemmas.List.Sums.{sum_by-cons}
use Rattle.sd_base.specs.Books.{AreRecords, BookState, MayFollow, book_after, book_of, bytes_named, chunks_in, followed_by, places_in, recipe_damage, sessions_of}
use Rattle.sd_base.specs.FlawLaws.{opened_of}
use Rattle.sd_base.specs.Opening.{HeadState, OpenAs, Opened}
use Rattle.sd_base.specs.Packing.{packing}
use Rattle.sd_base.specs.Parameters.{IsValid}
use Rattle.sd_base.specs.declared.file.File.{File}
use Rattle.sd_base.specs.declared.file.File.TheVariants.{Container}
use Rattle.sd_base.specs.Records.{IsRecord}
use Rattle.sd_base.specs.StateBooks.{book_of_state, book_sessions}
use Rattle.sd_base.specs.declared.record.Session.{Session}
use Rattle.sd_base.specs.Distinct.{distinct, first_index, new_chunks}
use Rattle.sd_base.specs.Firsts.{HoldsBelow}
use Rattle.sd_base.specs.Flaws.{AreCut, AreFlawless, HaveChunks, IsFlawOf, IsNew, chunks_of_session, recipe_in_book}
use Rattle.sd_base.specs.Cuttings.{IsOfTheCutting}
use Rattle.sd_base.specs.declared.limits.TheConstants.{MAX_GENERATION}
use Rattle.sd_base.proofs.Cuttings.{cutting-by_places}
use Rattle.sd_base.proofs.Flawless.{own_chunks, session-at, sessions-many}
use Rattle.sd_base.specs.States.{Event, IsCutting, IsLawful, State, bytes_of_session, sessions_in, stored_chunks, MayAllHappen, MayHappen, StoredSession, ingested, dropped, placed_chunks, with_drop, with_event}
use Rattle.sd_base.specs.Stores.{HoldState, IsFrontOf, records_of, ingest_record, named, record_of, records_from}
use Rattle.sd_base.proofs.HeldStates.{AllIngests, chunks-placed, sessions-book}
use Rattle.sd_base.proofs.StateBooks.{followed-record, is_live-book, live_session-book, places-book, session_chunks, session_chunks-event}
use Rattle.sd_base.specs.declared.record.IngestRecord.{IngestRecord}
use Rattle.sd_base.specs.declared.record.NewChunk.{NewChunk}
use Rattle.sd_base.specs.declared.record.Record.{Record}
use Rattle.sd_base.specs.declared.record.Record.TheVariants.{Ingest, Drop}
use Rattle.sd_base.proofs.BookEntries.{AreSound, IsWithin, chunks-of_entries, entries-of_sessions, entries_of, fresh_of, records-within, some-fresh, sound-sessions}
use Rattle.sd_base.proofs.Distinct.{distinct-append}
use Rattle.sd_base.proofs.Counted.{IsCounted}
use Rattle.sd_base.proofs.InOrder.{IsWalk, distinct-walk, numbers-of_entries, walk-below}

-- chunks that have the lengths and names of others are those others, by length and name
pub kept-named : (name_of : List ℕ → List ℕ) (chunks : List (List ℕ)) (kept : List NewChunk) →
    map length chunks ≡ map (λ (c : NewChunk). c.length) kept →
    HoldsBelow (length chunks) (λ i. name_of (slice_index_or chunks i []) ≡ (slice_index_or kept i (record { length = 0; name = [] })).name) →
    map (named name_of) chunks ≡ kept
kept-named name_of [] [] lengths names = refl
kept-named name_of [] (k ∷ kept) lengths names = absurd cc
kept-named name_of (c ∷ chunks) [] lengths names = absurd cc
kept-named name_of (c ∷ chunks) (k ∷ kept) lengths names =
    let size : length c ≡ k.length = cc in
    let rest : map length chunks ≡ map (λ (d : NewChunk). d.length) kept = cc in
    let name : name_of c ≡ k.name = names 0 (omega arith) in
    let first : named name_of c ≡ k =
    ap (λ (n : ℕ). record { length = n; name = name_of c }) size ∙ ap (λ (n : List ℕ). record { length = k.length; name = n }) name in
    ap₂ (λ (x : NewChunk) (xs : List NewChunk). x ∷ xs) first (kept-named name_of chunks kept rest (λ i within. names (suc i) (omega arith)))

lower-bound : (entries : List ℕ) (low high : ℕ) → low ≤ high → AllByRecursion (λ n. n < low) entries → AllByRecursion (λ n. n < high) entries
lower-bound [] low high enough below = tt
lower-bound (n ∷ entries) low high enough below = (omega (arith, enough, below.0), lower-bound entries low high enough below.1)

module _ (chunks : List (List ℕ)) where
  -- the chunks that entries name
  abbrev pub named_by : List ℕ → List (List ℕ)
  named_by entries = map (λ n. slice_index_or chunks n []) entries

  -- the event that a record tells
  abbrev pub event_of : Record → Event
  event_of (Ingest entry) = ingested entry.name (named_by entry.recipe)
  event_of (Drop k) = dropped k

module _ (name_of : List ℕ → List ℕ) (chunks : List (List ℕ)) (kept rest : List NewChunk) (whole : map (named name_of) chunks ≡ kept ++ rest) where
  -- the first chunks have the lengths and names of those kept first
  front-named : map (named name_of) (take (length kept) chunks) ≡ kept
  front-named =
      sym (take-map (named name_of) (length kept) chunks) ∙ ap (take (length kept)) whole ∙ take-append_seam kept rest

  front-enough : length kept ≤ length chunks
  front-enough =
      let all = ap length whole ∙ length-append kept rest in
      let size = length-map chunks (named name_of) in omega (arith, all, size)

  -- entries name as many bytes as their chunks have
  bytes-of_entries : (entries : List ℕ) → AllByRecursion (λ n. n < length kept) entries → bytes_named kept entries ≡ length (concat (named_by chunks entries))
  bytes-of_entries [] below = refl
  bytes-of_entries (n ∷ entries) below =
      let none : NewChunk = record { length = 0; name = [] } in
      let length_at : ℕ → ℕ = λ m. (slice_index_or kept m none).length in
      let enough = front-enough in
      let there : slice_index_or kept n none ≡ named name_of (slice_index_or chunks n []) =
      sym (get_or_append_left kept rest none n below.0) ∙ ap (λ (l : List NewChunk). slice_index_or l n none) (sym whole)
      ∙ get_or-map (named name_of) chunks n [] none (omega (arith, below.0, enough)) in
      sum_by-cons length_at n entries
      ∙ ap (λ m. m + bytes_named kept entries) (ap (λ (c : NewChunk). c.length) there)
      ∙ ap (λ m. length (slice_index_or chunks n []) + m) (bytes-of_entries entries below.1)
      ∙ sym (length-append (slice_index_or chunks n []) (concat (named_by chunks entries)))

module _ (name_of : List ℕ → List ℕ) (chunks : List (List ℕ)) (apart : HoldsBelow (length chunks) (IsNew chunks)) where
  -- the new chunks of an ingest are those that its record has
  fresh-again : (before : List (List ℕ)) (kept fresh rest : List NewChunk) (entries : List ℕ) →
      map (named name_of) chunks ≡ kept ++ (fresh ++ rest) → distinct before ≡ take (length kept) chunks →
      distinct (before ++ named_by chunks entries) ≡ take (length (kept ++ fresh)) chunks →
      map (named name_of) (new_chunks before (named_by chunks entries)) ≡ fresh
  fresh-again before kept fresh rest entries whole same longer =
      let pieces = named_by chunks entries in
      let news = new_chunks before pieces in
      let first : map (named name_of) (distinct before) ≡ kept = ap (map (named name_of)) same ∙ front-named name_of chunks kept (fresh ++ rest) whole in
      let all : map (named name_of) (distinct (before ++ pieces)) ≡ kept ++ fresh =
      ap (map (named name_of)) longer ∙ front-named name_of chunks (kept ++ fresh) rest (whole ∙ sym (append_assoc kept fresh rest)) in
      append_cancel_left kept (map (named name_of) news) fresh
      (ap (λ (l : List NewChunk). l ++ map (named name_of) news) (sym first)
      ∙ sym (map-append (named name_of) (distinct before) news)
      ∙ ap (map (named name_of)) (sym (distinct-append before pieces))
      ∙ all)

  -- the record of the event that an ingest tells is that ingest
  ingest-again : (before : List (List ℕ)) (kept : List NewChunk) (entry : IngestRecord) (rest : List NewChunk) →
      map (named name_of) chunks ≡ kept ++ (entry.fresh ++ rest) → distinct before ≡ take (length kept) chunks →
      IsWalk (length kept) entry.recipe (length (kept ++ entry.fresh)) → bytes_named (kept ++ entry.fresh) entry.recipe ≡ entry.length →
      (ingest_record name_of chunks before entry.name (named_by chunks entry.recipe) ≡ entry)
      × (distinct (before ++ named_by chunks entry.recipe) ≡ take (length (kept ++ entry.fresh)) chunks)
  ingest-again before kept entry rest whole same walk bytes =
      let pieces = named_by chunks entry.recipe in
      let all = kept ++ entry.fresh in
      let moved = whole ∙ sym (append_assoc kept entry.fresh rest) in
      let enough = front-enough name_of chunks all rest moved in
      let below = walk-below (length kept) entry.recipe (length all) walk in
      let longer = distinct-walk chunks apart before (length kept) entry.recipe (length all) walk enough same in
      let fresh = fresh-again before kept entry.fresh rest entry.recipe whole same longer in
      let size : length (concat pieces) ≡ entry.length = sym (bytes-of_entries name_of chunks all rest moved entry.recipe below) ∙ bytes in
      let recipe = numbers-of_entries chunks apart entry.recipe (lower-bound entry.recipe (length all) (length chunks) enough below) in (
        ap (λ (n : ℕ). record { name = entry.name; length = n; fresh = map (named name_of) (new_chunks before pieces); recipe = map (first_index chunks) pieces }) size
            ∙ ap (λ (f : List NewChunk). record { name = entry.name; length = entry.length; fresh = f; recipe = map (first_index chunks) pieces }) fresh
            ∙ ap (λ (r : List ℕ). record { name = entry.name; length = entry.length; fresh = entry.fresh; recipe = r }) recipe,
        longer,
      )

  -- the records of the events that records tell are those records, and their chunks are all chunks
  pub records-again : (records : List Record) (before : List (List ℕ)) (kept : List NewChunk) → AreSound kept (entries_of records) →
      map (named name_of) chunks ≡ kept ++ fresh_of (entries_of records) → distinct before ≡ take (length kept) chunks →
      (records_from name_of chunks before (map (event_of chunks) records) ≡ records)
      × (distinct (before ++ placed_chunks (map (event_of chunks) records)) ≡ chunks)
  records-again [] before kept sound whole same =
      let sizes = ap length (whole ∙ append-nil kept) in
      let many = length-map chunks (named name_of) in
      (refl, ap distinct (append-nil before) ∙ same ∙ take_all (length kept) chunks (omega (arith, sizes, many)))
  records-again (Drop k ∷ records) before kept sound whole same =
      let later = records-again records (before ++ []) kept sound whole (ap distinct (append-nil before) ∙ same) in
      let placed = placed_chunks (map (event_of chunks) records) in (
        ap (λ (rs : List Record). Drop k ∷ rs) later.0,
        ap (λ (b : List (List ℕ)). distinct (b ++ placed)) (sym (append-nil before)) ∙ later.1,
      )
  records-again (Ingest entry ∷ records) before kept sound whole same =
      let pieces = named_by chunks entry.recipe in
      let rest = fresh_of (entries_of records) in
      let events = map (event_of chunks) records in
      let first = ingest-again before kept entry rest whole same sound.0 sound.1 in
      let alone : before ++ (pieces ++ []) ≡ before ++ pieces = ap (λ (p : List (List ℕ)). before ++ p) (append-nil pieces) in
      let later = records-again records (before ++ (pieces ++ [])) (kept ++ entry.fresh) sound.2
      (whole ∙ sym (append_assoc kept entry.fresh rest)) (ap distinct alone ∙ first.1) in (
        ap₂ (λ (r : Record) (rs : List Record). r ∷ rs) (ap Ingest first.0) later.0,
        ap distinct (sym (append_assoc before pieces (placed_chunks events)) ∙ ap (λ (b : List (List ℕ)). b ++ placed_chunks events) (sym alone)) ∙ later.1,
      )

module _ (name_of : List ℕ → List ℕ) (stored : List (List ℕ)) (max : ℕ) where
  -- an event whose record may follow may happen
  first-happens : (sessions : List StoredSession) (event : Event) →
      IsRecord (record_of name_of stored (session_chunks sessions) event) →
      MayFollow max (book_sessions name_of stored [] sessions) (record_of name_of stored (session_chunks sessions) event) →
      MayHappen sessions event
  first-happens sessions (ingested name chunks) is may = (is.name, sym (live_session-book name_of stored [] sessions name) ∙ may.free_name)
  first-happens sessions (dropped k) is may = sym (is_live-book name_of stored [] sessions k) ∙ may

  events-happen : (events : List Event) (sessions : List StoredSession) →
      AreRecords max (book_sessions name_of stored [] sessions) (records_from name_of stored (session_chunks sessions) events) →
      MayAllHappen sessions events
  events-happen [] sessions lawful = tt
  events-happen (event ∷ events) sessions lawful =
      let before = session_chunks sessions ++ placed_chunks (event ∷ []) in
      let moved = subst (λ b. AreRecords max b (records_from name_of stored before events)) (followed-record name_of stored sessions event) lawful.1.1 in
      let later = subst (λ b. AreRecords max (book_sessions name_of stored [] (with_event sessions event)) (records_from name_of stored b events))
      (sym (session_chunks-event sessions event)) moved in
      (first-happens sessions event lawful.0 lawful.1.0, events-happen events (with_event sessions event) later)

  -- the bytes of each ingest are counted in 32 bits
  events-short : (events : List Event) (before : List (List ℕ)) (sessions : List Session) →
      AreRecords max sessions (records_from name_of stored before events) →
      AllIngests (λ chunks. length (concat chunks) < 2 ^ 32) events
  events-short [] before sessions lawful = tt
  events-short (ingested name chunks ∷ events) before sessions lawful =
      (lawful.0.size, events-short events (before ++ placed_chunks (ingested name chunks ∷ [])) (followed_by sessions (Ingest (ingest_record name_of stored before name chunks))) lawful.1.1)
  events-short (dropped k ∷ events) before sessions lawful =
      events-short events (before ++ placed_chunks (dropped k ∷ [])) (followed_by sessions (Drop k)) lawful.1.1

-- what holds of each ingest holds of the chunks of each session
kept-by_drop : (P : List (List ℕ) → Type 0) (sessions : List StoredSession) (k : ℕ) →
    AllByRecursion (λ (s : StoredSession). P s.chunks) sessions → AllByRecursion (λ (s : StoredSession). P s.chunks) (with_drop sessions k)
kept-by_drop P [] k all = tt
kept-by_drop P (s ∷ sessions) zero all = all
kept-by_drop P (s ∷ sessions) (suc k) all = (all.0, kept-by_drop P sessions k all.1)

kept-by_ingest : (P : StoredSession → Type 0) (sessions : List StoredSession) (s : StoredSession) →
    AllByRecursion P sessions → P s → AllByRecursion P (sessions ++ s ∷ [])
kept-by_ingest P [] s all last = (last, tt)
kept-by_ingest P (x ∷ sessions) s all last = (all.0, kept-by_ingest P sessions s all.1 last)

sessions-from_ingests : (P : List (List ℕ) → Type 0) (events : List Event) (sessions : List StoredSession) →
    AllByRecursion (λ (s : StoredSession). P s.chunks) sessions → AllIngests P events →
    AllByRecursion (λ (s : StoredSession). P s.chunks) (fold with_event sessions events)
sessions-from_ingests P [] sessions all ingests = all
sessions-from_ingests P (ingested name chunks ∷ events) sessions all ingests =
    let s : StoredSession = record { name = name; chunks = chunks; live = true } in
    sessions-from_ingests P events (sessions ++ s ∷ []) (kept-by_ingest (λ (t : StoredSession). P t.chunks) sessions s all ingests.0) ingests.1
sessions-from_ingests P (dropped k ∷ events) sessions all ingests =
    sessions-from_ingests P events (with_drop sessions k) (kept-by_drop P sessions k all) ingests

-- no chunk is empty
filled-chunks : (name_of : List ℕ → List ℕ) (chunks : List (List ℕ)) →
    AllByRecursion (λ (c : NewChunk). 1 ≤ c.length) (map (named name_of) chunks) → (n : ℕ) → n < length chunks → 1 ≤ length (slice_index_or chunks n [])
filled-chunks name_of [] all n within = absurd (omega arith)
filled-chunks name_of (c ∷ chunks) all zero within = all.0
filled-chunks name_of (c ∷ chunks) all (suc n) within = filled-chunks name_of chunks all.1 n (omega arith)

filled-named : (chunks : List (List ℕ)) → ((n : ℕ) → n < length chunks → 1 ≤ length (slice_index_or chunks n [])) →
    (entries : List ℕ) → AllByRecursion (λ n. n < length chunks) entries → AllByRecursion (λ chunk. 1 ≤ length chunk) (named_by chunks entries)
filled-named chunks filled [] below = tt
filled-named chunks filled (n ∷ entries) below = (filled n below.0, filled-named chunks filled entries below.1)

filled-events : (chunks : List (List ℕ)) → ((n : ℕ) → n < length chunks → 1 ≤ length (slice_index_or chunks n [])) →
    (records : List Record) (kept : List NewChunk) → AreSound kept (entries_of records) → length (kept ++ fresh_of (entries_of records)) ≤ length chunks →
    AllIngests (AllByRecursion (λ chunk. 1 ≤ length chunk)) (map (event_of chunks) records)
filled-events chunks filled [] kept sound enough = tt
filled-events chunks filled (Drop k ∷ records) kept sound enough = filled-events chunks filled records kept sound enough
filled-events chunks filled (Ingest entry ∷ records) kept sound enough =
    let all = kept ++ entry.fresh in
    let rest = fresh_of (entries_of records) in
    let total : length (all ++ rest) ≤ length chunks = subst (λ (l : List NewChunk). length l ≤ length chunks) (sym (append_assoc kept entry.fresh rest)) enough in
    let fits : length all ≤ length chunks = let parts = length-append all rest in omega (arith, parts, total) in (
      filled-named chunks filled entry.recipe (lower-bound entry.recipe (length all) (length chunks) fits (walk-below (length kept) entry.recipe (length all) sound.0)),
      filled-events chunks filled records all sound.2 total,
    )

-- a head, records that may follow one another and whose recipes do not fail, and chunks without a
-- flaw
module _ (name_of : List ℕ → List ℕ) (files : File → List ℕ) (head : HeadState) (records : List Record) (chunks : List (List ℕ))
    (valid : IsValid head.params)
    (lawful : AreRecords head.params.max [] records)
    (recipes : recipe_damage [] 0 (sessions_of records) ≡ None)
    (have : HaveChunks files (record { head = head; book = book_after head.params.max records }) chunks)
    (flawless : AreFlawless name_of (record { head = head; book = book_after head.params.max records }) chunks) where
  abbrev told : State
  told = record { params = head.params; generation = head.generation; events = map (event_of chunks) records }

  sound : AreSound [] (entries_of records)
  sound = subst (AreSound []) (entries-of_sessions records)
      (sound-sessions [] 0 (sessions_of records) recipes (λ i within a b first last.
      let sessions = sessions_of records in
      let x : length (chunks_in (take i sessions)) ≡ a = omega (arith, first) in
      let y : length (chunks_in (take (suc i) sessions)) ≡ b = omega (arith, last) in
      let recipe = slice_index_or (map (λ (s : Session). s.entry.recipe) sessions) i [] in
      subst (λ (n : ℕ). IsCounted a recipe n) y
      (subst (λ (n : ℕ). IsCounted n recipe (length (chunks_in (take (suc i) sessions)))) x (flawless.in_order i within))))

  kept-chunks : map (named name_of) chunks ≡ chunks_in (sessions_of records)
  kept-chunks = kept-named name_of chunks (chunks_in (sessions_of records)) have.lengths flawless.named

  whole : map (named name_of) chunks ≡ [] ++ fresh_of (entries_of records)
  whole = kept-chunks ∙ chunks-of_entries (sessions_of records) ∙ ap fresh_of (entries-of_sessions records)

  again : (records_from name_of chunks [] (map (event_of chunks) records) ≡ records)
      × (distinct (placed_chunks (map (event_of chunks) records)) ≡ chunks)
  again = records-again name_of chunks flawless.different records [] [] sound whole refl

  told-records : records_of name_of told ≡ records
  told-records = ap (λ (stored : List (List ℕ)). records_from name_of stored [] (map (event_of chunks) records)) again.1 ∙ again.0

  lawful-again : AreRecords head.params.max [] (records_from name_of chunks [] told.events)
  lawful-again = subst (AreRecords head.params.max []) (sym again.0) lawful

  many-chunks : length chunks ≡ length (chunks_in (sessions_of records))
  many-chunks = sym (length-map chunks (named name_of)) ∙ ap length kept-chunks

  filled-sessions : AllByRecursion (λ (s : StoredSession). AllByRecursion (λ chunk. 1 ≤ length chunk) s.chunks) (sessions_in told)
  filled-sessions =
      let some = subst (AllByRecursion (λ (c : NewChunk). 1 ≤ c.length)) (sym whole) (some-fresh head.params.max records [] lawful) in
      let all = ap length whole in
      let many = length-map chunks (named name_of) in
      sessions-from_ingests (AllByRecursion (λ chunk. 1 ≤ length chunk)) told.events [] tt
      (filled-events chunks (filled-chunks name_of chunks some) records [] sound (omega (arith, all, many)))

  short-sessions : AllByRecursion (λ (s : StoredSession). length (bytes_of_session s) < 2 ^ 32) (sessions_in told)
  short-sessions =
      sessions-from_ingests (λ chunks. length (concat chunks) < 2 ^ 32) told.events [] tt
      (events-short name_of chunks head.params.max told.events [] [] lawful-again)

  same-book : book_after head.params.max records ≡ book_of_state name_of told
  same-book = ap (book_after head.params.max) (sym told-records)

  cut-again : AreCut head.params (book_of_state name_of told) (stored_chunks told)
  cut-again =
      subst (AreCut head.params (book_of_state name_of told)) (sym again.1)
      (subst (λ (book : BookState). AreCut head.params book chunks) same-book flawless.cut)

  cut-sessions : All (λ session. IsCutting head.params session.chunks) (sessions_in told)
  cut-sessions =
      let sessions = sessions_in told in
      let nothing : StoredSession = record { name = []; chunks = []; live = false } in
      All-from_get_or (λ session. IsCutting head.params session.chunks) sessions nothing (λ i within.
      let own : own_chunks sessions i ≡ (slice_index_or sessions i nothing).chunks = get_or-map (λ (s : StoredSession). s.chunks) sessions i nothing [] within in
      let there = session-at name_of files told i within ∙ own in
      let many = sessions-many name_of files told in
      let size = length-map (recipe_in_book (book_of_state name_of told) i) (λ n. slice_index_or (stored_chunks told) n []) in
      let filled = All-get_or (λ (s : StoredSession). AllByRecursion (λ chunk. 1 ≤ length chunk) s.chunks) sessions i nothing within
      (All-from_recursion (λ (s : StoredSession). AllByRecursion (λ chunk. 1 ≤ length chunk) s.chunks) sessions filled-sessions) in
      let places : HoldsBelow (length (chunks_of_session (book_of_state name_of told) (stored_chunks told) i))
      (IsOfTheCutting head.params (chunks_of_session (book_of_state name_of told) (stored_chunks told) i)) =
      λ place inside. cut-again i (omega (arith, within, many)) place (omega (arith, inside, size)) in
      cutting-by_places head.params valid.min valid.max.0 (slice_index_or sessions i nothing).chunks
      (All-from_recursion (λ chunk. 1 ≤ length chunk) (slice_index_or sessions i nothing).chunks filled)
      (subst (λ (cs : List (List ℕ)). HoldsBelow (length cs) (IsOfTheCutting head.params cs)) there places))

  told-within : IsWithin (sessions_of records)
  told-within = records-within head.params.max records [] lawful (record { sessions_few = omega arith; places_few = omega arith; chunks_few = omega arith })

  told-lawful : head.generation ≤ MAX_GENERATION → IsLawful told
  told-lawful few =
      let book = ap sessions_of told-records in
      let many = sessions-many name_of files told in
      let sessions = ap (λ (l : List Session). length l) book in
      let places = ap places_in (sym book ∙ sessions-book name_of told) ∙ places-book name_of (stored_chunks told) [] (sessions_in told)
      ∙ ap (λ (l : List (List ℕ)). length l) (chunks-placed told) in
      let stored = ap (λ (l : List (List ℕ)). length l) again.1 in
      record {
        params = valid;
        generation = few;
        events = events-happen name_of chunks head.params.max told.events [] lawful-again;
        cut = cut-sessions;
        bytes = All-from_recursion (λ (s : StoredSession). length (bytes_of_session s) < 2 ^ 32) (sessions_in told) short-sessions;
        sessions = omega (arith, sessions, many, told-within.sessions_few);
        places = omega (arith, places, told-within.places_few);
        chunks = omega (arith, stored, many-chunks, told-within.chunks_few);
      }

-- files that open and have no flaw hold a lawful state
pub flawless-state : (name_of : List ℕ → List ℕ) (files : File → List ℕ) (opened : Opened) → OpenAs files opened → IsFlawOf name_of files opened None →
    (state : State) × IsLawful state × HoldState name_of files state × (opened ≡ opened_of name_of state)
flawless-state name_of files opened opens none =
    let head = opened.head in
    let chunks = none.0 in
    let committed = opens.committed in
    let records = committed.records in
    let e : opened ≡ record { head = head; book = book_after head.params.max records } = ap (λ (b : BookState). record { head = head; book = b }) committed.equals in
    let have = subst (λ (o : Opened). HaveChunks files o chunks) e none.1 in
    let flawless = subst (λ (o : Opened). AreFlawless name_of o chunks) e none.2 in
    let all = again name_of files head records chunks opens.head.valid committed.holds.lawful committed.recipes have flawless in
    let same = told-records name_of files head records chunks opens.head.valid committed.holds.lawful committed.recipes have flawless in (
      record { params = head.params; generation = head.generation; events = map (event_of chunks) records },
      told-lawful name_of files head records chunks opens.head.valid committed.holds.lawful committed.recipes have flawless opens.head.within_limit,
      record {
        settings = opens.head.settings;
        generation = opens.head.size;
        seal = sym (length-map records (event_of chunks) ∙ committed.count);
        book = (committed.holds.rest, committed.holds.spelled ∙ ap (λ (rs : List Record). book_of rs ++ committed.holds.rest) (sym same));
        containers = subst
            (λ (cs : List (List ℕ)). (k : ℕ) → k < length (packing cs) → IsFrontOf (slice_index_or (packing cs) k []) (files (Container head.generation k)))
            (sym all.1) have.containers;
      },
      e ∙ ap (λ (rs : List Record). record { head = head; book = book_after head.params.max rs }) (sym same),
    )
