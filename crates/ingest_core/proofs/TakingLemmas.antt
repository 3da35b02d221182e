-- An input that is taken into a store which stands for a state.
use Rattle.std.proofs.Common.{true, ◌≡◌, inl, inr, ℕ, ◌+◌, ◌<◌, ◌≤◌, List, [], ◌∷◌, ◌++◌, Option, Some, None, Err, IfSome, length, refl, ap, sym, subst, ◌∙◌, arith}
use Rattle.std.specs.List.{concat}
use Rattle.std.proofs.lemmas.Bool.{le-ltb, lt-leb}
use Rattle.std.proofs.lemmas.Grind.{flat_map-append}
use Rattle.std.proofs.lemmas.List.{append-nil, length-append, length-map}
use Rattle.std.specs.Prelude.{◌⊎◌, ◌-◌, IfNone, Ok, OnErr, Result}
use Rattle.ingest_core.specs.Faults.{Fails, IsStoreFailure, outcome_of}
use Rattle.ingest_core.specs.Ingests.{Ends, IngestsInto, summary_of}
use Rattle.ingest_core.specs.ByBook.{IsOpenTo}
use Rattle.ingest_core.specs.declared.summary.Summary.{Summary}
use Rattle.ingest_core.specs.Offering.{AreOffered, AreRefused, StandsWith}
use Rattle.ingest_core.specs.declared.fault.IngestFault.{IngestFault}
use Rattle.ingest_core.specs.declared.fault.IngestFault.TheVariants.{Store}
use Rattle.sd_base.specs.Books.{BookState, chunks_in, live_session, places_in}
use Rattle.sd_base.specs.Cutting.{chunks_of, cuts_of}
use Rattle.sd_base.specs.Distinct.{distinct, new_chunks}
use Rattle.sd_base.specs.OnePass.{refusal_of_ingest}
use Rattle.sd_base.specs.Opening.{Opened}
use Rattle.sd_base.specs.States.{IsCutting, IsLawful, State, followed_by_event, ingested, live_session_named, placed_chunks, sessions_in, stored_chunks, with_session}
use Rattle.sd_base.specs.Stores.{AreClean, HoldState, named}
use Rattle.sd_base.specs.declared.record.IngestRecord.{IngestRecord}
use Rattle.sd_base.specs.declared.record.Session.{Session}
use Rattle.sd_base.proofs.Distinct.{distinct-append}
use Rattle.sd_base.proofs.Covering.{concat-chunks_of}
use Rattle.edge_traits.specs.Shelf.{content}
use Rattle.sd_base.specs.declared.file.File.{File}
use Rattle.sd_base.specs.declared.file.File.TheVariants.{Head}
use Rattle.sd_base.specs.declared.limits.TheConstants.{MAX_CHUNKS, MAX_INPUT, MAX_PLACES, MAX_SESSIONS}
use Rattle.sd_base.specs.declared.raw_params.RawParams.{RawParams}
use Rattle.store_core.specs.CleanFiles.{AreCleanWith}
use Rattle.store_core.proofs.CleanCommits.{clean-with-none}
use Rattle.store_core.specs.Commits.{OnlyFails, committed_state, committed_store, early_refusal, recipe_chunks, session_record}
use Rattle.store_core.specs.Recipes.{IsInOrder}
use Rattle.store_core.specs.StoreStates.{StandsFor, StoreState, chunks_of_store}
use Rattle.store_core.specs.declared.fault.StoreFault.{StoreFault}
use Rattle.store_core.specs.declared.fault.StoreFault.TheVariants.{OutOfMemory, TooManyPlaces}
use Rattle.store_core.proofs.IngestLemmas.{book-live_session, book-place_count, book-session_count, ingest-new_chunks}
use Rattle.store_core.proofs.OfferLemmas.{stands-count}
use Rattle.ingest_core.proofs.RecipeLemmas.{in_order-few}
use Rattle.store_core.proofs.StoreLemmas.{Told, told_map}
use Rattle.ingest_core.proofs.FaultLemmas.{err-is, only_fails}
use Rattle.ingest_core.proofs.PartLemmas.{known-is}
use Rattle.ingest_core.proofs.Refusals.{count-between, count-with, refused-chunks, refused-not, refused-places, stored-with}

module _ (name_of : List ℕ → List ℕ) (state : State) (name input : List ℕ) (before : File → List ℕ) where
  -- an ingest that is refused as the definition says
  pub refuses : (fault : IngestFault) (after : Told) → refusal_of_ingest state name input ≡ Some (outcome_of fault) →
      IfSome after (λ files. HoldState name_of files state) →
      IngestsInto name_of state name input (let r : Ends = Err fault in r) before after
  refuses fault after is held = record {
    accepted = tt;
    summary = tt;
    taken_in = tt;
    clean = λ alone. tt;
    refused = inr is;
    kept = inr held;
    either = told_map after (λ files holds. inl holds) held;
  }

  -- an ingest that fails while it writes
  pub fails : (fault : IngestFault) (after : Told) → Fails fault → IsStoreFailure fault →
      IfSome after (λ files. HoldState name_of files state
      ⊎ ((refusal_of_ingest state name input ≡ None) × HoldState name_of files (with_session state name input))) →
      IngestsInto name_of state name input (let r : Ends = Err fault in r) before after
  fails fault after is may either = record {
    accepted = tt;
    summary = tt;
    taken_in = tt;
    clean = λ alone. tt;
    refused = inl is;
    kept = inl may;
    either = either;
  }

-- a store stands for a state, and a session of this name may be added to its book
module _ (name_of : List ℕ → List ℕ) (first : StoreState) (files : File → List ℕ) (state : State)
    (stands : StandsFor name_of first files state []) (name : List ℕ) (is_open : IsOpenTo first.opened.book name) where
  pub open-free : live_session_named (sessions_in state) name ≡ None
  open-free =
      sym (book-live_session name_of state name)
      ∙ ap (λ (o : Opened). live_session o.book.sessions name) (sym stands.opened) ∙ is_open.free

  pub open-few : length (sessions_in state) < MAX_SESSIONS
  open-few =
      let count = sym (book-session_count name_of state)
      ∙ ap (λ (o : Opened). length o.book.sessions) (sym stands.opened) in
      omega (arith, count, is_open.few)

  pub same-params : first.opened.head.params ≡ state.params
  same-params = ap (λ (o : Opened). o.head.params) stands.opened

  pub same-sessions : length first.opened.book.sessions ≡ length (sessions_in state)
  same-sessions = ap (λ (o : Opened). length o.book.sessions) stands.opened ∙ book-session_count name_of state

  pub same-places : places_in first.opened.book.sessions ≡ length (placed_chunks state.events)
  same-places = ap (λ (o : Opened). places_in o.book.sessions) stands.opened ∙ book-place_count name_of state

  module _ (input cuts : List ℕ) (are : cuts ≡ cuts_of first.opened.head.params input) (fits : length input ≤ MAX_INPUT) where
    -- the places of the state with the session are those of the book and these
    pub same-room : length (placed_chunks (with_session state name input).events)
        ≡ places_in first.opened.book.sessions + length cuts
    same-room =
        let own : length (cuts_of state.params input) ≡ length cuts =
        ap (λ (p : RawParams). length (cuts_of p input)) (sym same-params) ∙ ap length (sym are) in
        let sum = count-with state name input in
        omega (arith, sum, own, same-places)

    -- there is no room for the places
    pub no-room : MAX_PLACES < places_in first.opened.book.sessions + length cuts →
        IngestsInto name_of state name input (let r : Ends = Err (Store TooManyPlaces) in r) files (Some files)
    no-room many =
        refuses name_of state name input files (Store TooManyPlaces) (Some files)
        (refused-places state name input open-free open-few fits (omega (arith, many, same-room))) stands.held

    -- the chunks are refused
    pub no-chunks : places_in first.opened.book.sessions + length cuts ≤ MAX_PLACES → (T : Type 0) (fault : StoreFault)
        (after : Told) → AreRefused name_of state (chunks_of first.opened.head.params input) after (let r : Result T StoreFault = Err fault in r) →
        IngestsInto name_of state name input (let r : Ends = Err (Store fault) in r) files after
    no-chunks room T fault after refused = elim refused.why [
      | inl (is, many) ↦
          let more : MAX_CHUNKS < length (stored_chunks (with_session state name input)) =
          subst (λ n. MAX_CHUNKS < n) (sym (ap length (stored-with state name input)))
          (subst (λ (p : RawParams). MAX_CHUNKS < length (distinct (placed_chunks state.events ++ chunks_of p input))) same-params many) in
          refuses name_of state name input files (Store fault) after
          (refused-chunks state name input open-free open-few fits (omega (arith, room, same-room)) more
          ∙ ap (λ (f : StoreFault). Some (outcome_of (Store f))) (sym (err-is is))) refused.held
      | inr failed ↦
          let both = only_fails fault failed in
          fails name_of state name input files (Store fault) after both.0 both.1
          (told_map after (λ then holds. inl holds) refused.held)
    ]

-- there is no room for the places, if the shelf may be observable
pub no-room_told : (name_of : List ℕ → List ℕ) (first : StoreState) (told : Told) (name input cuts : List ℕ) →
    IsOpenTo first.opened.book name → cuts ≡ cuts_of first.opened.head.params input → length input ≤ MAX_INPUT →
    MAX_PLACES < places_in first.opened.book.sessions + length cuts → (state : State) →
    IfSome told (λ before. StandsFor name_of first before state [] →
    IngestsInto name_of state name input (let r : Ends = Err (Store TooManyPlaces) in r) before told)
no-room_told name_of first None name input cuts is_open are fits many state = tt
no-room_told name_of first (Some files) name input cuts is_open are fits many state = λ stands.
    no-room name_of first files state stands name is_open input cuts are fits many

-- if memory runs out before a chunk is offered, the files hold the state
pub unnamed : (name_of : List ℕ → List ℕ) (first : StoreState) (told : Told) (name input : List ℕ) (r : Ends) →
    r ≡ Err (Store OutOfMemory) → (state : State) →
    IfSome told (λ before. StandsFor name_of first before state [] → IngestsInto name_of state name input r before told)
unnamed name_of first None name input r is state = tt
unnamed name_of first (Some files) name input r is state = λ stands.
    subst (λ (q : Ends). IngestsInto name_of state name input q files (Some files)) (sym is)
    (fails name_of state name input files (Store OutOfMemory) (Some files) tt tt (inl stands.held))

-- ---- the commit

-- a session that may be added to the book, as far as its name, sessions and places go, is not refused before it is written
pub no-early : (book : BookState) (name : List ℕ) (places : ℕ) → IsOpenTo book name →
    places_in book.sessions + places ≤ MAX_PLACES → early_refusal book name places ≡ None
no-early book name places is_open room =
    rw (
      is_open.free,
      lt-leb MAX_SESSIONS (length book.sessions) is_open.few,
      le-ltb MAX_PLACES (places_in book.sessions + places) room,
    ) refl

-- a commit that is not refused before it writes only fails
pub late-fails : (early : Option StoreFault) (r : Result ℕ StoreFault) (fault : StoreFault) → early ≡ None →
    IfNone early (OnErr r (OnlyFails r)) → r ≡ Err fault → OnlyFails (let q : Result ℕ StoreFault = Err fault in q)
late-fails early r fault none late is =
    subst (λ (q : Result ℕ StoreFault). OnErr q (OnlyFails q)) is (subst (λ o. IfNone o (OnErr r (OnlyFails r))) none late)

module _ (first mid : StoreState) (chunks : List (List ℕ)) (recipe : List ℕ) (had : AreOffered first chunks recipe mid) where
  abbrev known : ℕ
  known = length (chunks_in first.opened.book.sessions)

  -- the store has the chunks of its book and those offered
  total-is : length (chunks_of_store mid) ≡ known + length mid.offered
  total-is =
      length-append (chunks_in mid.opened.book.sessions) mid.offered
      ∙ ap (λ (o : Opened). length (chunks_in o.book.sessions) + length mid.offered) had.opened

  -- there are no more new chunks than places
  pub few-offered : length mid.offered ≤ length recipe
  few-offered =
      let few = in_order-few known (length (chunks_of_store mid)) recipe had.in_order in omega (arith, few, total-is)

  -- after a commit the book has the offered chunks too
  pub chunks-committed : (new : StoreState) (entry : IngestRecord) → new ≡ committed_store mid entry →
      entry.fresh ≡ mid.offered →
      length (chunks_in new.opened.book.sessions) ≡ known + length mid.offered
  chunks-committed new entry is fresh =
      let session : Session = record { entry = entry; live = true } in
      ap (λ (s : StoreState). length (chunks_in s.opened.book.sessions)) is
      ∙ ap length (flat_map-append (λ (s : Session). s.entry.fresh) mid.opened.book.sessions (session ∷ []))
      ∙ length-append (chunks_in mid.opened.book.sessions) (chunks_in (session ∷ []))
      ∙ ap (λ last. length (chunks_in mid.opened.book.sessions) + length last) (append-nil entry.fresh ∙ fresh)
      ∙ ap (λ (o : Opened). length (chunks_in o.book.sessions) + length mid.offered) had.opened

-- the session is not refused before it is written
pub mid-no_early : (first mid : StoreState) (input cuts recipe name : List ℕ) →
    AreOffered first (chunks_of first.opened.head.params input) recipe mid →
    cuts ≡ cuts_of first.opened.head.params input → IsOpenTo first.opened.book name →
    places_in first.opened.book.sessions + length cuts ≤ MAX_PLACES →
    early_refusal mid.opened.book name (length recipe) ≡ None
mid-no_early first mid input cuts recipe name had are is_open room =
    let many : length recipe ≡ length cuts =
    had.count ∙ count-between input 0 (cuts_of first.opened.head.params input) ∙ sym (ap length are) in
    subst (λ (o : Opened). early_refusal o.book name (length recipe) ≡ None) (sym had.opened)
    (no-early first.opened.book name (length recipe) is_open (omega (arith, room, many)))

-- the chunks of an input were offered to a store that stands for a state
module _ (name_of : List ℕ → List ℕ) (first mid : StoreState) (before : File → List ℕ) (state : State)
    (stands : StandsFor name_of first before state []) (name input recipe : List ℕ)
    (is_open : IsOpenTo first.opened.book name)
    (had : AreOffered first (chunks_of first.opened.head.params input) recipe mid)
    (files : File → List ℕ) (with_chunks : StandsWith name_of before mid files state (chunks_of first.opened.head.params input) recipe) where
  abbrev chunks : List (List ℕ)
  chunks = chunks_of state.params input

  abbrev offered : List (List ℕ)
  offered = with_chunks.offered

  same-chunks : chunks_of first.opened.head.params input ≡ chunks
  same-chunks = ap (λ (p : RawParams). chunks_of p input) (same-params name_of first before state stands name is_open)

  names-chunks : recipe_chunks state offered recipe ≡ chunks
  names-chunks = with_chunks.names ∙ same-chunks

  -- the recipe names a cutting
  pub names-cutting : IsCutting state.params (recipe_chunks state offered recipe)
  names-cutting =
      let min = stands.lawful.params.min in
      let joined : concat chunks ≡ input =
      concat-chunks_of state.params input (omega (arith, min)) stands.lawful.params.max.0 in
      subst (IsCutting state.params) (sym names-chunks) (ap (chunks_of state.params) (sym joined))

  -- the state with it is that of the definition
  pub committed-is : committed_state state offered name recipe ≡ with_session state name input
  committed-is = ap (λ cs. followed_by_event state (ingested name cs)) names-chunks

  -- the new chunks are those offered
  new-offers : new_chunks (placed_chunks state.events) chunks ≡ offered
  new-offers =
      let all = stored_chunks state ++ offered in
      let order : IsInOrder (length (stored_chunks state)) recipe (length all) =
      subst (λ n. IsInOrder n recipe (length all)) (known-is name_of mid files state offered with_chunks.stands first had.opened)
      (subst (λ n. IsInOrder (length (chunks_in first.opened.book.sessions)) recipe n)
      (stands-count name_of mid files state offered with_chunks.stands) had.in_order) in
      ingest-new_chunks state offered chunks recipe with_chunks.stands.different order (sym names-chunks)

  new-offered : length (new_chunks (placed_chunks state.events) chunks) ≡ length mid.offered
  new-offered = ap length new-offers ∙ sym (ap length with_chunks.stands.offers ∙ length-map offered (named name_of))

  -- the definition does not refuse them, if there are few enough places
  pub not-refused : (cuts : List ℕ) → cuts ≡ cuts_of first.opened.head.params input → length input ≤ MAX_INPUT →
      places_in first.opened.book.sessions + length cuts ≤ MAX_PLACES → refusal_of_ingest state name input ≡ None
  not-refused cuts are fits room =
      let places = same-room name_of first before state stands name is_open input cuts are fits in
      let stored : length (stored_chunks (with_session state name input)) ≡ length (stored_chunks state ++ offered) =
      ap length (stored-with state name input ∙ distinct-append (placed_chunks state.events) chunks)
      ∙ ap (λ new. length (stored_chunks state ++ new)) new-offers in
      let few = with_chunks.few in
      refused-not state name input (open-free name_of first before state stands name is_open)
      (open-few name_of first before state stands name is_open) fits (omega (arith, places, room)) (omega (arith, stored, few))

  -- and a session of them was committed
  module _ (new : StoreState) (committed : new ≡ committed_store mid (session_record mid name (length input) recipe)) where
    -- the numbers are those of the definition
    pub summary-is : (session places fresh : ℕ) → session ≡ length mid.opened.book.sessions → places ≡ length recipe →
        fresh ≡ length (chunks_in new.opened.book.sessions) - length (chunks_in first.opened.book.sessions) →
        (let summary : Summary = record { session = session; bytes = length input; places = places; fresh = fresh } in summary)
        ≡ summary_of state input
    summary-is session places fresh number count difference =
        let one : session ≡ length (sessions_in state) =
        number ∙ ap (λ (o : Opened). length o.book.sessions) had.opened
        ∙ same-sessions name_of first before state stands name is_open in
        let two : places ≡ length chunks = count ∙ had.count ∙ ap length same-chunks in
        let grown = chunks-committed first mid (chunks_of first.opened.head.params input) recipe had new
        (session_record mid name (length input) recipe) committed refl in
        let three : fresh ≡ length (new_chunks (placed_chunks state.events) chunks) =
        omega (arith, difference, grown, new-offered) in
        rw (one, two, three) refl

    -- the ingest is that of the definition
    pub taken-into : length input ≤ MAX_INPUT → (then : File → List ℕ) (summary : Summary) → summary ≡ summary_of state input →
        StandsFor name_of new then (committed_state state offered name recipe) [] →
        (AreCleanWith name_of files state offered → AreClean name_of then (Some (committed_state state offered name recipe))) →
        IngestsInto name_of state name input (let r : Ends = Ok summary in r) before (Some then)
    taken-into fits then summary is done alone =
        let lawful = subst IsLawful committed-is done.lawful in
        record {
          accepted = refused-not state name input (open-free name_of first before state stands name is_open)
              (open-few name_of first before state stands name is_open) fits lawful.places lawful.chunks;
          summary = is;
          taken_in = subst (HoldState name_of then) committed-is done.held;
          clean = λ had. subst (λ (s : State). AreClean name_of then (Some s)) committed-is
              (alone (with_chunks.clean (clean-with-none name_of before state had)));
          refused = tt;
          kept = tt;
          either = tt;
        }

-- the same, if the shelf may be observable
pub ok-into : (name_of : List ℕ → List ℕ) (first mid new : StoreState) (told middle after : Told) (state : State)
    (name input recipe : List ℕ) → IsOpenTo first.opened.book name → length input ≤ MAX_INPUT →
    AreOffered first (chunks_of first.opened.head.params input) recipe mid →
    new ≡ committed_store mid (session_record mid name (length input) recipe) →
    content middle Head ≡ content told Head → content after Head ≡ content middle Head →
    (session places fresh : ℕ) → session ≡ length mid.opened.book.sessions → places ≡ length recipe →
    fresh ≡ length (chunks_in new.opened.book.sessions) - length (chunks_in first.opened.book.sessions) →
    IfSome told (λ before. StandsFor name_of first before state [] →
    IfSome middle (λ files. StandsWith name_of before mid files state (chunks_of first.opened.head.params input) recipe)) →
    ((offered : List (List ℕ)) → IfSome middle (λ files. StandsFor name_of mid files state offered →
    IsCutting state.params (recipe_chunks state offered recipe) →
    IfSome after (λ then. StandsFor name_of new then (committed_state state offered name recipe) [] × Unit {0}))) →
    ((offered : List (List ℕ)) → IfSome middle (λ files. StandsFor name_of mid files state offered →
    AreCleanWith name_of files state offered →
    IfSome after (λ then. AreClean name_of then (Some (committed_state state offered name recipe))))) →
    IfSome told (λ before. StandsFor name_of first before state [] →
    IngestsInto name_of state name input
    (let r : Ends = Ok (record { session = session; bytes = length input; places = places; fresh = fresh }) in r) before after)
ok-into name_of first mid new None middle after state name input recipe is_open fits had committed seen wrote session places fresh
    number count difference one two clean = tt
ok-into name_of first mid new (Some before) None after state name input recipe is_open fits had committed seen wrote session
    places fresh number count difference one two clean = absurd cc
ok-into name_of first mid new (Some before) (Some files) None state name input recipe is_open fits had committed seen wrote
    session places fresh number count difference one two clean = absurd cc
ok-into name_of first mid new (Some before) (Some files) (Some then) state name input recipe is_open fits had committed seen
    wrote session places fresh number count difference one two clean = λ stands.
    let chunks = one stands in
    let cutting = names-cutting name_of first mid before state stands name input recipe is_open had files chunks in
    taken-into name_of first mid before state stands name input recipe is_open had files chunks new committed fits then _
    (summary-is name_of first mid before state stands name input recipe is_open had files chunks new committed
    session places fresh number count difference)
    (two chunks.offered chunks.stands cutting).0 (clean chunks.offered chunks.stands)

-- a commit that failed left the state or the state with the session
pub fail-into : (name_of : List ℕ → List ℕ) (first mid : StoreState) (told middle after : Told) (state : State)
    (name input cuts recipe : List ℕ) → IsOpenTo first.opened.book name → cuts ≡ cuts_of first.opened.head.params input →
    length input ≤ MAX_INPUT → places_in first.opened.book.sessions + length cuts ≤ MAX_PLACES →
    AreOffered first (chunks_of first.opened.head.params input) recipe mid → content middle Head ≡ content told Head →
    IfSome told (λ before. StandsFor name_of first before state [] →
    IfSome middle (λ files. StandsWith name_of before mid files state (chunks_of first.opened.head.params input) recipe)) →
    ((offered : List (List ℕ)) → IfSome middle (λ files. StandsFor name_of mid files state offered →
    IsCutting state.params (recipe_chunks state offered recipe) → IfSome after (λ then. Unit {0} × (HoldState name_of then state
    ⊎ HoldState name_of then (committed_state state offered name recipe))))) →
    IfSome told (λ before. StandsFor name_of first before state [] → IfSome after (λ then.
    HoldState name_of then state
    ⊎ ((refusal_of_ingest state name input ≡ None) × HoldState name_of then (with_session state name input))))
fail-into name_of first mid None middle after state name input cuts recipe is_open are fits room had seen one two = tt
fail-into name_of first mid (Some before) None after state name input cuts recipe is_open are fits room had seen one two = absurd cc
fail-into name_of first mid (Some before) (Some files) after state name input cuts recipe is_open are fits room had seen one two = λ stands.
    let chunks = one stands in
    let cutting = names-cutting name_of first mid before state stands name input recipe is_open had files chunks in
    let same = committed-is name_of first mid before state stands name input recipe is_open had files chunks in
    let none = not-refused name_of first mid before state stands name input recipe is_open had files chunks cuts are fits room in
    told_map after (λ then holds. elim holds.1 [
      | inl old ↦ inl old
      | inr new ↦ inr (none, subst (HoldState name_of then) same new)
    ])
    (two chunks.offered chunks.stands cutting)
