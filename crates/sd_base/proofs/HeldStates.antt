-- The records of a lawful state are lawful, so files that hold it open as its book.
use Rattle.std.proofs.Common.{◌≡◌, inl, inr, ℕ, zero, suc, ◌^◌, ◌<◌, ◌≤◌, true, None, List, [], ◌∷◌, ◌++◌, length, map, refl, ap, sym, subst, ◌∙◌, arith, length-append, append-nil}
use Rattle.std.specs.Prelude.{slice_index_or}
use Rattle.std.specs.List.{All, AllByRecursion, concat, fold}
use Rattle.std.proofs.lemmas.Bool.{cases_Bool}
use Rattle.std.proofs.lemmas.List.{append_assoc, length-map}
use Rattle.std.proofs.lemmas.List.Elements.{All-from_recursion, recursion_from_All}
use Rattle.sd_base.specs.Books.{AreRecords, MayFollow, MayIngest, chunks_in, recipe_damage, sessions_of}
use Rattle.sd_base.specs.Distinct.{is_among, not_among, distinct, first_index, new_chunks}
use Rattle.sd_base.specs.Names.{IsName}
use Rattle.sd_base.specs.Opening.{OpenAs, needed_sizes}
use Rattle.sd_base.specs.Packing.{packing, container_sizes}
use Rattle.sd_base.specs.Parameters.{IsValid}
use Rattle.sd_base.specs.Records.{IsRecord, IsIngest, IsNewChunk}
use Rattle.sd_base.specs.StateBooks.{book_of_state, book_sessions}
use Rattle.sd_base.specs.States.{Event, ingested, dropped, IsCutting, IsLawful, State, StoredSession, bytes_of_session, sessions_in, stored_chunks, MayAllHappen, MayHappen, is_live_in, live_session_named, placed_chunks, with_drop, with_event}
use Rattle.sd_base.specs.Stores.{GivesNames, named, ingest_record, HoldState, record_of, records_from, records_of}
use Rattle.sd_base.specs.declared.file.File.{File}
use Rattle.sd_base.specs.declared.file.File.TheVariants.{Container}
use Rattle.sd_base.specs.declared.raw_params.RawParams.{RawParams}
use Rattle.sd_base.specs.declared.limits.TheConstants.{MAX_CHUNK_LEN, MAX_CHUNKS, MAX_PLACES, MAX_SESSIONS}
use Rattle.sd_base.specs.declared.record.NewChunk.{NewChunk}
use Rattle.sd_base.proofs.ContainerSizes.{sizes-packing}
use Rattle.sd_base.proofs.Covering.{chunk_sizes}
use Rattle.sd_base.proofs.Distinct.{distinct-append}
use Rattle.sd_base.proofs.States.{placed_chunks-append, among_own, among_later, among_first, among_second, placed-stored}
use Rattle.sd_base.proofs.StateBooks.{session_chunks, session_chunks-event, session_chunks-fold, followed-record, followed-records, no_recipe_damage, chunks-book, places-book, length-book, live_session-book, is_live-book, first_index-below}

-- each ingest has chunks with this property
abbrev pub AllIngests : (List (List ℕ) → Type 0) → List Event → Type 0
AllIngests P [] = Unit {0}
AllIngests P (ingested name chunks ∷ events) = P chunks × AllIngests P events
AllIngests P (dropped k ∷ events) = AllIngests P events

-- what holds of chunks of each of these sessions holds of those of all but the last, and of the
-- last
all_but_last : (P : StoredSession → Type 0) (xs : List StoredSession) (s : StoredSession) → AllByRecursion P (xs ++ s ∷ []) → AllByRecursion P xs × P s
all_but_last P [] s all = (tt, all.0)
all_but_last P (x ∷ xs) s all = let rest = all_but_last P xs s all.1 in ((all.0, rest.0), rest.1)

undropped : (P : List (List ℕ) → Type 0) (xs : List StoredSession) (k : ℕ) →
    AllByRecursion (λ (s : StoredSession). P s.chunks) (with_drop xs k) → AllByRecursion (λ (s : StoredSession). P s.chunks) xs
undropped P [] k all = tt
undropped P (x ∷ xs) zero all = all
undropped P (x ∷ xs) (suc k) all = (all.0, undropped P xs k all.1)

-- what holds of the chunks of each session of a state holds of each ingest
pub ingests-from_sessions : (P : List (List ℕ) → Type 0) (events : List Event) (sessions : List StoredSession) →
    AllByRecursion (λ (s : StoredSession). P s.chunks) (fold with_event sessions events) →
    AllByRecursion (λ (s : StoredSession). P s.chunks) sessions × AllIngests P events
ingests-from_sessions P [] sessions all = (all, tt)
ingests-from_sessions P (ingested name chunks ∷ events) sessions all =
    let rest = ingests-from_sessions P events (with_event sessions (ingested name chunks)) all in
    let parts = all_but_last (λ (s : StoredSession). P s.chunks) sessions (record { name = name; chunks = chunks; live = true }) rest.0 in
    (parts.0, (parts.1, rest.1))
ingests-from_sessions P (dropped k ∷ events) sessions all =
    let rest = ingests-from_sessions P events (with_event sessions (dropped k)) all in
    (undropped P sessions k rest.0, rest.1)

first-ingest : (P : List (List ℕ) → Type 0) (event : Event) (events : List Event) → AllIngests P (event ∷ events) → AllIngests P (event ∷ [])
first-ingest P (ingested name chunks) events all = (all.0, tt)
first-ingest P (dropped k) events all = tt

later-ingests : (P : List (List ℕ) → Type 0) (event : Event) (events : List Event) → AllIngests P (event ∷ events) → AllIngests P events
later-ingests P (ingested name chunks) events all = all.1
later-ingests P (dropped k) events all = all

-- sessions only become more
pub length-with_drop : (xs : List StoredSession) (k : ℕ) → length (with_drop xs k) ≡ length xs
length-with_drop [] k = refl
length-with_drop (x ∷ xs) zero = refl
length-with_drop (x ∷ xs) (suc k) = ap suc (length-with_drop xs k)

length-with_event : (sessions : List StoredSession) (event : Event) → length sessions ≤ length (with_event sessions event)
length-with_event sessions (ingested name chunks) =
    let sum = length-append sessions (record { name = name; chunks = chunks; live = true } ∷ []) in omega (arith, sum)
length-with_event sessions (dropped k) = let same = length-with_drop sessions k in omega (arith, same)

sessions-grow : (events : List Event) (sessions : List StoredSession) → length sessions ≤ length (fold with_event sessions events)
sessions-grow [] sessions = omega arith
sessions-grow (event ∷ events) sessions =
    let first = length-with_event sessions event in
    let rest = sessions-grow events (with_event sessions event) in omega (arith, first, rest)

live-below : (sessions : List StoredSession) (k : ℕ) → is_live_in sessions k ≡ true → k < length sessions
live-below [] k live = absurd cc
live-below (s ∷ sessions) zero live = omega arith
live-below (s ∷ sessions) (suc k) live = let below = live-below sessions k live in omega (arith, below)

-- what holds of chunks holds of those that a filter leaves
all-not_among : (P : List ℕ → Type 0) (others chunks : List (List ℕ)) → AllByRecursion P chunks → AllByRecursion P (not_among others chunks)
all-not_among P others [] all = tt
all-not_among P others (chunk ∷ chunks) all = elim (cases_Bool (is_among others chunk)) [
  | inl among ↦ rw among (all-not_among P others chunks all.1)
  | inr alone ↦ rw alone (all.0, all-not_among P others chunks all.1)
]

all-distinct : (P : List ℕ → Type 0) (chunks : List (List ℕ)) → AllByRecursion P chunks → AllByRecursion P (distinct chunks)
all-distinct P [] all = tt
all-distinct P (chunk ∷ chunks) all = (all.0, all-not_among P (chunk ∷ []) (distinct chunks) (all-distinct P chunks all.1))

all-map : {A : Type 0} (f : List ℕ → A) (P : List ℕ → Type 0) (Q : A → Type 0) → ((c : List ℕ) → P c → Q (f c)) →
    (chunks : List (List ℕ)) → AllByRecursion P chunks → AllByRecursion Q (map f chunks)
all-map f P Q each [] all = tt
all-map f P Q each (chunk ∷ chunks) all = (each chunk all.0, all-map f P Q each chunks all.1)

-- a longer list has no fewer distinct chunks
distinct-grow : (xs ys : List (List ℕ)) → length (distinct xs) ≤ length (distinct (xs ++ ys))
distinct-grow xs ys =
    let e = ap length (distinct-append xs ys) ∙ length-append (distinct xs) (new_chunks xs ys) in omega (arith, e)

entries-below-stored : (stored chunks : List (List ℕ)) → length stored ≤ MAX_CHUNKS →
    ((c : List ℕ) → is_among chunks c ≡ true → is_among stored c ≡ true) → AllByRecursion (λ n. n < 2 ^ 32) (map (first_index stored) chunks)
entries-below-stored stored [] few among = tt
entries-below-stored stored (chunk ∷ chunks) few among =
    let below = first_index-below stored chunk (among chunk (among_own chunk chunks)) in
    (omega (arith, below, few), entries-below-stored stored chunks few (λ c later. among c (among_later c chunk chunks later)))

-- chunks of an ingest: none is empty or too long, and their bytes are counted in 32 bits
pub record IsFit (max : ℕ) (chunks : List (List ℕ)) : Type 0 where
  pub sizes : AllByRecursion (λ chunk. (1 ≤ length chunk) × (length chunk ≤ max)) chunks
  pub bytes : length (concat chunks) < 2 ^ 32

module _ (name_of : List ℕ → List ℕ) (names : GivesNames name_of) (max : ℕ) (max_small : max ≤ MAX_CHUNK_LEN) (stored : List (List ℕ)) (stored_few : length stored ≤ MAX_CHUNKS) where
  fresh-fit : (before chunks : List (List ℕ)) → IsFit max chunks → AllByRecursion IsNewChunk (map (named name_of) (new_chunks before chunks))
  fresh-fit before chunks fit =
      all-map (named name_of) (λ c. (1 ≤ length c) × (length c ≤ max)) IsNewChunk
      (λ c size. record { size = (size.0, omega (arith, size.1, max_small)); name = names c })
      (new_chunks before chunks)
      (all-not_among (λ c. (1 ≤ length c) × (length c ≤ max)) before (distinct chunks) (all-distinct (λ c. (1 ≤ length c) × (length c ≤ max)) chunks fit.sizes))

  fresh-short : (before chunks : List (List ℕ)) → IsFit max chunks → AllByRecursion (λ (c : NewChunk). c.length ≤ max) (map (named name_of) (new_chunks before chunks))
  fresh-short before chunks fit =
      all-map (named name_of) (λ c. (1 ≤ length c) × (length c ≤ max)) (λ (c : NewChunk). c.length ≤ max) (λ c size. size.1)
      (new_chunks before chunks)
      (all-not_among (λ c. (1 ≤ length c) × (length c ≤ max)) before (distinct chunks) (all-distinct (λ c. (1 ≤ length c) × (length c ≤ max)) chunks fit.sizes))

  -- the record of an ingest is of the grammar
  ingest-is_record : (before : List (List ℕ)) (name : List ℕ) (chunks : List (List ℕ)) → IsName name → IsFit max chunks →
      length (distinct (before ++ chunks)) ≤ MAX_CHUNKS → length (before ++ chunks) ≤ MAX_PLACES →
      ((c : List ℕ) → is_among chunks c ≡ true → is_among stored c ≡ true) → IsIngest (ingest_record name_of stored before name chunks)
  ingest-is_record before name chunks is_name fit few few_places among =
      let news = new_chunks before chunks in
      let grown = ap length (distinct-append before chunks) ∙ length-append (distinct before) news in
      let fresh_len = length-map news (named name_of) in
      let recipe_len = length-map chunks (first_index stored) in
      let all_len = length-append before chunks in
      record {
        name = is_name;
        size = fit.bytes;
        chunk_limit = omega (arith, grown, few, fresh_len);
        chunks = All-from_recursion IsNewChunk (map (named name_of) news) (fresh-fit before chunks fit);
        place_limit = omega (arith, recipe_len, all_len, few_places);
        entries = All-from_recursion (λ n. n < 2 ^ 32) (map (first_index stored) chunks) (entries-below-stored stored chunks stored_few among);
      }

  -- and may follow those of the sessions before
  ingest-may_follow : (sessions : List StoredSession) (name : List ℕ) (chunks : List (List ℕ)) → IsFit max chunks →
      live_session_named sessions name ≡ None → length sessions < MAX_SESSIONS →
      length (distinct (session_chunks sessions ++ chunks)) ≤ MAX_CHUNKS → length (session_chunks sessions ++ chunks) ≤ MAX_PLACES →
      MayIngest max (book_sessions name_of stored [] sessions) (ingest_record name_of stored (session_chunks sessions) name chunks)
  ingest-may_follow sessions name chunks fit free few_sessions few few_places =
      let before = session_chunks sessions in
      let news = new_chunks before chunks in
      let grown = ap length (distinct-append before chunks) ∙ length-append (distinct before) news in
      let fresh_len = length-map news (named name_of) in
      let recipe_len = length-map chunks (first_index stored) in
      let all_len = length-append before chunks in
      let sessions_len = length-book name_of stored [] sessions in
      let places = places-book name_of stored [] sessions in
      let chunks_len = ap length (chunks-book name_of stored [] sessions) ∙ length-map (distinct before) (named name_of) in
      record {
        short_chunks = All-from_recursion (λ (c : NewChunk). c.length ≤ max) (map (named name_of) news) (fresh-short before chunks fit);
        free_name = live_session-book name_of stored [] sessions name ∙ free;
        session_limit = omega (arith, sessions_len, few_sessions);
        place_limit = omega (arith, places, recipe_len, all_len, few_places);
        chunk_limit = omega (arith, chunks_len, fresh_len, grown, few);
      }

  -- the record of an event is of the grammar and may follow those of the sessions before
  first-record : (event : Event) (events : List Event) (sessions : List StoredSession) → MayHappen sessions event → AllIngests (IsFit max) (event ∷ []) →
      length (fold with_event (with_event sessions event) events) ≤ MAX_SESSIONS →
      length (session_chunks sessions ++ placed_chunks (event ∷ [])) ≤ MAX_PLACES →
      length (distinct (session_chunks sessions ++ placed_chunks (event ∷ []))) ≤ MAX_CHUNKS →
      ((c : List ℕ) → is_among (placed_chunks (event ∷ [])) c ≡ true → is_among stored c ≡ true) →
      IsRecord (record_of name_of stored (session_chunks sessions) event)
      × MayFollow max (book_sessions name_of stored [] sessions) (record_of name_of stored (session_chunks sessions) event)
  first-record (ingested name chunks) events sessions may fit few_sessions few_places few among =
      let before = session_chunks sessions in
      let all : before ++ (chunks ++ []) ≡ before ++ chunks = ap (λ c. before ++ c) (append-nil chunks) in
      let few_kept : length (distinct (before ++ chunks)) ≤ MAX_CHUNKS = subst (λ l. length (distinct l) ≤ MAX_CHUNKS) all few in
      let few_placed : length (before ++ chunks) ≤ MAX_PLACES = subst (λ l. length l ≤ MAX_PLACES) all few_places in
      let grow = sessions-grow events (with_event sessions (ingested name chunks)) in
      let one_more = length-append sessions (record { name = name; chunks = chunks; live = true } ∷ []) in (
        ingest-is_record before name chunks may.0 fit.0 few_kept few_placed (λ c here. among c (among_first c chunks [] here)),
        ingest-may_follow sessions name chunks fit.0 may.1 (omega (arith, grow, one_more, few_sessions)) few_kept few_placed,
      )
  first-record (dropped k) events sessions may fit few_sessions few_places few among =
      let below = live-below sessions k may in
      let kept = length-with_drop sessions k in
      let grow = sessions-grow events (with_drop sessions k) in
      (omega (arith, below, kept, grow, few_sessions), is_live-book name_of stored [] sessions k ∙ may)

  pub lawful-records : (events : List Event) (sessions : List StoredSession) → MayAllHappen sessions events → AllIngests (IsFit max) events →
      length (fold with_event sessions events) ≤ MAX_SESSIONS →
      length (session_chunks sessions ++ placed_chunks events) ≤ MAX_PLACES →
      length (distinct (session_chunks sessions ++ placed_chunks events)) ≤ MAX_CHUNKS →
      ((c : List ℕ) → is_among (placed_chunks events) c ≡ true → is_among stored c ≡ true) →
      AreRecords max (book_sessions name_of stored [] sessions) (records_from name_of stored (session_chunks sessions) events)
  lawful-records [] sessions may fit few_sessions few_places few among = tt
  lawful-records (event ∷ events) sessions may fit few_sessions few_places few among =
      let own = placed_chunks (event ∷ []) in
      let before = session_chunks sessions in
      let placed : placed_chunks (event ∷ events) ≡ own ++ placed_chunks events = placed_chunks-append (event ∷ []) events in
      let moved : before ++ placed_chunks (event ∷ events) ≡ (before ++ own) ++ placed_chunks events =
      ap (λ p. before ++ p) placed ∙ sym (append_assoc before own (placed_chunks events)) in
      let after : (before ++ own) ++ placed_chunks events ≡ session_chunks (with_event sessions event) ++ placed_chunks events =
      ap (λ b. b ++ placed_chunks events) (sym (session_chunks-event sessions event)) in
      let rest = lawful-records events (with_event sessions event) may.1 (later-ingests (IsFit max) event events fit) few_sessions
      (subst (λ l. length l ≤ MAX_PLACES) (moved ∙ after) few_places)
      (subst (λ l. length (distinct l) ≤ MAX_CHUNKS) (moved ∙ after) few)
      (λ c here. among c (ap (λ p. is_among p c) placed ∙ among_second c own (placed_chunks events) here)) in
      let fewer = distinct-grow (before ++ own) (placed_chunks events) in
      let fewer_places = length-append (before ++ own) (placed_chunks events) in
      let few_moved : length (distinct ((before ++ own) ++ placed_chunks events)) ≤ MAX_CHUNKS = subst (λ l. length (distinct l) ≤ MAX_CHUNKS) moved few in
      let places_moved : length ((before ++ own) ++ placed_chunks events) ≤ MAX_PLACES = subst (λ l. length l ≤ MAX_PLACES) moved few_places in
      let first = first-record event events sessions may.0 (first-ingest (IsFit max) event events fit) few_sessions
      (omega (arith, fewer_places, places_moved)) (omega (arith, fewer, few_moved))
      (λ c here. among c (ap (λ p. is_among p c) placed ∙ among_first c own (placed_chunks events) here)) in (
        first.0,
        (
          first.1,
          subst (λ b. AreRecords max b (records_from name_of stored (before ++ own) events)) (sym (followed-record name_of stored sessions event))
              (subst (λ b. AreRecords max (book_sessions name_of stored [] (with_event sessions event)) (records_from name_of stored b events)) (session_chunks-event sessions event) rest),
        ),
      )

-- chunks that are the cutting of their bytes have the sizes that the parameters ask for
fit-cutting : (params : RawParams) → IsValid params → (chunks : List (List ℕ)) → IsCutting params chunks → length (concat chunks) < 2 ^ 32 → IsFit params.max chunks
fit-cutting params valid chunks cut bytes = record {
  sizes = recursion_from_All (λ chunk. (1 ≤ length chunk) × (length chunk ≤ params.max)) chunks
      (subst (All (λ chunk. (1 ≤ length chunk) × (length chunk ≤ params.max))) (sym cut)
      (chunk_sizes params (concat chunks) (omega (arith, valid.min)) valid.max.0));
  bytes = bytes;
}

fit-sessions : (params : RawParams) → IsValid params → (sessions : List StoredSession) →
    AllByRecursion (λ (s : StoredSession). IsCutting params s.chunks) sessions →
    AllByRecursion (λ (s : StoredSession). length (bytes_of_session s) < 2 ^ 32) sessions →
    AllByRecursion (λ (s : StoredSession). IsFit params.max s.chunks) sessions
fit-sessions params valid [] cut bytes = tt
fit-sessions params valid (s ∷ sessions) cut bytes =
    (fit-cutting params valid s.chunks cut.0 bytes.0, fit-sessions params valid sessions cut.1 bytes.1)

length-records_from : (name_of : List ℕ → List ℕ) (stored before : List (List ℕ)) (events : List Event) →
    length (records_from name_of stored before events) ≡ length events
length-records_from name_of stored before [] = refl
length-records_from name_of stored before (event ∷ events) = ap suc (length-records_from name_of stored (before ++ placed_chunks (event ∷ [])) events)

-- the sessions of the book of a state
pub sessions-book : (name_of : List ℕ → List ℕ) (state : State) →
    sessions_of (records_of name_of state) ≡ book_sessions name_of (stored_chunks state) [] (sessions_in state)
sessions-book name_of state = followed-records name_of (stored_chunks state) state.events []

-- the chunks of the sessions of a state are those that its events place
pub chunks-placed : (state : State) → session_chunks (sessions_in state) ≡ placed_chunks state.events
chunks-placed state = session_chunks-fold state.events []

pub lengths-named : (name_of : List ℕ → List ℕ) (chunks : List (List ℕ)) → map (λ (c : NewChunk). c.length) (map (named name_of) chunks) ≡ map length chunks
lengths-named name_of [] = refl
lengths-named name_of (chunk ∷ chunks) = ap (λ ns. length chunk ∷ ns) (lengths-named name_of chunks)

size-at : (containers : List (List ℕ)) (k : ℕ) → slice_index_or (map length containers) k 0 ≡ length (slice_index_or containers k [])
size-at [] k = refl
size-at (c ∷ containers) zero = refl
size-at (c ∷ containers) (suc k) = size-at containers k

-- the sizes that the book of a state needs are those of its containers
pub sizes-book : (name_of : List ℕ → List ℕ) (state : State) → needed_sizes (book_of_state name_of state) ≡ map length (packing (stored_chunks state))
sizes-book name_of state =
    ap (λ sessions. container_sizes (map (λ (c : NewChunk). c.length) (chunks_in sessions))) (sessions-book name_of state)
    ∙ ap (λ chunks. container_sizes (map (λ (c : NewChunk). c.length) chunks)) (chunks-book name_of (stored_chunks state) [] (sessions_in state))
    ∙ ap (λ chunks. container_sizes (map (λ (c : NewChunk). c.length) (map (named name_of) (distinct chunks)))) (chunks-placed state)
    ∙ ap container_sizes (lengths-named name_of (stored_chunks state))
    ∙ sym (sizes-packing (stored_chunks state))

-- a file that begins with a container has at least the bytes that the book needs of it
long_enough : (name_of : List ℕ → List ℕ) (files : File → List ℕ) (state : State) → HoldState name_of files state → (k : ℕ) →
    k < length (needed_sizes (book_of_state name_of state)) →
    slice_index_or (needed_sizes (book_of_state name_of state)) k 0 ≤ length (files (Container state.generation k))
long_enough name_of files state holds k within =
    let containers = packing (stored_chunks state) in
    let sizes = sizes-book name_of state in
    let count = ap length sizes ∙ length-map containers length in
    let held = holds.containers k (omega (arith, within, count)) in
    let needed = ap (λ needed. slice_index_or needed k 0) sizes ∙ size-at containers k in
    let whole = ap length held.1 ∙ length-append (slice_index_or containers k []) held.0 in
    omega (arith, needed, whole)

-- the ingests of a lawful state have chunks that are neither empty nor too long
lawful-ingests : (state : State) → IsLawful state → AllIngests (IsFit state.params.max) state.events
lawful-ingests state lawful =
    let fits = fit-sessions state.params lawful.params (sessions_in state)
    (recursion_from_All (λ (s : StoredSession). IsCutting state.params s.chunks) (sessions_in state) lawful.cut)
    (recursion_from_All (λ (s : StoredSession). length (bytes_of_session s) < 2 ^ 32) (sessions_in state) lawful.bytes) in
    (ingests-from_sessions (IsFit state.params.max) state.events [] fits).1

-- the records of a lawful state are of the grammar, and each may follow those before it
pub state-records : (name_of : List ℕ → List ℕ) → GivesNames name_of → (state : State) → IsLawful state →
    AreRecords state.params.max [] (records_of name_of state)
state-records name_of names state lawful =
    lawful-records name_of names state.params.max lawful.params.max.1 (stored_chunks state) lawful.chunks state.events [] lawful.events
    (lawful-ingests state lawful) lawful.sessions lawful.places lawful.chunks (placed-stored state)

-- there is one for each event
pub state-records-count : (name_of : List ℕ → List ℕ) (state : State) → length (records_of name_of state) ≡ length state.events
state-records-count name_of state = length-records_from name_of (stored_chunks state) [] state.events

all-append : (P : List ℕ → Type 0) (xs ys : List (List ℕ)) → AllByRecursion P xs → AllByRecursion P ys → AllByRecursion P (xs ++ ys)
all-append P [] ys first second = second
all-append P (x ∷ xs) ys first second = (first.0, all-append P xs ys first.1 second)

placed-sizes : (max : ℕ) (events : List Event) → AllIngests (IsFit max) events →
    AllByRecursion (λ chunk. (1 ≤ length chunk) × (length chunk ≤ max)) (placed_chunks events)
placed-sizes max [] fit = tt
placed-sizes max (ingested name chunks ∷ events) fit =
    all-append (λ chunk. (1 ≤ length chunk) × (length chunk ≤ max)) chunks (placed_chunks events) fit.0.sizes (placed-sizes max events fit.1)
placed-sizes max (dropped k ∷ events) fit = placed-sizes max events fit

-- no stored chunk of a lawful state is empty
pub stored-some : (state : State) → IsLawful state → AllByRecursion (λ n. 1 ≤ n) (map length (stored_chunks state))
stored-some state lawful =
    all-map length (λ chunk. (1 ≤ length chunk) × (length chunk ≤ state.params.max)) (λ n. 1 ≤ n) (λ chunk size. size.0) (stored_chunks state)
    (all-distinct (λ chunk. (1 ≤ length chunk) × (length chunk ≤ state.params.max)) (placed_chunks state.events)
    (placed-sizes state.params.max state.events (lawful-ingests state lawful)))

-- files that hold a lawful state open as its book
pub held_state_opens : (name_of : List ℕ → List ℕ) → GivesNames name_of → (files : File → List ℕ) (state : State) → IsLawful state → HoldState name_of files state →
    OpenAs files (record { head = record { params = state.params; generation = state.generation }; book = book_of_state name_of state })
held_state_opens name_of names files state lawful holds =
    let stored = stored_chunks state in
    let sound = ap (recipe_damage [] 0) (sessions-book name_of state)
    ∙ no_recipe_damage name_of stored [] [] 0 (sessions_in state)
    (ap distinct (sym (chunks-placed state)) ∙ sym (append-nil (distinct (session_chunks (sessions_in state))))) in
    record {
      head = record { valid = lawful.params; settings = holds.settings; size = holds.generation; within_limit = lawful.generation };
      committed = record {
        records = records_of name_of state;
        count = state-records-count name_of state ∙ sym holds.seal;
        holds = record { lawful = state-records name_of names state lawful; rest = holds.book.0; spelled = holds.book.1 };
        recipes = sound;
        equals = refl;
      };
      containers = λ k within. long_enough name_of files state holds k within;
    }
