-- One more event only adds to the stored chunks and to the records of a state.
use Rattle.std.proofs.Common.{◌≡◌, inl, inr, ℕ, true, List, [], ◌∷◌, ◌++◌, map, refl, ap, sym, ◌∙◌}
use Rattle.std.specs.List.{concat}
use Rattle.std.specs.Prelude.{length}
use Rattle.std.proofs.lemmas.Bool.{cases_Bool}
use Rattle.std.proofs.lemmas.List.{append_assoc, append-nil}
use Rattle.std.proofs.lemmas.Slice.Eq.{bytes_eq-Decides}
use Rattle.std.specs.Str.{bytes_eq}
use Rattle.std.proofs.lemmas.List.Folds.{list_any-append}
use Rattle.sd_base.specs.Distinct.{is_among, distinct, first_index, new_chunks}
use Rattle.sd_base.specs.States.{Event, ingested, dropped, State, placed_chunks, stored_chunks, followed_by_event}
use Rattle.sd_base.specs.Stores.{named, record_of, records_from, records_of}
use Rattle.sd_base.specs.declared.record.Record.TheVariants.{Ingest}
use Rattle.sd_base.proofs.Distinct.{distinct-append, is_among-distinct, first_index-append}

pub placed_chunks-append : (xs ys : List Event) → placed_chunks (xs ++ ys) ≡ placed_chunks xs ++ placed_chunks ys
placed_chunks-append [] ys = refl
placed_chunks-append (ingested name chunks ∷ xs) ys = ap (λ rest. chunks ++ rest) (placed_chunks-append xs ys) ∙ sym (append_assoc chunks (placed_chunks xs) (placed_chunks ys))
placed_chunks-append (dropped k ∷ xs) ys = placed_chunks-append xs ys

pub stored_chunks-followed : (state : State) (event : Event) →
    stored_chunks (followed_by_event state event)
    ≡ stored_chunks state ++ new_chunks (placed_chunks state.events) (placed_chunks (event ∷ []))
stored_chunks-followed state event =
    ap distinct (placed_chunks-append state.events (event ∷ []))
    ∙ distinct-append (placed_chunks state.events) (placed_chunks (event ∷ []))

-- the chunks placed by a first event, and by the events after it
placed_chunks-cons : (event : Event) (events : List Event) →
    placed_chunks (event ∷ events) ≡ placed_chunks (event ∷ []) ++ placed_chunks events
placed_chunks-cons event events = placed_chunks-append (event ∷ []) events

-- the records of more events come after those of the first ones
records_from-append : (name_of : List ℕ → List ℕ) (stored before : List (List ℕ)) (xs ys : List Event) →
    records_from name_of stored before (xs ++ ys)
    ≡ records_from name_of stored before xs ++ records_from name_of stored (before ++ placed_chunks xs) ys
records_from-append name_of stored before [] ys =
    ap (λ chunks. records_from name_of stored chunks ys) (sym (append-nil before))
records_from-append name_of stored before (event ∷ xs) ys =
    let own = placed_chunks (event ∷ []) in
    ap (λ rest. record_of name_of stored before event ∷ rest)
    (records_from-append name_of stored (before ++ own) xs ys
    ∙ ap (λ all. records_from name_of stored (before ++ own) xs ++ records_from name_of stored all ys)
    (append_assoc before own (placed_chunks xs) ∙ ap (λ placed. before ++ placed) (sym (placed_chunks-cons event xs))))

-- a chunk is among those that it begins, and one that is among the others is among all
pub among_own : (chunk : List ℕ) (chunks : List (List ℕ)) → is_among (chunk ∷ chunks) chunk ≡ true
among_own chunk chunks = rw ((bytes_eq-Decides chunk chunk).1 refl) refl

pub among_later : (c chunk : List ℕ) (chunks : List (List ℕ)) → is_among chunks c ≡ true → is_among (chunk ∷ chunks) c ≡ true
among_later c chunk chunks later = elim (cases_Bool (bytes_eq c chunk)) [
  | inl same ↦ rw same refl
  | inr other ↦ rw other later
]

pub among_first : (c : List ℕ) (xs ys : List (List ℕ)) → is_among xs c ≡ true → is_among (xs ++ ys) c ≡ true
among_first c xs ys here = list_any-append (bytes_eq c) xs ys ∙ rw here refl

pub among_second : (c : List ℕ) (xs ys : List (List ℕ)) → is_among ys c ≡ true → is_among (xs ++ ys) c ≡ true
among_second c xs ys here = list_any-append (bytes_eq c) xs ys ∙ (elim (cases_Bool (is_among xs c)) [
  | inl first ↦ rw first refl
  | inr none ↦ rw (none, here) refl
])

-- numbers of chunks that are stored stay if more chunks are stored
recipe-stays : (stored new chunks : List (List ℕ)) → ((chunk : List ℕ) → is_among chunks chunk ≡ true → is_among stored chunk ≡ true) →
    map (first_index (stored ++ new)) chunks ≡ map (first_index stored) chunks
recipe-stays stored new [] among = refl
recipe-stays stored new (chunk ∷ chunks) among =
    rw (first_index-append stored new chunk (among chunk (among_own chunk chunks)))
    (ap (λ ns. first_index stored chunk ∷ ns) (recipe-stays stored new chunks (λ c later. among c (among_later c chunk chunks later))))

-- the record of an event stays if more chunks are stored
record_of-stays : (name_of : List ℕ → List ℕ) (stored new before : List (List ℕ)) (event : Event) →
    ((chunk : List ℕ) → is_among (placed_chunks (event ∷ [])) chunk ≡ true → is_among stored chunk ≡ true) →
    record_of name_of (stored ++ new) before event ≡ record_of name_of stored before event
record_of-stays name_of stored new before (ingested name chunks) among =
    ap (λ recipe. Ingest (record { name = name; length = length (concat chunks); fresh = map (named name_of) (new_chunks before chunks); recipe = recipe }))
    (recipe-stays stored new chunks (λ c here. among c (among_first c chunks [] here)))
record_of-stays name_of stored new before (dropped k) among = refl

-- the records of events stay if more chunks are stored
records_from-stays : (name_of : List ℕ → List ℕ) (stored new before : List (List ℕ)) (events : List Event) →
    ((chunk : List ℕ) → is_among (placed_chunks events) chunk ≡ true → is_among stored chunk ≡ true) →
    records_from name_of (stored ++ new) before events ≡ records_from name_of stored before events
records_from-stays name_of stored new before [] among = refl
records_from-stays name_of stored new before (event ∷ events) among =
    let own = placed_chunks (event ∷ []) in
    let all : (chunk : List ℕ) → is_among (own ++ placed_chunks events) chunk ≡ true → is_among stored chunk ≡ true =
    λ c here. among c (ap (λ placed. is_among placed c) (placed_chunks-cons event events) ∙ here) in
    rw (record_of-stays name_of stored new before event (λ c here. all c (among_first c own (placed_chunks events) here)))
    (ap (λ rest. record_of name_of stored before event ∷ rest)
    (records_from-stays name_of stored new (before ++ own) events (λ c later. all c (among_second c own (placed_chunks events) later))))

-- the chunks that are placed are stored
pub placed-stored : (state : State) (chunk : List ℕ) →
    is_among (placed_chunks state.events) chunk ≡ true → is_among (stored_chunks state) chunk ≡ true
placed-stored state chunk placed = is_among-distinct (placed_chunks state.events) chunk ∙ placed

pub records_of-followed : (name_of : List ℕ → List ℕ) (state : State) (event : Event) →
    records_of name_of (followed_by_event state event)
    ≡ records_of name_of state ++ record_of name_of (stored_chunks (followed_by_event state event)) (placed_chunks state.events) event ∷ []
records_of-followed name_of state event =
    let after = stored_chunks (followed_by_event state event) in
    records_from-append name_of after [] state.events (event ∷ [])
    ∙ ap (λ records. records ++ records_from name_of after (placed_chunks state.events) (event ∷ []))
    (ap (λ stored. records_from name_of stored [] state.events) (stored_chunks-followed state event)
    ∙ records_from-stays name_of (stored_chunks state) (new_chunks (placed_chunks state.events) (placed_chunks (event ∷ []))) [] state.events (placed-stored state))
