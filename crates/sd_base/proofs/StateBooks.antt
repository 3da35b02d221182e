-- The book of a state has the sessions of the state, its chunks and its places.
use Rattle.std.proofs.Common.{◌≡◌, inl, inr, ℕ, zero, suc, ◌+◌, ◌<◌, Bool, true, Option, Some, None, List, [], ◌∷◌, ◌++◌, length, map, refl, ap, sym, subst, ◌∙◌, arith, length-append, append-nil}
use Rattle.std.specs.Prelude.{◌&&◌, ◌==◌, nat_le, if◌then◌else◌, slice_index_or}
use Rattle.std.specs.List.{AllByRecursion, concat, fold, position, position_or_len}
use Rattle.std.specs.Str.{bytes_eq}
use Rattle.std.proofs.lemmas.Bool.{cases_Bool, lt-leb}
use Rattle.std.proofs.lemmas.Bool.Decides.{Decides-eqb}
use Rattle.std.proofs.lemmas.Slice.Eq.{bytes_eq-Decides}
use Rattle.std.proofs.lemmas.List.{append_assoc, length-map, map-append}
use Rattle.std.proofs.lemmas.List.Sums.{sum_by-cons}
use Rattle.sd_base.specs.Books.{followed_by, without, chunks_in, places_in, is_live, live_session, bytes_named, or_else, recipe_flaw, flaw_at, recipe_damage}
use Rattle.sd_base.specs.Distinct.{is_among, distinct, first_index, new_chunks}
use Rattle.sd_base.specs.Rows.{live_rows, live_book_rows, row_of_session, row_of_book_session}
use Rattle.sd_base.specs.Texts.{SessionRow}
use Rattle.sd_base.specs.StateBooks.{book_session, book_sessions}
use Rattle.sd_base.specs.States.{Event, ingested, dropped, StoredSession, with_drop, with_event, placed_chunks, is_live_in, live_session_named}
use Rattle.sd_base.specs.Stores.{named, ingest_record, record_of, records_from}
use Rattle.sd_base.specs.declared.damage.Damage.{Damage}
use Rattle.sd_base.specs.declared.record.NewChunk.{NewChunk}
use Rattle.sd_base.specs.declared.record.Session.{Session}
use Rattle.sd_base.proofs.Distinct.{distinct-append, is_among-distinct, first_index-append}
use Rattle.sd_base.proofs.States.{placed_chunks-append, among_second, among_own, among_later}

-- the chunks of sessions in order, one for each place
abbrev pub session_chunks : List StoredSession → List (List ℕ)
session_chunks [] = []
session_chunks (session ∷ sessions) = session.chunks ++ session_chunks sessions

session_chunks-append : (xs ys : List StoredSession) → session_chunks (xs ++ ys) ≡ session_chunks xs ++ session_chunks ys
session_chunks-append [] ys = refl
session_chunks-append (session ∷ xs) ys =
    ap (λ rest. session.chunks ++ rest) (session_chunks-append xs ys) ∙ sym (append_assoc session.chunks (session_chunks xs) (session_chunks ys))

session_chunks-drop : (sessions : List StoredSession) (k : ℕ) → session_chunks (with_drop sessions k) ≡ session_chunks sessions
session_chunks-drop [] k = refl
session_chunks-drop (session ∷ sessions) zero = refl
session_chunks-drop (session ∷ sessions) (suc k) = ap (λ rest. session.chunks ++ rest) (session_chunks-drop sessions k)

-- an event adds its chunks to those of the sessions
pub session_chunks-event : (sessions : List StoredSession) (event : Event) →
    session_chunks (with_event sessions event) ≡ session_chunks sessions ++ placed_chunks (event ∷ [])
session_chunks-event sessions (ingested name chunks) = session_chunks-append sessions (record { name = name; chunks = chunks; live = true } ∷ [])
session_chunks-event sessions (dropped k) = session_chunks-drop sessions k ∙ sym (append-nil (session_chunks sessions))

pub session_chunks-fold : (events : List Event) (sessions : List StoredSession) →
    session_chunks (fold with_event sessions events) ≡ session_chunks sessions ++ placed_chunks events
session_chunks-fold [] sessions = sym (append-nil (session_chunks sessions))
session_chunks-fold (event ∷ events) sessions =
    session_chunks-fold events (with_event sessions event)
    ∙ ap (λ chunks. chunks ++ placed_chunks events) (session_chunks-event sessions event)
    ∙ append_assoc (session_chunks sessions) (placed_chunks (event ∷ [])) (placed_chunks events)
    ∙ ap (λ placed. session_chunks sessions ++ placed) (sym (placed_chunks-append (event ∷ []) events))

-- no sessions stay none
without-nothing : (k : ℕ) → without k [] ≡ []
without-nothing zero = refl
without-nothing (suc k) = refl

module _ (name_of : List ℕ → List ℕ) (stored : List (List ℕ)) where
  book_sessions-append : (before : List (List ℕ)) (xs : List StoredSession) (s : StoredSession) →
      book_sessions name_of stored before (xs ++ s ∷ [])
      ≡ book_sessions name_of stored before xs ++ book_session name_of stored (before ++ session_chunks xs) s ∷ []
  book_sessions-append before [] s = ap (λ b. book_session name_of stored b s ∷ []) (sym (append-nil before))
  book_sessions-append before (x ∷ xs) s =
      ap (λ rest. book_session name_of stored before x ∷ rest)
      (book_sessions-append (before ++ x.chunks) xs s
      ∙ ap (λ b. book_sessions name_of stored (before ++ x.chunks) xs ++ book_session name_of stored b s ∷ []) (append_assoc before x.chunks (session_chunks xs)))

  book_sessions-drop : (before : List (List ℕ)) (xs : List StoredSession) (k : ℕ) →
      without k (book_sessions name_of stored before xs) ≡ book_sessions name_of stored before (with_drop xs k)
  book_sessions-drop before [] k = without-nothing k
  book_sessions-drop before (x ∷ xs) zero = refl
  book_sessions-drop before (x ∷ xs) (suc k) = ap (λ rest. book_session name_of stored before x ∷ rest) (book_sessions-drop (before ++ x.chunks) xs k)

  -- one record leads from the sessions of the book to those with one more event
  pub followed-record : (sessions : List StoredSession) (event : Event) →
      followed_by (book_sessions name_of stored [] sessions) (record_of name_of stored (session_chunks sessions) event)
      ≡ book_sessions name_of stored [] (with_event sessions event)
  followed-record sessions (ingested name chunks) = sym (book_sessions-append [] sessions (record { name = name; chunks = chunks; live = true }))
  followed-record sessions (dropped k) = book_sessions-drop [] sessions k

  pub followed-records : (events : List Event) (sessions : List StoredSession) →
      fold followed_by (book_sessions name_of stored [] sessions) (records_from name_of stored (session_chunks sessions) events)
      ≡ book_sessions name_of stored [] (fold with_event sessions events)
  followed-records [] sessions = refl
  followed-records (event ∷ events) sessions =
      let before = session_chunks sessions ++ placed_chunks (event ∷ []) in
      ap (λ b. fold followed_by b (records_from name_of stored before events)) (followed-record sessions event)
      ∙ ap (λ b. fold followed_by (book_sessions name_of stored [] (with_event sessions event)) (records_from name_of stored b events))
      (sym (session_chunks-event sessions event))
      ∙ followed-records events (with_event sessions event)

  -- the chunks of the book are the distinct ones, by length and name
  pub chunks-book : (before : List (List ℕ)) (sessions : List StoredSession) →
      map (named name_of) (distinct before) ++ chunks_in (book_sessions name_of stored before sessions)
      ≡ map (named name_of) (distinct (before ++ session_chunks sessions))
  chunks-book before [] =
      append-nil (map (named name_of) (distinct before)) ∙ ap (λ b. map (named name_of) (distinct b)) (sym (append-nil before))
  chunks-book before (s ∷ sessions) =
      let later = chunks_in (book_sessions name_of stored (before ++ s.chunks) sessions) in
      sym (append_assoc (map (named name_of) (distinct before)) (map (named name_of) (new_chunks before s.chunks)) later)
      ∙ ap (λ front. front ++ later)
      (sym (map-append (named name_of) (distinct before) (new_chunks before s.chunks))
      ∙ ap (map (named name_of)) (sym (distinct-append before s.chunks)))
      ∙ chunks-book (before ++ s.chunks) sessions
      ∙ ap (λ b. map (named name_of) (distinct b)) (append_assoc before s.chunks (session_chunks sessions))

  pub places-book : (before : List (List ℕ)) (sessions : List StoredSession) →
      places_in (book_sessions name_of stored before sessions) ≡ length (session_chunks sessions)
  places-book before [] = refl
  places-book before (s ∷ sessions) =
      let rest = places_in (book_sessions name_of stored (before ++ s.chunks) sessions) in
      sum_by-cons (λ (session : Session). length session.entry.recipe) (book_session name_of stored before s) (book_sessions name_of stored (before ++ s.chunks) sessions)
      ∙ ap (λ n. n + rest) (length-map s.chunks (first_index stored))
      ∙ ap (λ n. length s.chunks + n) (places-book (before ++ s.chunks) sessions)
      ∙ sym (length-append s.chunks (session_chunks sessions))

  pub length-book : (before : List (List ℕ)) (sessions : List StoredSession) →
      length (book_sessions name_of stored before sessions) ≡ length sessions
  length-book before [] = refl
  length-book before (s ∷ sessions) = ap suc (length-book (before ++ s.chunks) sessions)

  -- the live session of a name has the same number in the book
  same_place : (before : List (List ℕ)) (sessions : List StoredSession) (name : List ℕ) →
      position_or_len (λ (session : Session). session.live && bytes_eq session.entry.name name) (book_sessions name_of stored before sessions)
      ≡ position_or_len (λ (session : StoredSession). session.live && bytes_eq session.name name) sessions
  same_place before [] name = refl
  same_place before (s ∷ sessions) name = elim (cases_Bool (s.live && bytes_eq s.name name)) [
    | inl here ↦ rw here refl
    | inr other ↦ rw other (ap (λ n. 1 + n) (same_place (before ++ s.chunks) sessions name))
  ]

  pub live_session-book : (before : List (List ℕ)) (sessions : List StoredSession) (name : List ℕ) →
      live_session (book_sessions name_of stored before sessions) name ≡ live_session_named sessions name
  live_session-book before sessions name = rw (same_place before sessions name, length-book before sessions) refl

  pub is_live-book : (before : List (List ℕ)) (sessions : List StoredSession) (k : ℕ) →
      is_live (book_sessions name_of stored before sessions) k ≡ is_live_in sessions k
  is_live-book before [] k = refl
  is_live-book before (s ∷ sessions) zero = refl
  is_live-book before (s ∷ sessions) (suc k) = is_live-book (before ++ s.chunks) sessions k

-- a chunk that is among others has its first index below their number
pub first_index-below : (chunks : List (List ℕ)) (chunk : List ℕ) → is_among chunks chunk ≡ true → first_index chunks chunk < length chunks
first_index-below [] chunk among = absurd cc
first_index-below (first ∷ chunks) chunk among = elim (cases_Bool (bytes_eq chunk first)) [
  | inl same ↦ rw same (omega arith)
  | inr other ↦
      let below = first_index-below chunks chunk (rw other at among) in
      rw other (omega (arith, below))
]

length-next : (name_of : List ℕ → List ℕ) (first : List ℕ) (chunks : List (List ℕ)) (n : ℕ) →
    (slice_index_or (map (named name_of) (first ∷ chunks)) (1 + n) (record { length = 0; name = [] })).length
    ≡ (slice_index_or (map (named name_of) chunks) n (record { length = 0; name = [] })).length
length-next name_of first chunks n =
    let e : 1 + n ≡ suc n = omega arith in
    ap (λ k. (slice_index_or (map (named name_of) (first ∷ chunks)) k (record { length = 0; name = [] })).length) e

-- the entry of a chunk names a chunk of its length
length-named : (name_of : List ℕ → List ℕ) (chunks : List (List ℕ)) (chunk : List ℕ) → is_among chunks chunk ≡ true →
    (slice_index_or (map (named name_of) chunks) (first_index chunks chunk) (record { length = 0; name = [] })).length ≡ length chunk
length-named name_of [] chunk among = absurd cc
length-named name_of (first ∷ chunks) chunk among = elim (cases_Bool (bytes_eq chunk first)) [
  | inl same ↦ rw same (ap length (sym ((bytes_eq-Decides chunk first).0 same)))
  | inr other ↦ rw other (length-next name_of first chunks (first_index chunks chunk) ∙ length-named name_of chunks chunk (rw other at among))
]

-- entries below a limit
none_from : (limit : ℕ) (entries : List ℕ) → AllByRecursion (λ n. n < limit) entries → position_or_len (λ n. nat_le limit n) entries ≡ length entries
none_from limit [] below = refl
none_from limit (n ∷ entries) below = rw (lt-leb limit n below.0) (let later = none_from limit entries below.1 in omega (arith, later))

-- nothing passes
position_none : (p : ℕ → Bool) (xs : List ℕ) → position_or_len p xs ≡ length xs → position p xs ≡ None
position_none p xs none = rw none (rw (lt-leb (suc (length xs)) (length xs) (omega arith)) refl)

if_equal : {A : Type 0} (a b : ℕ) (x y : A) → a ≡ b → (if a == b then x else y) ≡ x
if_equal a b x y same = rw ((Decides-eqb a b).1 same) refl

ap2_or_else : {a b : Option ℕ} → a ≡ None → b ≡ None → or_else a b ≡ None
ap2_or_else {a = a} {b = b} none_a none_b = rw none_a none_b

module _ (name_of : List ℕ → List ℕ) (kept more : List (List ℕ)) where
  -- the entries of chunks that are kept are below the number of kept chunks
  entries-below : (chunks : List (List ℕ)) → ((chunk : List ℕ) → is_among chunks chunk ≡ true → is_among kept chunk ≡ true) →
      AllByRecursion (λ n. n < length kept) (map (first_index (kept ++ more)) chunks)
  entries-below [] among = tt
  entries-below (chunk ∷ chunks) among =
      let own = among chunk (among_own chunk chunks) in (
        subst (λ n. n < length kept) (sym (first_index-append kept more chunk own)) (first_index-below kept chunk own),
        entries-below chunks (λ c later. among c (among_later c chunk chunks later)),
      )

  -- and they name chunks of their lengths
  bytes-named : (chunks : List (List ℕ)) → ((chunk : List ℕ) → is_among chunks chunk ≡ true → is_among kept chunk ≡ true) →
      bytes_named (map (named name_of) kept) (map (first_index (kept ++ more)) chunks) ≡ length (concat chunks)
  bytes-named [] among = refl
  bytes-named (chunk ∷ chunks) among =
      let own = among chunk (among_own chunk chunks) in
      let length_at : ℕ → ℕ = λ n. (slice_index_or (map (named name_of) kept) n (record { length = 0; name = [] })).length in
      sum_by-cons length_at (first_index (kept ++ more) chunk) (map (first_index (kept ++ more)) chunks)
      ∙ ap (λ n. length_at n + bytes_named (map (named name_of) kept) (map (first_index (kept ++ more)) chunks)) (first_index-append kept more chunk own)
      ∙ ap (λ n. n + bytes_named (map (named name_of) kept) (map (first_index (kept ++ more)) chunks)) (length-named name_of kept chunk own)
      ∙ ap (λ n. length chunk + n) (bytes-named chunks (λ c later. among c (among_later c chunk chunks later)))
      ∙ sym (length-append chunk (concat chunks))

  -- so a recipe over them has no flaw
  no_flaw : (name : List ℕ) (fresh : List NewChunk) (chunks : List (List ℕ)) →
      ((chunk : List ℕ) → is_among chunks chunk ≡ true → is_among kept chunk ≡ true) →
      recipe_flaw (map (named name_of) kept) (record { name = name; length = length (concat chunks); fresh = fresh; recipe = map (first_index (kept ++ more)) chunks }) ≡ None
  no_flaw name fresh chunks among =
      let entries = map (first_index (kept ++ more)) chunks in
      ap2_or_else
      (ap (λ limit. position (λ n. nat_le limit n) entries) (length-map kept (named name_of))
      ∙ position_none (λ n. nat_le (length kept) n) entries (none_from (length kept) entries (entries-below chunks among)))
      (if_equal (bytes_named (map (named name_of) kept) entries) (length (concat chunks)) None (Some (length entries)) (bytes-named chunks among))

flaws_none : {flaw : Option ℕ} {later : Option Damage} (k : ℕ) → flaw ≡ None → later ≡ None → flaw_at k flaw later ≡ None
flaws_none {flaw = flaw} {later = later} k none none_later = rw none none_later

-- no recipe of the book of a state fails
pub no_recipe_damage : (name_of : List ℕ → List ℕ) (stored more before : List (List ℕ)) (k : ℕ) (sessions : List StoredSession) →
    stored ≡ distinct (before ++ session_chunks sessions) ++ more →
    recipe_damage (map (named name_of) (distinct before)) k (book_sessions name_of stored before sessions) ≡ None
no_recipe_damage name_of stored more before k [] all = refl
no_recipe_damage name_of stored more before k (s ∷ sessions) all =
    let kept = distinct (before ++ s.chunks) in
    let others = new_chunks (before ++ s.chunks) (session_chunks sessions) ++ more in
    let split : stored ≡ kept ++ others =
    all ∙ ap (λ b. distinct b ++ more) (sym (append_assoc before s.chunks (session_chunks sessions)))
    ∙ ap (λ b. b ++ more) (distinct-append (before ++ s.chunks) (session_chunks sessions))
    ∙ append_assoc kept (new_chunks (before ++ s.chunks) (session_chunks sessions)) more in
    let fresh = map (named name_of) (new_chunks before s.chunks) in
    let so_far : map (named name_of) (distinct before) ++ fresh ≡ map (named name_of) kept =
    sym (map-append (named name_of) (distinct before) (new_chunks before s.chunks)) ∙ ap (map (named name_of)) (sym (distinct-append before s.chunks)) in
    let own : recipe_flaw (map (named name_of) (distinct before) ++ fresh) (ingest_record name_of stored before s.name s.chunks) ≡ None =
    ap (λ chunks. recipe_flaw chunks (ingest_record name_of stored before s.name s.chunks)) so_far
    ∙ ap (λ all_stored. recipe_flaw (map (named name_of) kept) (ingest_record name_of all_stored before s.name s.chunks)) split
    ∙ no_flaw name_of kept others s.name fresh s.chunks (λ c here. is_among-distinct (before ++ s.chunks) c ∙ among_second c before s.chunks here) in
    let later : recipe_damage (map (named name_of) (distinct before) ++ fresh) (k + 1) (book_sessions name_of stored (before ++ s.chunks) sessions) ≡ None =
    ap (λ chunks. recipe_damage chunks (k + 1) (book_sessions name_of stored (before ++ s.chunks) sessions)) so_far
    ∙ no_recipe_damage name_of stored more (before ++ s.chunks) (k + 1) sessions
    (all ∙ ap (λ b. distinct b ++ more) (sym (append_assoc before s.chunks (session_chunks sessions)))) in
    flaws_none k own later

-- a row, and rows after it that are the same
row-first : (name_of : List ℕ → List ℕ) (stored before : List (List ℕ)) (k : ℕ) (s : StoredSession) {xs ys : List SessionRow} → xs ≡ ys →
    row_of_book_session k (book_session name_of stored before s) ∷ xs ≡ row_of_session k s ∷ ys
row-first name_of stored before k s {xs = xs} {ys = ys} same =
    ap (λ places. record { number = k; name = s.name; bytes = length (concat s.chunks); places = places } ∷ xs) (length-map s.chunks (first_index stored))
    ∙ ap (λ rows. row_of_session k s ∷ rows) same

-- the rows of `list` are the same from the book
pub rows-book : (name_of : List ℕ → List ℕ) (stored before : List (List ℕ)) (k : ℕ) (sessions : List StoredSession) →
    live_book_rows k (book_sessions name_of stored before sessions) ≡ live_rows k sessions
rows-book name_of stored before k [] = refl
rows-book name_of stored before k (s ∷ sessions) =
    let later = rows-book name_of stored (before ++ s.chunks) (k + 1) sessions in
    elim (cases_Bool s.live) [
      | inl live ↦ rw live (row-first name_of stored before k s later)
      | inr dead ↦ rw dead later
    ]
