-- The ingests of a book one after another: if no recipe fails and each is in order, then each is a
-- walk from the chunks before it. The limits of a book, after all its records.
use Rattle.std.proofs.Common.{◌≡◌, inl, inr, ℕ, zero, suc, ◌+◌, ◌<◌, ◌≤◌, Option, Some, None, true, List, [], ◌∷◌, ◌++◌, length, map, take, slice_index_or, refl, sym, ap, ◌∙◌, append-nil, append_assoc, length-append, arith}
use Rattle.std.specs.Prelude.{◌==◌, if◌then◌else◌, nat_le}
use Rattle.std.specs.List.{AllByRecursion, flat_map, fold, position, position_or_len}
use Rattle.std.proofs.lemmas.Bool.{cases_Bool, cases_lt, le-leb, lt-leb, lt-ltb}
use Rattle.std.proofs.lemmas.Bool.Decides.{Decides-eqb}
use Rattle.std.proofs.lemmas.List.{map-append}
use Rattle.std.proofs.lemmas.List.Sums.{sum_by-append, sum_by-cons}
use Rattle.std.proofs.lemmas.List.Elements.{recursion_from_All}
use Rattle.std.proofs.lemmas.Grind.{flat_map-append}
use Rattle.sd_base.specs.declared.limits.TheConstants.{MAX_CHUNKS, MAX_PLACES, MAX_SESSIONS}
use Rattle.sd_base.specs.Records.{IsNewChunk}
use Rattle.sd_base.specs.Books.{AreRecords, bytes_named, chunks_in, flaw_at, followed_by, or_else, places_in, recipe_damage, recipe_flaw, sessions_of, without}
use Rattle.sd_base.specs.declared.damage.Damage.{Damage}
use Rattle.sd_base.specs.declared.record.IngestRecord.{IngestRecord}
use Rattle.sd_base.specs.declared.record.NewChunk.{NewChunk}
use Rattle.sd_base.specs.declared.record.Record.{Record}
use Rattle.sd_base.specs.declared.record.Record.TheVariants.{Ingest, Drop}
use Rattle.sd_base.specs.declared.record.Session.{Session}
use Rattle.sd_base.proofs.Counted.{IsCounted, walk-counted}
use Rattle.sd_base.proofs.InOrder.{IsWalk}

-- the ingests among records
abbrev pub entries_of : List Record → List IngestRecord
entries_of [] = []
entries_of (Ingest entry ∷ records) = entry ∷ entries_of records
entries_of (Drop k ∷ records) = entries_of records

-- the new chunks of ingests
abbrev pub fresh_of : List IngestRecord → List NewChunk
fresh_of entries = flat_map (λ (entry : IngestRecord). entry.fresh) entries

abbrev pub entries_in : List Session → List IngestRecord
entries_in sessions = map (λ (s : Session). s.entry) sessions

entries-without : (k : ℕ) (sessions : List Session) → entries_in (without k sessions) ≡ entries_in sessions
entries-without zero [] = refl
entries-without (suc k) [] = refl
entries-without zero (s ∷ sessions) = refl
entries-without (suc k) (s ∷ sessions) = ap (λ rest. s.entry ∷ rest) (entries-without k sessions)

entries-followed : (records : List Record) (sessions : List Session) →
    entries_in (fold followed_by sessions records) ≡ entries_in sessions ++ entries_of records
entries-followed [] sessions = sym (append-nil (entries_in sessions))
entries-followed (Ingest entry ∷ records) sessions =
    let one : List Session = record { entry = entry; live = true } ∷ [] in
    entries-followed records (sessions ++ one)
    ∙ ap (λ all. all ++ entries_of records) (map-append (λ (s : Session). s.entry) sessions one)
    ∙ append_assoc (entries_in sessions) (entry ∷ []) (entries_of records)
entries-followed (Drop k ∷ records) sessions =
    entries-followed records (without k sessions) ∙ ap (λ all. all ++ entries_of records) (entries-without k sessions)

-- the sessions of records are those of their ingests
pub entries-of_sessions : (records : List Record) → entries_in (sessions_of records) ≡ entries_of records
entries-of_sessions records = entries-followed records []

pub chunks-of_entries : (sessions : List Session) → chunks_in sessions ≡ fresh_of (entries_in sessions)
chunks-of_entries [] = refl
chunks-of_entries (s ∷ sessions) = ap (λ rest. s.entry.fresh ++ rest) (chunks-of_entries sessions)

-- the recipe of each ingest is a walk from the chunks before it, and names as many bytes as the
-- ingest has
abbrev pub AreSound : List NewChunk → List IngestRecord → Type 0
AreSound kept [] = Unit {0}
AreSound kept (entry ∷ entries) =
    IsWalk (length kept) entry.recipe (length (kept ++ entry.fresh))
    × (bytes_named (kept ++ entry.fresh) entry.recipe ≡ entry.length)
    × AreSound (kept ++ entry.fresh) entries

-- a recipe without a flaw has entries below the number of chunks, and names as many bytes as its
-- ingest has
below-from_position : (limit : ℕ) (entries : List ℕ) → length entries ≤ position_or_len (λ n. nat_le limit n) entries → AllByRecursion (λ n. n < limit) entries
below-from_position limit [] all = tt
below-from_position limit (n ∷ entries) all = elim (cases_lt n limit) [
  | inl below ↦
      let rest = rw (lt-leb limit n below) at all in
      (below, below-from_position limit entries (omega (arith, rest)))
  | inr above ↦ let none = rw (le-leb limit n above) at all in absurd (omega (arith, none))
]

pub no_position : (limit : ℕ) (entries : List ℕ) → position (λ n. nat_le limit n) entries ≡ None → AllByRecursion (λ n. n < limit) entries
no_position limit entries none = elim (cases_lt (position_or_len (λ n. nat_le limit n) entries) (length entries)) [
  | inl found ↦ let clash = rw (lt-ltb (position_or_len (λ n. nat_le limit n) entries) (length entries) found) at none in absurd cc
  | inr all ↦ below-from_position limit entries all
]

pub neither : (a b : Option ℕ) → or_else a b ≡ None → (a ≡ None) × (b ≡ None)
neither None b none = (refl, none)
neither (Some place) b none = absurd cc

same_if_none : (a b c : ℕ) → (if a == b then None else Some c) ≡ None → a ≡ b
same_if_none a b c none = elim (cases_Bool (a == b)) [
  | inl same ↦ (Decides-eqb a b).0 same
  | inr other ↦ let clash = rw other at none in absurd cc
]

pub no_flaw_at : (session : ℕ) (place : Option ℕ) (later : Option Damage) → flaw_at session place later ≡ None → (place ≡ None) × (later ≡ None)
no_flaw_at session None later none = (refl, none)
no_flaw_at session (Some place) later none = absurd cc

-- each recipe is in order, from the number of chunks before its session to that after it
abbrev pub AreOrdered : ℕ → List Session → Type 0
AreOrdered known sessions =
    (i : ℕ) → i < length sessions → (a b : ℕ) → a ≡ known + length (chunks_in (take i sessions)) →
    b ≡ known + length (chunks_in (take (suc i) sessions)) →
    IsCounted a (slice_index_or (map (λ (s : Session). s.entry.recipe) sessions) i []) b

later-ordered : (kept : List NewChunk) (s : Session) (sessions : List Session) →
    AreOrdered (length kept) (s ∷ sessions) → AreOrdered (length (kept ++ s.entry.fresh)) sessions
later-ordered kept s sessions ordered i within a b first last =
    let longer = length-append kept s.entry.fresh in
    let before = length-append s.entry.fresh (chunks_in (take i sessions)) in
    let up_to = length-append s.entry.fresh (chunks_in (take (suc i) sessions)) in
    ordered (suc i) (omega arith) a b (omega (arith, first, longer, before)) (omega (arith, last, longer, up_to))

pub sound-sessions : (kept : List NewChunk) (k : ℕ) (sessions : List Session) → recipe_damage kept k sessions ≡ None →
    AreOrdered (length kept) sessions → AreSound kept (entries_in sessions)
sound-sessions kept k [] none ordered = tt
sound-sessions kept k (s ∷ sessions) none ordered =
    let all = kept ++ s.entry.fresh in
    let parts = no_flaw_at k (recipe_flaw all s.entry) (recipe_damage all (k + 1) sessions) none in
    let own = neither (position (λ n. nat_le (length all) n) s.entry.recipe)
    (if bytes_named all s.entry.recipe == s.entry.length then None else Some (length s.entry.recipe)) parts.0 in
    let longer = length-append kept s.entry.fresh in
    let first = length-append s.entry.fresh (chunks_in []) in
    let here = ordered 0 (omega arith) (length kept) (length all) (omega arith) (omega (arith, longer, first)) in (
      walk-counted (length kept) s.entry.recipe (length all) (no_position (length all) s.entry.recipe own.0) (omega (arith, longer)) here,
      same_if_none (bytes_named all s.entry.recipe) s.entry.length (length s.entry.recipe) own.1,
      sound-sessions all (k + 1) sessions parts.1 (later-ordered kept s sessions ordered),
    )

-- the limits of a book
pub record IsWithin (sessions : List Session) : Type 0 where
  pub sessions_few : length sessions ≤ MAX_SESSIONS
  pub places_few : places_in sessions ≤ MAX_PLACES
  pub chunks_few : length (chunks_in sessions) ≤ MAX_CHUNKS

length-without : (k : ℕ) (sessions : List Session) → length (without k sessions) ≡ length sessions
length-without zero [] = refl
length-without (suc k) [] = refl
length-without zero (s ∷ sessions) = refl
length-without (suc k) (s ∷ sessions) = ap suc (length-without k sessions)

places-without : (k : ℕ) (sessions : List Session) → places_in (without k sessions) ≡ places_in sessions
places-without zero [] = refl
places-without (suc k) [] = refl
places-without zero (s ∷ sessions) = refl
places-without (suc k) (s ∷ sessions) =
    sum_by-cons (λ (t : Session). length t.entry.recipe) s (without k sessions)
    ∙ ap (λ n. length s.entry.recipe + n) (places-without k sessions)
    ∙ sym (sum_by-cons (λ (t : Session). length t.entry.recipe) s sessions)

chunks-without : (k : ℕ) (sessions : List Session) → chunks_in (without k sessions) ≡ chunks_in sessions
chunks-without k sessions =
    chunks-of_entries (without k sessions) ∙ ap fresh_of (entries-without k sessions) ∙ sym (chunks-of_entries sessions)

-- a book whose records each may follow those before it is within its limits
pub records-within : (max : ℕ) (records : List Record) (sessions : List Session) → AreRecords max sessions records → IsWithin sessions →
    IsWithin (fold followed_by sessions records)
records-within max [] sessions lawful within = within
records-within max (Ingest entry ∷ records) sessions lawful within =
    let one : List Session = record { entry = entry; live = true } ∷ [] in
    let may = lawful.1.0 in
    records-within max records (sessions ++ one) lawful.1.1 (record {
      sessions_few = omega (arith, may.session_limit, length-append sessions one);
      places_few = omega (arith, may.place_limit, sum_by-append (λ (t : Session). length t.entry.recipe) sessions one);
      chunks_few =
          let more = flat_map-append (λ (t : Session). t.entry.fresh) sessions one in
          let parts = ap length more ∙ length-append (chunks_in sessions) (chunks_in one) in
          let single = ap length (append-nil entry.fresh) in
          omega (arith, may.chunk_limit, parts, single);
    })
records-within max (Drop k ∷ records) sessions lawful within =
    records-within max records (without k sessions) lawful.1.1 (record {
      sessions_few = omega (arith, within.sessions_few, length-without k sessions);
      places_few = omega (arith, within.places_few, places-without k sessions);
      chunks_few = let same = ap length (chunks-without k sessions) in omega (arith, within.chunks_few, same);
    })

-- no chunk of a book is empty
some-append : (xs ys : List NewChunk) → AllByRecursion (λ (c : NewChunk). 1 ≤ c.length) xs → AllByRecursion (λ (c : NewChunk). 1 ≤ c.length) ys →
    AllByRecursion (λ (c : NewChunk). 1 ≤ c.length) (xs ++ ys)
some-append [] ys first second = second
some-append (x ∷ xs) ys first second = (first.0, some-append xs ys first.1 second)

some-new : (chunks : List NewChunk) → AllByRecursion IsNewChunk chunks → AllByRecursion (λ (c : NewChunk). 1 ≤ c.length) chunks
some-new [] all = tt
some-new (c ∷ chunks) all = (all.0.size.0, some-new chunks all.1)

pub some-fresh : (max : ℕ) (records : List Record) (sessions : List Session) → AreRecords max sessions records →
    AllByRecursion (λ (c : NewChunk). 1 ≤ c.length) (fresh_of (entries_of records))
some-fresh max [] sessions lawful = tt
some-fresh max (Ingest entry ∷ records) sessions lawful =
    some-append entry.fresh (fresh_of (entries_of records)) (some-new entry.fresh (recursion_from_All IsNewChunk entry.fresh lawful.0.chunks))
    (some-fresh max records (followed_by sessions (Ingest entry)) lawful.1.1)
some-fresh max (Drop k ∷ records) sessions lawful = some-fresh max records (followed_by sessions (Drop k)) lawful.1.1
