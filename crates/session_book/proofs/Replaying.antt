-- Reading a book record by record finds its records and no others.
use Rattle.std.proofs.Common.{◌≡◌, ℕ, ◌+◌, ◌*◌, ◌<◌, ◌≤◌, true, cond, List, [], ◌∷◌, ◌++◌, length, take, drop, Some, None, refl, sym, ap, subst, ◌∙◌, append_assoc, length-append, arith}
use Rattle.std.specs.Prelude.{Result, Ok, Err, OnOk}
use Rattle.std.specs.List.{fold}
use Rattle.std.proofs.lemmas.Grind.{flat_map-append}
use Rattle.std.proofs.lemmas.List.{append-nil, length-take, take-append-drop, take_at}
use Rattle.std.proofs.lemmas.List.Sums.{sum_by-append, fold-append}
use Rattle.sd_base.specs.Records.{spelling_of, IsRecord, BeginsWith}
use Rattle.sd_base.specs.Books.{BookState, followed_by, sessions_of, MayFollow, AreRecords, book_of, book_after, with_record, recipe_damage, IsReplayedOn, AddingIsReplaying, IsReplay, IsRecordDamage, IsRecipeDamage}
use Rattle.sd_base.specs.declared.damage.Damage.{Damage}
use Rattle.sd_base.specs.declared.damage.Damage.TheVariants.{Record as BadRecord}
use Rattle.sd_base.specs.declared.limits.TheConstants.{MAX_SESSIONS}
use Rattle.sd_base.specs.declared.record.Session.{Session}
use Rattle.sd_base.specs.declared.record.Record.{Record}
use Rattle.sd_base.specs.declared.record.Record.TheVariants.{Ingest, Drop}
use Rattle.session_book.specs.Replaying.{IsNext, HasNoNext, HasRead}
use Rattle.session_book.proofs.Adding.{live_count, drop_leaves}

abbrev pub sessions_after : List Session → List Record → List Session
sessions_after sessions records = fold followed_by sessions records

-- ---- one more record

lawful_more : (max : ℕ) (sessions : List Session) (records : List Record) (entry : Record) → AreRecords max sessions records → IsRecord entry → MayFollow max (sessions_after sessions records) entry → AreRecords max sessions (records ++ entry ∷ [])
lawful_more max sessions [] entry lawful is follows = (is, (follows, tt))
lawful_more max sessions (first ∷ records) entry lawful is follows = (lawful.0, (lawful.1.0, lawful_more max (followed_by sessions first) records entry lawful.1.1 is follows))

book_of_more : (records : List Record) (entry : Record) → book_of (records ++ entry ∷ []) ≡ book_of records ++ spelling_of entry
book_of_more records entry = flat_map-append spelling_of records (entry ∷ []) ∙ ap (λ (t : List ℕ). book_of records ++ t) (append-nil (spelling_of entry))

book_after_more : (max : ℕ) (records : List Record) (entry : Record) → with_record (book_after max records) entry ≡ book_after max (records ++ entry ∷ [])
book_after_more max records entry =
    let made : List Session → ℕ → BookState = λ sessions used. record { sessions = sessions; used = used; max = max } in
    let used : length (book_of records) + length (spelling_of entry) ≡ length (book_of (records ++ entry ∷ [])) =
    sym (ap length (book_of_more records entry) ∙ length-append (book_of records) (spelling_of entry)) in
    ap (λ (sessions : List Session). made sessions (length (book_of records) + length (spelling_of entry))) (sym (fold-append followed_by [] records (entry ∷ [])))
    ∙ ap (made (sessions_of (records ++ entry ∷ []))) used

pub read_none : (max : ℕ) (bytes : List ℕ) → HasRead max bytes bytes 0 (record { sessions = []; used = 0; max = max })
read_none max bytes = record { records = []; count = refl; lawful = tt; spelled = refl; equals = refl }

pub read_more : (max : ℕ) (bytes rest after : List ℕ) (k : ℕ) (old new : BookState) → HasRead max bytes rest k old → IsNext old new rest after → HasRead max bytes after (k + 1) new
read_more max bytes rest after k old new read next =
    let entry = next.entry in
    let follows : MayFollow max (sessions_of read.records) entry = subst (λ (book : BookState). MayFollow book.max book.sessions entry) read.equals next.follows in
    record {
      records = read.records ++ entry ∷ [];
      count = omega (arith, length-append read.records (entry ∷ []), read.count);
      lawful = lawful_more max [] read.records entry read.lawful next.lawful follows;
      spelled = read.spelled ∙ ap (λ (t : List ℕ). book_of read.records ++ t) next.spelled ∙ sym (append_assoc (book_of read.records) (spelling_of entry) after) ∙ ap (λ (t : List ℕ). t ++ after) (sym (book_of_more read.records entry));
      equals = next.added ∙ ap (λ (book : BookState). with_record book entry) read.equals ∙ book_after_more max read.records entry;
    }

pub read_stops : (max : ℕ) (bytes rest : List ℕ) (k n : ℕ) (book : BookState) → HasRead max bytes rest k book → HasNoNext book rest → k < n → IsRecordDamage max bytes n (BadRecord k)
read_stops max bytes rest k n book read unread lt = record {
  k = k;
  within = lt;
  first = record {
    before = read.records;
    count = read.count;
    holds = record { lawful = read.lawful; rest = rest; spelled = read.spelled };
    none = λ entry m begins follows. unread entry m begins (subst (λ (book : BookState). MayFollow book.max book.sessions entry) (sym read.equals) follows);
  };
  equals = refl;
}

-- ---- how many records there may be

added_live : (sessions : List Session) (entry : Session) → live_count (sessions ++ entry ∷ []) ≡ live_count sessions + (0 + cond entry.live 1 0)
added_live sessions entry = sum_by-append (λ (session : Session). cond session.live 1 0) sessions (entry ∷ [])

-- each session is one record while it is live, and two once it is dropped
record_count : (max : ℕ) (sessions : List Session) (records : List Record) → AreRecords max sessions records → length records + live_count (sessions_after sessions records) + 2 * length sessions ≡ live_count sessions + 2 * length (sessions_after sessions records)
record_count max sessions [] lawful = omega arith
record_count max sessions (Ingest entry ∷ records) lawful =
    let next : List Session = record { entry = entry; live = true } ∷ [] in
    omega (arith, record_count max (sessions ++ next) records lawful.1.1, added_live sessions (record { entry = entry; live = true }), length-append sessions next)
record_count max sessions (Drop k ∷ records) lawful =
    let left = drop_leaves sessions k lawful.1.0 in
    omega (arith, record_count max (followed_by sessions (Drop k)) records lawful.1.1, left.count, left.live)

sessions_within_limit : (max : ℕ) (sessions : List Session) (records : List Record) → AreRecords max sessions records → length sessions ≤ MAX_SESSIONS → length (sessions_after sessions records) ≤ MAX_SESSIONS
sessions_within_limit max sessions [] lawful few = few
sessions_within_limit max sessions (Ingest entry ∷ records) lawful few =
    let next : List Session = record { entry = entry; live = true } ∷ [] in
    sessions_within_limit max (sessions ++ next) records lawful.1.1 (omega (arith, length-append sessions next, lawful.1.0.session_limit))
sessions_within_limit max sessions (Drop k ∷ records) lawful few =
    let left = drop_leaves sessions k lawful.1.0 in
    sessions_within_limit max (followed_by sessions (Drop k)) records lawful.1.1 (omega (arith, left.count))

pub read_within : (max : ℕ) (bytes rest : List ℕ) (k : ℕ) (book : BookState) → HasRead max bytes rest k book → k ≤ 2 * MAX_SESSIONS
read_within max bytes rest k book read =
    let few : length (sessions_of read.records) ≤ MAX_SESSIONS = sessions_within_limit max [] read.records read.lawful (omega arith) in
    omega (arith, record_count max [] read.records read.lawful, few, read.count)

pub read_done : (max : ℕ) (bytes rest : List ℕ) (n : ℕ) (book : BookState) → HasRead max bytes rest n book → recipe_damage [] 0 book.sessions ≡ None → IsReplay max bytes n book
read_done max bytes rest n book read none = record {
  records = read.records;
  count = read.count;
  holds = record { lawful = read.lawful; rest = rest; spelled = read.spelled };
  recipes = ap (λ (book : BookState). recipe_damage [] 0 book.sessions) (sym read.equals) ∙ none;
  equals = read.equals;
}

pub read_fails : (max : ℕ) (bytes rest : List ℕ) (n : ℕ) (book : BookState) (damage : Damage) → HasRead max bytes rest n book → recipe_damage [] 0 book.sessions ≡ Some damage → IsRecipeDamage max bytes n damage
read_fails max bytes rest n book damage read some = record {
  records = read.records;
  count = read.count;
  holds = record { lawful = read.lawful; rest = rest; spelled = read.spelled };
  first = ap (λ (book : BookState). recipe_damage [] 0 book.sessions) (sym read.equals) ∙ some;
}

-- ---- a record that is read

pub begins_within : (bytes : List ℕ) (entry : Record) (n : ℕ) → BeginsWith bytes entry n → n ≤ length bytes
begins_within bytes entry n begins =
    omega (arith, length-take n bytes, ap length begins.spelled, begins.ends)

pub next_from : (old new : BookState) (bytes rest : List ℕ) (entry : Record) (n : ℕ) → BeginsWith bytes entry n → MayFollow old.max old.sessions entry → rest ≡ drop n bytes → new ≡ with_record old entry → IsNext old new bytes rest
next_from old new bytes rest entry n begins follows after added = record {
  entry = entry;
  lawful = begins.lawful;
  follows = follows;
  spelled = sym (take-append-drop n bytes) ∙ ap (λ (t : List ℕ). t ++ drop n bytes) begins.spelled ∙ ap (λ (t : List ℕ). spelling_of entry ++ t) (sym after);
  added = added;
}

-- ---- a record that is added

added : (max : ℕ) (bytes rest : List ℕ) (n : ℕ) (book : BookState) (entry : Record) → IsReplay max bytes n book → IsRecord entry → MayFollow book.max book.sessions entry → recipe_damage [] 0 (followed_by book.sessions entry) ≡ None
    → IsReplay max (take book.used bytes ++ (spelling_of entry ++ rest)) (n + 1) (with_record book entry)
added max bytes rest n book entry replay lawful follows recipes =
    let records = replay.records in
    let used : book.used ≡ length (book_of records) = ap (λ (book : BookState). book.used) replay.equals in
    let front : take book.used bytes ≡ book_of records = ap (take book.used) replay.holds.spelled ∙ take_at (book_of records) replay.holds.rest book.used (sym used) in
    let after : with_record book entry ≡ book_after max (records ++ entry ∷ []) = ap (λ (book : BookState). with_record book entry) replay.equals ∙ book_after_more max records entry in
    record {
      records = records ++ entry ∷ [];
      count = omega (arith, length-append records (entry ∷ []), replay.count);
      holds = record {
        lawful = lawful_more max [] records entry replay.holds.lawful lawful (subst (λ (book : BookState). MayFollow book.max book.sessions entry) replay.equals follows);
        rest = rest;
        spelled = ap (λ (t : List ℕ). t ++ (spelling_of entry ++ rest)) front ∙ sym (append_assoc (book_of records) (spelling_of entry) rest) ∙ ap (λ (t : List ℕ). t ++ rest) (sym (book_of_more records entry));
      };
      recipes = ap (λ (book : BookState). recipe_damage [] 0 book.sessions) (sym after) ∙ recipes;
      equals = after;
    }

pub adding : AddingIsReplaying
adding book entry lawful follows = λ bytes rest n replay recipes. added book.max bytes rest n book entry replay lawful follows recipes

pub replayed_on : {E : Type 0} (old new : BookState) (entry : Record) (r : Result (Unit {0}) E) → IsRecord entry → MayFollow old.max old.sessions entry → OnOk r (new ≡ with_record old entry) → OnOk r (IsReplayedOn old entry new)
replayed_on old new entry (Ok done) lawful follows e = subst (IsReplayedOn old entry) (sym e) (adding old entry lawful follows)
replayed_on old new entry (Err e) lawful follows _ = tt
