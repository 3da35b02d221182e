-- The counts of the places of live sessions, and what one more session or a drop changes of them.
use Rattle.std.proofs.Common.{◌≡◌, inl, inr, ℕ, zero, suc, ◌+◌, ◌-◌, ◌<◌, ◌≤◌, ◌==◌, Bool, true, false, cond, List, [], ◌∷◌, ◌++◌, drop, length, take, replicate, refl, ap, sym, subst, ◌∙◌, arith, length-append, append-nil}
use Rattle.std.specs.Prelude.{IsTrue, None, Option, Some, if◌then◌else◌, option_map, slice_index_or}
use Rattle.std.specs.List.{All, AllByRecursion, slice_get, sum}
use Rattle.std.proofs.Math.ListN.{get_or-append}
use Rattle.std.proofs.lemmas.Bool.{cases_Bool, cases_lt, eqb-true}
use Rattle.std.proofs.lemmas.Grind.{flat_map-append, get_or_default_zero}
use Rattle.std.proofs.lemmas.List.{append_assoc, get_or-append_right, get_or-replicate, get_or_past, length-replicate, take-append-drop, take_more}
use Rattle.std.proofs.lemmas.List.Concat.{flat_map-cons}
use Rattle.std.proofs.lemmas.List.Elements.{All-from_recursion, recursion_from_All}
use Rattle.std.proofs.lemmas.List.Folds.{sum_by-replicate}
use Rattle.std.proofs.lemmas.List.Sums.{sum_by-append, sum_by-cons}
use Rattle.ref_ledger.specs.Counts.{count_at}
use Rattle.sd_base.specs.Books.{chunks_in, followed_by, is_live, places_in, recipe_damage, without}
use Rattle.sd_base.specs.References.{book_places_if_live, live_book_places, occurrences}
use Rattle.sd_base.specs.declared.limits.TheConstants.{MAX_PLACES}
use Rattle.sd_base.specs.declared.record.IngestRecord.{IngestRecord}
use Rattle.sd_base.specs.declared.record.NewChunk.{NewChunk}
use Rattle.sd_base.specs.declared.record.Record.TheVariants.{Ingest}
use Rattle.sd_base.specs.declared.record.Session.{Session}
use Rattle.session_book.proofs.Adding.{drop_leaves, push_adds}
use Rattle.store_core.specs.Counting.{AreCounted, CountPlaces, places_at, recipe_at}
use Rattle.store_core.specs.Recipes.{IsInOrder}
use Rattle.store_core.proofs.IngestLemmas.{in_order-limit}
use Rattle.store_core.proofs.RestoreLemmas.{recipe-below}

-- ---- how often a number occurs

occurs-append : (i : ℕ) (xs ys : List ℕ) → occurrences i (xs ++ ys) ≡ occurrences i xs + occurrences i ys
occurs-append i xs ys = sum_by-append (λ x. cond (x == i) 1 0) xs ys

weight : Bool → ℕ
weight b = cond b 1 0

-- a number above all others does not occur
occurs-none : (i bound : ℕ) (xs : List ℕ) → AllByRecursion (λ x. x < bound) xs → bound ≤ i → occurrences i xs ≡ 0
unfolding weight
occurs-none i bound [] all above = refl
occurs-none i bound (x ∷ xs) all above =
    let rest = occurs-none i bound xs all.1 above in
    let here = sum_by-cons (λ y. weight (y == i)) x xs in
    elim (cases_Bool (x == i)) [
      | inl same ↦ absurd (omega (arith, eqb-true x i same, all.0, above))
      | inr other ↦
          let none = ap weight other in
          omega (arith, here, none, rest)
    ]

-- ---- counts

all-zero : (n i : ℕ) → count_at (replicate n 0) i ≡ 0
all-zero n i = elim (cases_lt i n) [
  | inl below ↦ get_or-replicate n i 0 0 below
  | inr past ↦ get_or_past (replicate n 0) i 0 (omega (arith, past, length-replicate {A = ℕ} n 0))
]

-- counts of nothing
pub none-counted : (n : ℕ) → CountPlaces [] (replicate n 0)
none-counted n = record {
  counted = λ i. all-zero n i;
  total = omega (arith, sum_by-replicate (λ x. x) n 0);
}

-- counts of more chunks, which no place names
pub more-counted : (places counts : List ℕ) (n : ℕ) → CountPlaces places counts → CountPlaces places (counts ++ replicate n 0)
more-counted places counts n before = record {
  counted = λ i. elim (cases_lt i (length counts)) [
    | inl below ↦ get_or-append counts (replicate n 0) 0 i below ∙ before.counted i
    | inr past ↦
        get_or-append_right counts (replicate n 0) (length counts) i 0 refl past ∙ all-zero n (i - length counts)
        ∙ sym (get_or_past counts i 0 past) ∙ before.counted i
  ];
  total = omega (arith, before.total, sum_by-append (λ x. x) counts (replicate n 0), sum_by-replicate (λ x. x) n 0);
}

-- counts of some more places
pub places-added : (places more old new : List ℕ) → CountPlaces places old → All (λ p. p < length old) more →
    ((i : ℕ) → i < length old → count_at new i ≡ count_at old i + occurrences i more) → length new ≡ length old →
    sum new ≡ sum old + length more → CountPlaces (places ++ more) new
places-added places more old new before known added chunks total = record {
  counted = λ i. elim (cases_lt i (length old)) [
    | inl below ↦ omega (arith, added i below, before.counted i, occurs-append i places more)
    | inr past ↦
        let none = occurs-none i (length old) more (recursion_from_All (λ p. p < length old) more known) past in
        omega (
          arith,
          none,
          before.counted i,
          occurs-append i places more,
          get_or_past old i 0 past,
          get_or_past new i 0 (omega (arith, past, chunks)),
        )
  ];
  total = omega (arith, total, before.total, length-append places more);
}

-- places among others, and the counts of those left without them
module _ (front gone back old : List ℕ) (before : CountPlaces (front ++ (gone ++ back)) old) where
  pub gone-counted : (i : ℕ) → occurrences i gone ≤ count_at old i
  gone-counted i = omega (arith, before.counted i, occurs-append i front (gone ++ back), occurs-append i gone back)

  pub places-dropped : (new : List ℕ) → ((i : ℕ) → count_at new i ≡ count_at old i - occurrences i gone) →
      sum new + length gone ≡ sum old → CountPlaces (front ++ back) new
  places-dropped new less total = record {
    counted = λ i.
        omega (
          arith,
          less i,
          before.counted i,
          occurs-append i front (gone ++ back),
          occurs-append i gone back,
          occurs-append i front back,
        );
    total = omega (
      arith,
      total,
      before.total,
      length-append front (gone ++ back),
      length-append gone back,
      length-append front back,
    );
  }

-- ---- sessions

-- the places of a live session among those of all, and those left without them
pub record HasAmong (sessions : List Session) (k : ℕ) : Type 0 where
  pub front : List ℕ
  pub back : List ℕ
  pub whole : live_book_places sessions ≡ front ++ (recipe_at sessions k ++ back)
  pub rest : live_book_places (without k sessions) ≡ front ++ back

pub live-among : (sessions : List Session) (k : ℕ) → IsTrue (is_live sessions k) → HasAmong sessions k
live-among [] k live = absurd cc
live-among (s ∷ sessions) zero live = record {
  front = [];
  back = live_book_places sessions;
  whole = flat_map-cons book_places_if_live s sessions
      ∙ ap (λ b. (if b then s.entry.recipe else []) ++ live_book_places sessions) live;
  rest = flat_map-cons book_places_if_live (record { entry = s.entry; live = false }) sessions;
}
live-among (s ∷ sessions) (suc k) live =
    let later = live-among sessions k live in
    let own = book_places_if_live s in
    record {
      front = own ++ later.front;
      back = later.back;
      whole = flat_map-cons book_places_if_live s sessions ∙ ap (λ places. own ++ places) later.whole
          ∙ sym (append_assoc own later.front (recipe_at sessions k ++ later.back));
      rest = flat_map-cons book_places_if_live s (without k sessions) ∙ ap (λ places. own ++ places) later.rest
          ∙ sym (append_assoc own later.front later.back);
    }

-- the places of one more session
pub live-one_more : (sessions : List Session) (entry : IngestRecord) →
    live_book_places (sessions ++ record { entry = entry; live = true } ∷ []) ≡ live_book_places sessions ++ entry.recipe
live-one_more sessions entry =
    flat_map-append book_places_if_live sessions (record { entry = entry; live = true } ∷ [])
    ∙ ap (λ places. live_book_places sessions ++ places) (append-nil entry.recipe)

-- live sessions have no more places than all
own-fewer : (s : Session) → length (book_places_if_live s) ≤ length s.entry.recipe
own-fewer s = elim (cases_Bool s.live) [
  | inl live ↦ omega (arith, ap (λ b. length (if b then s.entry.recipe else [])) live)
  | inr gone ↦ omega (arith, ap (λ b. length (if b then s.entry.recipe else [])) gone)
]

pub live-fewer : (sessions : List Session) → length (live_book_places sessions) ≤ places_in sessions
live-fewer [] = omega arith
live-fewer (s ∷ sessions) =
    let rest = live-fewer sessions in
    let places = ap length (flat_map-cons book_places_if_live s sessions)
    ∙ length-append (book_places_if_live s) (live_book_places sessions) in
    omega (arith, rest, places, own-fewer s, sum_by-cons (λ (t : Session). length t.entry.recipe) s sessions)

-- ---- the sessions of a book, one after another

at-is : (sessions : List Session) (k : ℕ) (none : Session) → k < length sessions →
    places_at sessions k ≡ book_places_if_live (slice_index_or sessions k none)
at-is [] k none within = absurd (omega (arith, within))
at-is (s ∷ sessions) zero none within = refl
at-is (s ∷ sessions) (suc k) none within = at-is sessions k none (omega (arith, within))

-- the places of the first sessions, and of one more
pub taken-one_more : (sessions : List Session) (k : ℕ) → k < length sessions →
    live_book_places (take (k + 1) sessions) ≡ live_book_places (take k sessions) ++ places_at sessions k
taken-one_more sessions k within =
    let none : Session = record { entry = record { name = []; length = 0; fresh = []; recipe = [] }; live = false } in
    let own = slice_index_or sessions k none in
    ap live_book_places (take_more sessions k none within)
    ∙ flat_map-append book_places_if_live (take k sessions) (own ∷ [])
    ∙ ap (λ places. live_book_places (take k sessions) ++ places)
    (append-nil (book_places_if_live own) ∙ sym (at-is sessions k none within))

-- the places of a session that is not live are none
pub dead-none : (sessions : List Session) (k : ℕ) → is_live sessions k ≡ false → places_at sessions k ≡ []
dead-none [] k dead = refl
dead-none (s ∷ sessions) zero dead = ap (λ b. if b then s.entry.recipe else []) dead
dead-none (s ∷ sessions) (suc k) dead = dead-none sessions k dead

-- those of a live session are the recipe of its entry
pub live-recipe : (sessions : List Session) (k : ℕ) (entry : IngestRecord) → is_live sessions k ≡ true →
    option_map (λ (s : Session). s.entry) (slice_get sessions k) ≡ Some entry → places_at sessions k ≡ entry.recipe
live-recipe [] k entry live is = absurd cc
live-recipe (s ∷ sessions) zero entry live is =
    let same : s.entry ≡ entry = cc in
    ap (λ b. if b then s.entry.recipe else []) live ∙ ap (λ (e : IngestRecord). e.recipe) same
live-recipe (s ∷ sessions) (suc k) entry live is = live-recipe sessions k entry live is

-- and so is its recipe, live or not
pub entry-recipe : (sessions : List Session) (k : ℕ) (entry : IngestRecord) →
    option_map (λ (s : Session). s.entry) (slice_get sessions k) ≡ Some entry → recipe_at sessions k ≡ entry.recipe
entry-recipe [] k entry is = absurd cc
entry-recipe (s ∷ sessions) zero entry is =
    let same : s.entry ≡ entry = cc in ap (λ (e : IngestRecord). e.recipe) same
entry-recipe (s ∷ sessions) (suc k) entry is = entry-recipe sessions k entry is

-- a live session has an entry
pub live-entry : (sessions : List Session) (k : ℕ) → IsTrue (is_live sessions k) →
    option_map (λ (s : Session). s.entry) (slice_get sessions k) ≡ None → ⊥
live-entry [] k live missing = absurd cc
live-entry (s ∷ sessions) zero live missing = absurd cc
live-entry (s ∷ sessions) (suc k) live missing = live-entry sessions k live missing

-- if no recipe of a book fails, its places name chunks
pub places-known : (sessions : List Session) (k : ℕ) → recipe_damage [] 0 sessions ≡ None →
    All (λ p. p < length (chunks_in sessions)) (places_at sessions k)
places-known sessions k none = elim (cases_Bool (is_live sessions k)) [
  | inl live ↦ known-of-entry (option_map (λ (s : Session). s.entry) (slice_get sessions k)) refl live
  | inr dead ↦
      subst (λ places. All (λ p. p < length (chunks_in sessions)) places) (sym (dead-none sessions k dead))
      (λ i d lt. absurd (omega (arith, lt)))
] where
  known-of-entry : (entry : Option IngestRecord) → option_map (λ (s : Session). s.entry) (slice_get sessions k) ≡ entry →
      is_live sessions k ≡ true → All (λ p. p < length (chunks_in sessions)) (places_at sessions k)
  known-of-entry None is live = absurd (live-entry sessions k live is)
  known-of-entry (Some entry) is live =
      let same = entry-recipe sessions k entry is ∙ sym (live-recipe sessions k entry live is) in
      subst (λ places. All (λ p. p < length (chunks_in sessions)) places) same
      (λ i d lt. subst (λ p. p < length (chunks_in sessions)) (sym (get_or_default_zero (recipe_at sessions k) i d lt))
      (recipe-below sessions (Some k) i none lt))

-- there is room for the places of the next session
pub room-for_next : (sessions : List Session) (k : ℕ) (counts : List ℕ) → k < length sessions →
    places_in sessions ≤ MAX_PLACES → CountPlaces (live_book_places (take k sessions)) counts →
    sum counts + length (places_at sessions k) ≤ MAX_PLACES
room-for_next sessions k counts within few before =
    let first = take (k + 1) sessions in
    let rest = drop (k + 1) sessions in
    let all = ap places_in (sym (take-append-drop (k + 1) sessions))
    ∙ sum_by-append (λ (s : Session). length s.entry.recipe) first rest in
    let more = ap length (taken-one_more sessions k within)
    ∙ length-append (live_book_places (take k sessions)) (places_at sessions k) in
    omega (arith, before.total, more, live-fewer first, all, few)

-- ---- what the store keeps

-- counts of more chunks
pub counted-reserved : (sessions : List Session) (counts : List ℕ) (n : ℕ) → AreCounted sessions counts →
    AreCounted sessions (counts ++ replicate n 0)
counted-reserved sessions counts n before = record {
  places = more-counted (live_book_places sessions) counts n before.places;
  enough = omega (arith, before.enough, length-append counts (replicate n 0));
}

-- there is room for the places of one more session, if the book has room for them
pub counted-room : (sessions : List Session) (counts : List ℕ) (n : ℕ) → AreCounted sessions counts →
    places_in sessions + n ≤ MAX_PLACES → sum counts + n ≤ MAX_PLACES
counted-room sessions counts n before few = omega (arith, before.places.total, live-fewer sessions, few)

-- one more session is counted
pub counted-one_more : (sessions : List Session) (entry : IngestRecord) (old new : List ℕ) → AreCounted sessions old →
    length (chunks_in sessions) + length entry.fresh ≤ length old → All (λ p. p < length old) entry.recipe →
    ((i : ℕ) → i < length old → count_at new i ≡ count_at old i + occurrences i entry.recipe) →
    length new ≡ length old → sum new ≡ sum old + length entry.recipe →
    AreCounted (followed_by sessions (Ingest entry)) new
counted-one_more sessions entry old new before enough known added chunks total =
    let more = ap length (push_adds sessions (record { entry = entry; live = true })).chunks
    ∙ length-append (chunks_in sessions) entry.fresh in
    record {
      places = subst (λ places. CountPlaces places new) (sym (live-one_more sessions entry))
          (places-added (live_book_places sessions) entry.recipe old new before.places known added chunks total);
      enough = omega (arith, more, enough, chunks);
    }

-- a session that is dropped
module _ (sessions : List Session) (k : ℕ) (live : IsTrue (is_live sessions k)) (old : List ℕ) (before : AreCounted sessions old) where
  abbrev among : HasAmong sessions k
  among = live-among sessions k live

  whole : CountPlaces (among.front ++ (recipe_at sessions k ++ among.back)) old
  whole = subst (λ places. CountPlaces places old) among.whole before.places

  pub dropped-few : (i : ℕ) → occurrences i (recipe_at sessions k) ≤ count_at old i
  dropped-few = gone-counted among.front (recipe_at sessions k) among.back old whole

  pub dropped-counted : (new : List ℕ) → ((i : ℕ) → count_at new i ≡ count_at old i - occurrences i (recipe_at sessions k)) →
      length new ≡ length old → sum new + length (recipe_at sessions k) ≡ sum old → AreCounted (without k sessions) new
  dropped-counted new less chunks total = record {
    places = subst (λ places. CountPlaces places new) (sym among.rest)
        (places-dropped among.front (recipe_at sessions k) among.back old whole new less total);
    enough = omega (arith, before.enough, chunks, ap length (drop_leaves sessions k live).chunks);
  }

-- ---- recipes in order

below-total : (known total : ℕ) (recipe : List ℕ) → IsInOrder known recipe total → AllByRecursion (λ n. n < total) recipe
below-total known total [] order = tt
below-total known total (n ∷ recipe) (inl old) =
    let limit = in_order-limit known total recipe old.1 in
    (omega (arith, limit, old.0), below-total known total recipe old.1)
below-total known total (n ∷ recipe) (inr new) =
    let limit = in_order-limit (known + 1) total recipe new.1 in
    (omega (arith, limit, new.0), below-total (known + 1) total recipe new.1)

-- each entry of a recipe in order names a chunk
pub in_order-known : (known total : ℕ) (recipe : List ℕ) → IsInOrder known recipe total → All (λ n. n < total) recipe
in_order-known known total recipe order =
    All-from_recursion (λ n. n < total) recipe (below-total known total recipe order)

-- ---- a commit and its counts

-- there is a count for each chunk once there is room
pub reserved-enough : (counts reserved : List ℕ) (n : ℕ) → reserved ≡ counts ++ replicate (n - length counts) 0 → n ≤ length reserved
reserved-enough counts reserved n is =
    omega (
      arith,
      ap length is,
      length-append counts (replicate (n - length counts) 0),
      length-replicate {A = ℕ} (n - length counts) 0,
    )

-- the places of a recipe in order then have counts
pub reserved-known : (known n : ℕ) (recipe counts reserved : List ℕ) → IsInOrder known recipe n →
    reserved ≡ counts ++ replicate (n - length counts) 0 → All (λ p. p < length reserved) recipe
reserved-known known n recipe counts reserved order is = λ i d lt.
    let below = in_order-known known n recipe order i d lt in
    let enough = reserved-enough counts reserved n is in omega (arith, below, enough)

pub reserved-counted : (sessions : List Session) (counts reserved : List ℕ) (n : ℕ) → AreCounted sessions counts →
    reserved ≡ counts ++ replicate (n - length counts) 0 → AreCounted sessions reserved
reserved-counted sessions counts reserved n before is =
    subst (λ own. AreCounted sessions own) (sym is) (counted-reserved sessions counts (n - length counts) before)

-- the session of a recipe in order is counted
pub committed-counted : (sessions after : List Session) (entry : IngestRecord) (offered : List NewChunk)
    (recipe counts reserved new : List ℕ) (known n : ℕ) → AreCounted sessions counts →
    after ≡ followed_by sessions (Ingest entry) → entry.fresh ≡ offered → entry.recipe ≡ recipe →
    n ≡ length (chunks_in sessions ++ offered) → reserved ≡ counts ++ replicate (n - length counts) 0 →
    IsInOrder known recipe n →
    ((i : ℕ) → i < length reserved → count_at new i ≡ count_at reserved i + occurrences i recipe) →
    length new ≡ length reserved → sum new ≡ sum reserved + length recipe → AreCounted after new
committed-counted sessions after entry offered recipe counts reserved new known n before is fresh named count room order added chunks total =
    let enough = reserved-enough counts reserved n room in
    let all = length-append (chunks_in sessions) offered in
    subst (λ own. AreCounted own new) (sym is)
    (counted-one_more sessions entry reserved new (reserved-counted sessions counts reserved n before room)
    (omega (arith, ap length fresh, count, all, enough))
    (subst (λ places. All (λ p. p < length reserved) places) (sym named)
    (reserved-known known n recipe counts reserved order room))
    (λ i below. subst (λ places. count_at new i ≡ count_at reserved i + occurrences i places) (sym named) (added i below))
    chunks (subst (λ places. sum new ≡ sum reserved + length places) (sym named) total))
