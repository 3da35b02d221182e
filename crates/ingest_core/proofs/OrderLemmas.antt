-- A recipe is looked through for the first place that is out of order, and the sessions of a book
-- one after another.
use Rattle.std.proofs.Common.{◌≡◌, inl, inr, ℕ, zero, suc, ◌+◌, ◌-◌, ◌<◌, ◌≤◌, ◌==◌, true, false, List, [], ◌∷◌, ◌++◌, length, map, take, refl, sym, ap, subst, ◌∙◌, arith, append-nil, length-append}
use Rattle.std.specs.Prelude.{◌||◌, None, Some, if◌then◌else◌, nat_le, option_map, slice_index_or}
use Rattle.std.specs.List.{All, AllByRecursion, position, slice_get}
use Rattle.std.proofs.lemmas.Bool.{cases_lt, cases_Bool}
use Rattle.std.proofs.lemmas.Bool.Decides.{Decides-eqb}
use Rattle.std.proofs.lemmas.List.{get_or_past}
use Rattle.std.proofs.lemmas.List.Elements.{All-from_recursion}
use Rattle.std.proofs.lemmas.List.Folds.{list_any_more}
use Rattle.sd_base.specs.Books.{BookState, bytes_named, chunks_in, recipe_damage, recipe_flaw}
use Rattle.sd_base.specs.Firsts.{HoldsBelow, IsFirstFailing}
use Rattle.sd_base.specs.Flaws.{IsInOrder, chunks_before, names_chunk, places_and_end, recipe_in_book}
use Rattle.sd_base.specs.declared.record.IngestRecord.{IngestRecord}
use Rattle.sd_base.specs.declared.record.NewChunk.{NewChunk}
use Rattle.sd_base.specs.declared.record.Session.{Session}
use Rattle.sd_base.proofs.BookEntries.{neither, no_flaw_at, no_position}
use Rattle.sd_base.proofs.Counted.{count-front}
use Rattle.ingest_core.specs.AuditOrder.{IsPlaceInOrder, occurred_at}

-- ---- the places of one recipe

-- the numbers from `known` on that entries name are those below `now`
pub record IsWalked (known : ℕ) (front : List ℕ) (now : ℕ) : Type 0 where
  pub grows : known ≤ now
  pub named : (n : ℕ) → known ≤ n → n < now → names_chunk front n ≡ true
  pub others : (n : ℕ) → now ≤ n → names_chunk front n ≡ false

pub walked-none : (known : ℕ) → IsWalked known [] known
walked-none known = record {
  grows = omega arith;
  named = λ n above below. absurd (omega arith);
  others = λ n above. refl;
}

other-number : (e n : ℕ) → (e ≡ n → ⊥) → (e == n) ≡ false
other-number e n differs = elim (cases_Bool (e == n)) [
  | inl same ↦ absurd (differs ((Decides-eqb e n).0 same))
  | inr other ↦ other
]

module _ (known : ℕ) (recipe : List ℕ) (total place now : ℕ) (within : place < length recipe) (before : IsWalked known (take place recipe) now) where
  more : (n : ℕ) → names_chunk (take (place + 1) recipe) n ≡ (names_chunk (take place recipe) n || (slice_index_or recipe place total == n))
  more n = list_any_more (λ entry. entry == n) recipe place total within

  named-still : (n : ℕ) → names_chunk (take place recipe) n ≡ true → names_chunk (take (place + 1) recipe) n ≡ true
  named-still n named = more n ∙ rw named refl

  others-still : (n : ℕ) → names_chunk (take place recipe) n ≡ false → (slice_index_or recipe place total ≡ n → ⊥) →
      names_chunk (take (place + 1) recipe) n ≡ false
  others-still n none differs = more n ∙ rw (none, other-number (slice_index_or recipe place total) n differs) refl

  -- one more entry of a chunk that has occurred
  pub walked-old : slice_index_or recipe place total < now → IsWalked known (take (place + 1) recipe) now
  walked-old old = record {
    grows = before.grows;
    named = λ n above below. named-still n (before.named n above below);
    others = λ n above. others-still n (before.others n above) (λ same. absurd (omega (arith, same, old, above)));
  }

  -- one more entry of the next chunk
  pub walked-new : slice_index_or recipe place total ≡ now → IsWalked known (take (place + 1) recipe) (now + 1)
  walked-new next = record {
    grows = omega (arith, before.grows);
    named = λ n above below. elim (cases_lt n now) [
      | inl earlier ↦ named-still n (before.named n above earlier)
      | inr last ↦
          let none = before.others n last in
          let own : (slice_index_or recipe place total == n) ≡ true = (Decides-eqb (slice_index_or recipe place total) n).1 (omega (arith, next, below, last)) in
          more n ∙ rw (none, own) refl
    ];
    others = λ n above. others-still n (before.others n (omega (arith, above))) (λ same. absurd (omega (arith, same, next, above)));
  }

-- so many chunks have occurred before a place
pub walked-count : (known : ℕ) (recipe : List ℕ) (total place now : ℕ) → IsWalked known (take place recipe) now → now ≤ total →
    occurred_at known recipe total place ≡ now
walked-count known recipe total place now walked enough =
    count-front (λ n. names_chunk (take place recipe) n) known (total - known) now walked.grows
    (omega (arith, walked.grows, enough)) walked.named walked.others

-- the place is in order if its entry is not above that number, and only then
pub place-in_order : (known : ℕ) (recipe : List ℕ) (total place now : ℕ) → IsWalked known (take place recipe) now → now ≤ total →
    slice_index_or recipe place total ≤ now → IsPlaceInOrder known recipe total place
place-in_order known recipe total place now walked enough low =
    let count = walked-count known recipe total place now walked enough in omega (arith, count, low)

pub place-fails : (known : ℕ) (recipe : List ℕ) (total place now : ℕ) → IsWalked known (take place recipe) now → now ≤ total →
    now < slice_index_or recipe place total → IsPlaceInOrder known recipe total place → ⊥
place-fails known recipe total place now walked enough high holds =
    let count = walked-count known recipe total place now walked enough in absurd (omega (arith, count, high, holds))

-- one more place is in order
pub below-one_more : (P : ℕ → Type 0) (n more : ℕ) → more ≡ n + 1 → HoldsBelow n P → P n → HoldsBelow more P
below-one_more P n more one before here i below = elim (cases_lt i n) [
  | inl earlier ↦ before i earlier
  | inr last ↦ let same : n ≡ i = omega (arith, below, last, one) in subst P same here
]

-- the entry at the end is the number of all chunks
pub end-entry : (recipe : List ℕ) (total : ℕ) → slice_index_or recipe (length recipe) total ≡ total
end-entry recipe total = get_or_past recipe (length recipe) total (omega arith)

-- the places have all been looked at
pub end-walked : (known : ℕ) (recipe : List ℕ) (total place now : ℕ) → place ≡ length recipe → IsWalked known (take place recipe) now →
    HoldsBelow place (IsPlaceInOrder known recipe total) →
    IsWalked known (take (length recipe) recipe) now × HoldsBelow (length recipe) (IsPlaceInOrder known recipe total)
end-walked known recipe total place now end walked before = (
  subst (λ (k : ℕ). IsWalked known (take k recipe) now) end walked,
  subst (λ (k : ℕ). HoldsBelow k (IsPlaceInOrder known recipe total)) end before,
)

-- ---- the sessions of a book

-- the session of a number has this entry: its recipe is that of the entry
abbrev pub IsEntry : List Session → ℕ → IngestRecord → Type 0
IsEntry sessions k entry = option_map (λ (s : Session). s.entry) (slice_get sessions k) ≡ Some entry

pub entry-recipe : (sessions : List Session) (k : ℕ) (entry : IngestRecord) → IsEntry sessions k entry →
    slice_index_or (map (λ (s : Session). s.entry.recipe) sessions) k [] ≡ entry.recipe
entry-recipe [] k entry is = absurd cc
entry-recipe (s ∷ sessions) zero entry is =
    let same : s.entry ≡ entry = cc in ap (λ (e : IngestRecord). e.recipe) same
entry-recipe (s ∷ sessions) (suc k) entry is = entry-recipe sessions k entry is

-- its new chunks come after those of the sessions before it
pub entry-chunks : (sessions : List Session) (k : ℕ) (entry : IngestRecord) → IsEntry sessions k entry →
    length (chunks_in (take (suc k) sessions)) ≡ length (chunks_in (take k sessions)) + length entry.fresh
entry-chunks [] k entry is = absurd cc
entry-chunks (s ∷ sessions) zero entry is =
    let same : s.entry ≡ entry = cc in
    let own = ap (λ (e : IngestRecord). length e.fresh) same in
    let all = ap length (append-nil s.entry.fresh) in
    omega (arith, own, all)
entry-chunks (s ∷ sessions) (suc k) entry is =
    let rest = entry-chunks sessions k entry is in
    let before = length-append s.entry.fresh (chunks_in (take k sessions)) in
    let after = length-append s.entry.fresh (chunks_in (take (suc k) sessions)) in
    omega (arith, rest, before, after)

-- and are among all chunks
pub chunks-few : (sessions : List Session) (k : ℕ) → length (chunks_in (take k sessions)) ≤ length (chunks_in sessions)
chunks-few sessions zero = omega arith
chunks-few [] (suc k) = omega arith
chunks-few (s ∷ sessions) (suc k) =
    let rest = chunks-few sessions k in
    let front = length-append s.entry.fresh (chunks_in (take k sessions)) in
    let all = length-append s.entry.fresh (chunks_in sessions) in
    omega (arith, rest, front, all)

-- if no recipe fails, the entries of each name chunks up to and with its session
entries-below : (kept : List NewChunk) (j : ℕ) (sessions : List Session) (k : ℕ) (entry : IngestRecord) (total : ℕ) →
    recipe_damage kept j sessions ≡ None → IsEntry sessions k entry →
    total ≡ length kept + length (chunks_in (take (suc k) sessions)) → AllByRecursion (λ n. n < total) entry.recipe
entries-below kept j [] k entry total none is size = absurd cc
entries-below kept j (s ∷ sessions) zero entry total none is size =
    let all = kept ++ s.entry.fresh in
    let parts = no_flaw_at j (recipe_flaw all s.entry) (recipe_damage all (j + 1) sessions) none in
    let own = neither (position (λ n. nat_le (length all) n) s.entry.recipe)
    (if bytes_named all s.entry.recipe == s.entry.length then None else Some (length s.entry.recipe)) parts.0 in
    let same : s.entry ≡ entry = cc in
    let joined = length-append kept s.entry.fresh in
    let only = ap length (append-nil s.entry.fresh) in
    let count : length all ≡ total = omega (arith, size, joined, only) in
    subst (λ (t : ℕ). AllByRecursion (λ n. n < t) entry.recipe) count
    (subst (λ (e : IngestRecord). AllByRecursion (λ n. n < length all) e.recipe) same (no_position (length all) s.entry.recipe own.0))
entries-below kept j (s ∷ sessions) (suc k) entry total none is size =
    let all = kept ++ s.entry.fresh in
    let parts = no_flaw_at j (recipe_flaw all s.entry) (recipe_damage all (j + 1) sessions) none in
    let joined = length-append kept s.entry.fresh in
    let after = length-append s.entry.fresh (chunks_in (take (suc k) sessions)) in
    entries-below all (j + 1) sessions k entry total parts.1 is (omega (arith, size, joined, after))

-- and so do those of the list that was looked through
pub entries-named : (sessions : List Session) (k : ℕ) (entry : IngestRecord) (recipe : List ℕ) (total : ℕ) →
    recipe_damage [] 0 sessions ≡ None → IsEntry sessions k entry → recipe ≡ entry.recipe →
    total ≡ length (chunks_in (take (suc k) sessions)) → All (λ n. n < total) recipe
entries-named sessions k entry recipe total none is same size =
    subst (λ (entries : List ℕ). All (λ n. n < total) entries) (sym same)
    (All-from_recursion (λ n. n < total) entry.recipe (entries-below [] 0 sessions k entry total none is (omega (arith, size))))

-- what was looked through is session k of a book
pub record IsSession (book : BookState) (k : ℕ) (recipe : List ℕ) (known total : ℕ) : Type 0 where
  pub recipe_is : recipe ≡ recipe_in_book book k
  pub known_is : known ≡ chunks_before book k
  pub total_is : total ≡ chunks_before book (suc k)

pub session-found : (book : BookState) (k : ℕ) (entry : IngestRecord) (recipe : List ℕ) (fresh : List NewChunk) (known : ℕ) →
    IsEntry book.sessions k entry → recipe ≡ entry.recipe → fresh ≡ entry.fresh → known ≡ chunks_before book k →
    IsSession book k recipe known (known + length fresh)
session-found book k entry recipe fresh known is named new before = record {
  recipe_is = named ∙ sym (entry-recipe book.sessions k entry is);
  known_is = before;
  total_is = let more = entry-chunks book.sessions k entry is in omega (arith, more, ap length new, before);
}

-- it is in order as a whole, or its first place that is out of order was found
pub session-in_order : (book : BookState) (k : ℕ) (recipe : List ℕ) (known total : ℕ) → IsSession book k recipe known total →
    HoldsBelow (suc (length recipe)) (IsPlaceInOrder known recipe total) → HoldsBelow (places_and_end book k) (IsInOrder book k)
session-in_order book k recipe known total is holds =
    subst (λ (xs : List ℕ). HoldsBelow (suc (length xs)) (IsPlaceInOrder (chunks_before book k) xs (chunks_before book (suc k)))) is.recipe_is
    (subst (λ (n : ℕ). HoldsBelow (suc (length recipe)) (IsPlaceInOrder n recipe (chunks_before book (suc k)))) is.known_is
    (subst (λ (n : ℕ). HoldsBelow (suc (length recipe)) (IsPlaceInOrder known recipe n)) is.total_is holds))

pub session-flaw : (book : BookState) (k : ℕ) (recipe : List ℕ) (known total place : ℕ) → IsSession book k recipe known total →
    IsFirstFailing (suc (length recipe)) (IsPlaceInOrder known recipe total) place → IsFirstFailing (places_and_end book k) (IsInOrder book k) place
session-flaw book k recipe known total place is first =
    subst (λ (xs : List ℕ). IsFirstFailing (suc (length xs)) (IsPlaceInOrder (chunks_before book k) xs (chunks_before book (suc k))) place) is.recipe_is
    (subst (λ (n : ℕ). IsFirstFailing (suc (length recipe)) (IsPlaceInOrder n recipe (chunks_before book (suc k))) place) is.known_is
    (subst (λ (n : ℕ). IsFirstFailing (suc (length recipe)) (IsPlaceInOrder known recipe n) place) is.total_is first))
