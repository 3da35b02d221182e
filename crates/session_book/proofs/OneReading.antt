-- Bytes have one replay or one first damage, and never both.
use Rattle.std.proofs.Common.{◌≡◌, ℕ, ◌<◌, List, [], ◌∷◌, ◌++◌, length, Some, None, refl, sym, ap, subst, ◌∙◌, append_assoc, arith, inl, inr}
use Rattle.std.specs.Prelude.{◌↔◌, Result, Ok, Err}
use Rattle.std.proofs.lemmas.Bool.{cases_lt}
use Rattle.std.proofs.lemmas.List.Concat.{flat_map-cons}
use Rattle.sd_base.specs.Records.{spelling_of, IsRecord}
use Rattle.sd_base.specs.Books.{BookState, followed_by, sessions_of, MayFollow, AreRecords, book_of, book_after, recipe_damage, HoldsRecords, IsFirstBadRecord, IsReplay, IsBookDamage}
use Rattle.sd_base.specs.declared.damage.Damage.{Damage}
use Rattle.sd_base.specs.declared.damage.Damage.TheVariants.{Record as BadRecord}
use Rattle.sd_base.specs.declared.record.Session.{Session}
use Rattle.sd_base.specs.declared.record.Record.{Record}
use Rattle.session_book.specs.Replaying.{IfDamaged, UnlessOutOfMemory, IsFault, Replays}
use Rattle.session_book.specs.declared.replay.BookFault.{BookFault}
use Rattle.session_book.specs.declared.replay.BookFault.TheVariants.{Damaged, OutOfMemory}
use Rattle.session_book.proofs.Steps.{spelled_apart, begins_from_rest}
use Rattle.session_book.proofs.Replaying.{sessions_after}

-- the first record of a book, and what follows it
first_of : (entry : Record) (records : List Record) (rest : List ℕ) → book_of (entry ∷ records) ++ rest ≡ spelling_of entry ++ (book_of records ++ rest)
first_of entry records rest = ap (λ (t : List ℕ). t ++ rest) (flat_map-cons spelling_of entry records) ∙ append_assoc (spelling_of entry) (book_of records) rest

-- ---- one list of records

same_records : (max : ℕ) (sessions : List Session) (first second : List Record) (x y : List ℕ) → AreRecords max sessions first → AreRecords max sessions second → length first ≡ length second → book_of first ++ x ≡ book_of second ++ y → first ≡ second
same_records max sessions [] [] x y here there count e = refl
same_records max sessions [] (b ∷ second) x y here there count e = absurd (omega arith)
same_records max sessions (a ∷ first) [] x y here there count e = absurd (omega arith)
same_records max sessions (a ∷ first) (b ∷ second) x y here there count e =
    let apart = spelled_apart a b (book_of first ++ x) (book_of second ++ y) here.0 there.0 (sym (first_of a first x) ∙ e ∙ first_of b second y) in
    let lawful : AreRecords max (followed_by sessions b) first = subst (λ (entry : Record). AreRecords max (followed_by sessions entry) first) apart.0 here.1.1 in
    let rest : first ≡ second = same_records max (followed_by sessions b) first second x y lawful there.1.1 (omega arith) apart.1 in
    ap (λ (entry : Record). entry ∷ first) apart.0 ∙ ap (λ (records : List Record). b ∷ records) rest

-- what follows fewer records begins with a record
record IsLonger (max : ℕ) (sessions : List Session) (x : List ℕ) : Type 0 where
  entry : Record
  rest : List ℕ
  lawful : IsRecord entry
  follows : MayFollow max sessions entry
  spelled : x ≡ spelling_of entry ++ rest

longer : (max : ℕ) (sessions : List Session) (few more : List Record) (x y : List ℕ) → AreRecords max sessions few → AreRecords max sessions more → length few < length more → book_of few ++ x ≡ book_of more ++ y → IsLonger max (sessions_after sessions few) x
longer max sessions [] [] x y here there lt e = absurd (omega arith)
longer max sessions [] (b ∷ more) x y here there lt e = record { entry = b; rest = book_of more ++ y; lawful = there.0; follows = there.1.0; spelled = e ∙ first_of b more y }
longer max sessions (a ∷ few) [] x y here there lt e = absurd (omega arith)
longer max sessions (a ∷ few) (b ∷ more) x y here there lt e =
    let apart = spelled_apart a b (book_of few ++ x) (book_of more ++ y) here.0 there.0 (sym (first_of a few x) ∙ e ∙ first_of b more y) in
    let lawful : AreRecords max (followed_by sessions a) more = subst (λ (entry : Record). AreRecords max (followed_by sessions entry) more) (sym apart.0) there.1.1 in
    longer max (followed_by sessions a) few more x y here.1.1 lawful (omega arith) apart.1

not_held : (max : ℕ) (bytes : List ℕ) (k : ℕ) (records : List Record) → IsFirstBadRecord max bytes k → HoldsRecords max bytes records → k < length records → ⊥
not_held max bytes k records bad holds lt =
    let next = longer max [] bad.before records bad.holds.rest holds.rest bad.holds.lawful holds.lawful (omega (arith, bad.count)) (sym bad.holds.spelled ∙ holds.spelled) in
    bad.none next.entry (length (spelling_of next.entry)) (begins_from_rest bad.holds.rest next.entry next.rest (length (spelling_of next.entry)) next.lawful refl next.spelled) next.follows

-- ---- one answer

one_list : (max : ℕ) (bytes : List ℕ) (first second : List Record) → HoldsRecords max bytes first → HoldsRecords max bytes second → length first ≡ length second → first ≡ second
one_list max bytes first second here there count = same_records max [] first second here.rest there.rest here.lawful there.lawful count (sym here.spelled ∙ there.spelled)

one_replay : (max : ℕ) (bytes : List ℕ) (n : ℕ) (first second : BookState) → IsReplay max bytes n first → IsReplay max bytes n second → first ≡ second
one_replay max bytes n first second here there = here.equals ∙ ap (book_after max) (one_list max bytes here.records there.records here.holds there.holds (here.count ∙ sym there.count)) ∙ sym there.equals

not_both : (max : ℕ) (bytes : List ℕ) (n : ℕ) (book : BookState) (damage : Damage) → IsReplay max bytes n book → IsBookDamage max bytes n damage → ⊥
not_both max bytes n book damage replay (inl bad) = not_held max bytes bad.k replay.records bad.first replay.holds (omega (arith, bad.within, replay.count))
not_both max bytes n book damage replay (inr bad) =
    let same : replay.records ≡ bad.records = one_list max bytes replay.records bad.records replay.holds bad.holds (replay.count ∙ sym bad.count) in
    let clash : None ≡ Some damage = sym replay.recipes ∙ ap (λ (records : List Record). recipe_damage [] 0 (sessions_of records)) same ∙ bad.first in
    absurd cc

same_place : (max : ℕ) (bytes : List ℕ) (j k : ℕ) → IsFirstBadRecord max bytes j → IsFirstBadRecord max bytes k → j < k → ⊥
same_place max bytes j k first second lt = not_held max bytes j second.before first second.holds (omega (arith, second.count))

one_bad_record : (max : ℕ) (bytes : List ℕ) (j k : ℕ) → IsFirstBadRecord max bytes j → IsFirstBadRecord max bytes k → j ≡ k
one_bad_record max bytes j k first second =
    elim (cases_lt j k) [
      | inl lt ↦ absurd (same_place max bytes j k first second lt)
      | inr le ↦ elim (cases_lt k j) [
        | inl lt ↦ absurd (same_place max bytes k j second first lt)
        | inr other ↦ omega arith
      ]
    ]

one_damage : (max : ℕ) (bytes : List ℕ) (n : ℕ) (first second : Damage) → IsBookDamage max bytes n first → IsBookDamage max bytes n second → first ≡ second
one_damage max bytes n first second (inl a) (inl b) = a.equals ∙ ap BadRecord (one_bad_record max bytes a.k b.k a.first b.first) ∙ sym b.equals
one_damage max bytes n first second (inl a) (inr b) = absurd (not_held max bytes a.k b.records a.first b.holds (omega (arith, a.within, b.count)))
one_damage max bytes n first second (inr a) (inl b) = absurd (not_held max bytes b.k a.records b.first a.holds (omega (arith, b.within, a.count)))
one_damage max bytes n first second (inr a) (inr b) =
    let same : a.records ≡ b.records = one_list max bytes a.records b.records a.holds b.holds (a.count ∙ sym b.count) in
    let both : Some first ≡ Some second = sym a.first ∙ ap (λ (records : List Record). recipe_damage [] 0 (sessions_of records)) same ∙ b.first in
    cc

-- ---- what a replay returns

fault_is_no_book : (max : ℕ) (bytes : List ℕ) (n : ℕ) (fault : BookFault) → IsFault max bytes n fault → IfDamaged fault ((book : BookState) → (Err fault ≡ Ok book) ↔ IsReplay max bytes n book)
fault_is_no_book max bytes n (Damaged damage) is = λ book. (λ e. absurd cc, λ other. absurd (not_both max bytes n book damage other is))
fault_is_no_book max bytes n OutOfMemory is = tt

pub whole_unless : (max : ℕ) (bytes : List ℕ) (n : ℕ) (r : Result BookState BookFault) → Replays max bytes n r → UnlessOutOfMemory r ((book : BookState) → (r ≡ Ok book) ↔ IsReplay max bytes n book)
whole_unless max bytes n (Ok found) is = λ book. (
  λ e. let same : found ≡ book = cc in subst (IsReplay max bytes n) same is,
  λ other. ap Ok (one_replay max bytes n found book is other),
)
whole_unless max bytes n (Err fault) is = fault_is_no_book max bytes n fault is

abbrev failed : BookFault → Result BookState BookFault
failed fault = Err fault

fault_is_damage : (max : ℕ) (bytes : List ℕ) (n : ℕ) (fault : BookFault) → IsFault max bytes n fault → IfDamaged fault ((damage : Damage) → (failed fault ≡ failed (Damaged damage)) ↔ IsBookDamage max bytes n damage)
fault_is_damage max bytes n (Damaged found) is = λ damage. (
  λ e. let same : found ≡ damage = cc in subst (IsBookDamage max bytes n) same is,
  λ other. ap (λ (damage : Damage). failed (Damaged damage)) (one_damage max bytes n found damage is other),
)
fault_is_damage max bytes n OutOfMemory is = tt

pub damaged_unless : (max : ℕ) (bytes : List ℕ) (n : ℕ) (r : Result BookState BookFault) → Replays max bytes n r → UnlessOutOfMemory r ((damage : Damage) → (r ≡ Err (Damaged damage)) ↔ IsBookDamage max bytes n damage)
damaged_unless max bytes n (Ok found) is = λ damage. (λ e. absurd cc, λ other. absurd (not_both max bytes n found damage is other))
damaged_unless max bytes n (Err fault) is = fault_is_damage max bytes n fault is
