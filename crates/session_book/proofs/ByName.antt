-- The index of the live sessions by name.
use Rattle.std.proofs.Common.{◌≡◌, ℕ, zero, suc, ◌<◌, ◌≤◌, Bool, true, false, cond, List, [], ◌∷◌, ◌++◌, length, get_or, IsTrue, Option, Some, None, refl, sym, ap, subst, ◌∙◌, arith, inl, inr}
use Rattle.std.specs.Prelude.{◌↔◌, ◌⊎◌, ◌&&◌, nat_lt}
use Rattle.std.specs.BTreeMap.{BTreeMap, get, is_at, Updates, UpdatesBy}
use Rattle.std.specs.List.{position_or_len}
use Rattle.std.specs.Str.{bytes_eq}
use Rattle.std.proofs.lemmas.Bool.{cases_lt, lt-ltb}
use Rattle.std.proofs.lemmas.List.Quantifiers.{position-Some}
use Rattle.std.proofs.lemmas.List.Sums.{fails_before_first}
use Rattle.std.proofs.lemmas.Map.Text.{is_eq-slice_cmp}
use Rattle.std.proofs.lemmas.Slice.Eq.{bytes_eq-Decides}
use Rattle.sd_base.specs.Books.{without, is_live, live_session}
use Rattle.sd_base.specs.declared.record.IngestRecord.{IngestRecord}
use Rattle.sd_base.specs.declared.record.Session.{Session}
use Rattle.session_book.specs.BookFields.{live_name, name_cmp, IsByName}

-- ---- one more session

pushed_last : (sessions : List Session) (entry : IngestRecord) → live_name (sessions ++ record { entry = entry; live = true } ∷ []) (length sessions) ≡ Some entry.name
pushed_last [] entry = refl
pushed_last (session ∷ sessions) entry = pushed_last sessions entry

pushed_kept : (sessions : List Session) (entry : IngestRecord) (name : List ℕ) (k : ℕ) → live_name sessions k ≡ Some name → live_name (sessions ++ record { entry = entry; live = true } ∷ []) k ≡ Some name
pushed_kept [] entry name k e = absurd cc
pushed_kept (session ∷ sessions) entry name zero e = e
pushed_kept (session ∷ sessions) entry name (suc k) e = pushed_kept sessions entry name k e

pushed_only : (sessions : List Session) (entry : IngestRecord) (name : List ℕ) (k : ℕ) → live_name (sessions ++ record { entry = entry; live = true } ∷ []) k ≡ Some name → (live_name sessions k ≡ Some name) ⊎ ((k ≡ length sessions) × (name ≡ entry.name))
pushed_only [] entry name zero e = inr (refl, cc)
pushed_only [] entry name (suc k) e = absurd cc
pushed_only (session ∷ sessions) entry name zero e = inl e
pushed_only (session ∷ sessions) entry name (suc k) e =
    elim (pushed_only sessions entry name k e) [
      | inl before ↦ inl before
      | inr last ↦ inr (omega (arith, last.0), last.1)
    ]

-- ---- one session less

dropped_kept : (sessions : List Session) (j k : ℕ) (name : List ℕ) → live_name sessions k ≡ Some name → (k ≡ j → ⊥) → live_name (without j sessions) k ≡ Some name
dropped_kept [] j k name e other = absurd cc
dropped_kept (session ∷ sessions) zero zero name e other = absurd (other refl)
dropped_kept (session ∷ sessions) zero (suc k) name e other = e
dropped_kept (session ∷ sessions) (suc j) zero name e other = e
dropped_kept (session ∷ sessions) (suc j) (suc k) name e other = dropped_kept sessions j k name e (λ same. other (ap suc same))

dropped_only : (sessions : List Session) (j k : ℕ) (name : List ℕ) → live_name (without j sessions) k ≡ Some name → live_name sessions k ≡ Some name
dropped_only [] j k name e = e
dropped_only (session ∷ sessions) zero zero name e = absurd cc
dropped_only (session ∷ sessions) zero (suc k) name e = e
dropped_only (session ∷ sessions) (suc j) zero name e = e
dropped_only (session ∷ sessions) (suc j) (suc k) name e = dropped_only sessions j k name e

dropped_not : (sessions : List Session) (j : ℕ) (name : List ℕ) → live_name (without j sessions) j ≡ Some name → ⊥
dropped_not [] j name e = absurd cc
dropped_not (session ∷ sessions) zero name e = absurd cc
dropped_not (session ∷ sessions) (suc j) name e = dropped_not sessions j name e

chosen : (b : Bool) (name : List ℕ) → IsTrue b → cond b (Some name) None ≡ Some name
chosen true name live = refl
chosen false name live = absurd cc

pub live_named : (sessions : List Session) (k : ℕ) (d : Session) → IsTrue (is_live sessions k) → live_name sessions k ≡ Some (get_or sessions k d).entry.name
live_named [] k d live = absurd cc
live_named (session ∷ sessions) zero d live = chosen session.live session.entry.name live
live_named (session ∷ sessions) (suc k) d live = live_named sessions k d live

-- ---- names that compare alike are one

same_name : (a b : List ℕ) → is_at (name_cmp a) b ≡ true → a ≡ b
same_name a b e = (bytes_eq-Decides a b).0 (sym (is_eq-slice_cmp a b) ∙ e)

itself : (a : List ℕ) → is_at (name_cmp a) a ≡ true
itself a = is_eq-slice_cmp a a ∙ (bytes_eq-Decides a a).1 refl

-- ---- a search by name

-- whether a search for a name stops at a session
abbrev passes : List ℕ → Session → Bool
passes name session = session.live && bytes_eq session.entry.name name

passes_is : (live : Bool) (own name : List ℕ) → live && bytes_eq own name ≡ true → cond live (Some own) None ≡ Some name
passes_is true own name e = ap Some ((bytes_eq-Decides own name).0 e)
passes_is false own name e = absurd cc

is_passes : (live : Bool) (own name : List ℕ) → cond live (Some own) None ≡ Some name → live && bytes_eq own name ≡ true
is_passes true own name e = let same : own ≡ name = cc in (bytes_eq-Decides own name).1 same
is_passes false own name e = absurd cc

passes_named : (sessions : List Session) (k : ℕ) (d : Session) (name : List ℕ) → k < length sessions → passes name (get_or sessions k d) ≡ true → live_name sessions k ≡ Some name
passes_named [] k d name lt e = absurd (omega arith)
passes_named (session ∷ sessions) zero d name lt e = passes_is session.live session.entry.name name e
passes_named (session ∷ sessions) (suc k) d name lt e = passes_named sessions k d name (omega arith) e

named_passes : (sessions : List Session) (k : ℕ) (d : Session) (name : List ℕ) → live_name sessions k ≡ Some name → (k < length sessions) × (passes name (get_or sessions k d) ≡ true)
named_passes [] k d name e = absurd cc
named_passes (session ∷ sessions) zero d name e = (omega arith, is_passes session.live session.entry.name name e)
named_passes (session ∷ sessions) (suc k) d name e = let p = named_passes sessions k d name e in (omega (arith, p.0), p.1)

some_session : Session
some_session = record { entry = record { name = []; length = 0; fresh = []; recipe = [] }; live = false }

none_below : (n m : ℕ) → cond (nat_lt n m) (Some n) None ≡ None → m ≤ n
none_below n m e =
    elim (cases_lt n m) [
      | inl lt ↦ (let clash : Some n ≡ None = ap (λ b. cond b (Some n) None) (sym (lt-ltb n m lt)) ∙ e in absurd cc)
      | inr le ↦ le
    ]

is_found : (sessions : List Session) (name : List ℕ) (found first : Option ℕ) → ((k : ℕ) → (found ≡ Some k) ↔ (live_name sessions k ≡ Some name)) → live_session sessions name ≡ first → found ≡ first
is_found sessions name found (Some k) by_name e =
    let p = position-Some (passes name) sessions k some_session e in
    (by_name k).1 (passes_named sessions k some_session name p.0 p.1)
is_found sessions name None None by_name e = refl
is_found sessions name (Some k) None by_name e =
    let p = named_passes sessions k some_session name ((by_name k).0 refl) in
    let before : k < position_or_len (passes name) sessions = omega (arith, p.0, none_below (position_or_len (passes name) sessions) (length sessions) e) in
    let clash : true ≡ false = sym p.1 ∙ fails_before_first (passes name) sessions k some_session before in
    absurd cc

pub find_by_name : (index : BTreeMap (List ℕ) ℕ) (sessions : List Session) (name : List ℕ) → IsByName index sessions → get name_cmp index name ≡ live_session sessions name
find_by_name index sessions name by_name = is_found sessions name (get name_cmp index name) (live_session sessions name) (by_name name) refl

-- ---- the index after a step

pushed_at : (sessions : List Session) (entry : IngestRecord) (name : List ℕ) (old : Option ℕ) (here : Bool) (k : ℕ) → (here ≡ true → entry.name ≡ name) → (here ≡ false → entry.name ≡ name → ⊥) → (old ≡ Some k) ↔ (live_name sessions k ≡ Some name) → (entry.name ≡ name → old ≡ None)
    → (cond here (Some (length sessions)) old ≡ Some k) ↔ (live_name (sessions ++ record { entry = entry; live = true } ∷ []) k ≡ Some name)
pushed_at sessions entry name old true k is not by_name free = (
  λ e. let at : length sessions ≡ k = cc in subst (λ i. live_name (sessions ++ record { entry = entry; live = true } ∷ []) i ≡ Some name) at (pushed_last sessions entry ∙ ap Some (is refl)),
  λ e. elim (pushed_only sessions entry name k e) [
    | inl before ↦ (let clash : None ≡ Some k = sym (free (is refl)) ∙ by_name.1 before in absurd cc)
    | inr last ↦ ap Some (sym last.0)
  ],
)
pushed_at sessions entry name old false k is not by_name free = (
  λ e. pushed_kept sessions entry name k (by_name.0 e),
  λ e. elim (pushed_only sessions entry name k e) [
    | inl before ↦ by_name.1 before
    | inr last ↦ absurd (not refl (sym last.1))
  ],
)

pub index_pushed : (old new : BTreeMap (List ℕ) ℕ) (sessions : List Session) (entry : IngestRecord) → IsByName old sessions → live_session sessions entry.name ≡ None → Updates name_cmp old new entry.name (Some (length sessions))
    → IsByName new (sessions ++ record { entry = entry; live = true } ∷ [])
index_pushed old new sessions entry by_name free updates = λ name k.
    rw (updates.0 name) (pushed_at sessions entry name (get name_cmp old name) (is_at (name_cmp entry.name) name) k
    (same_name entry.name name)
    (λ e same. let clash : true ≡ false = sym (itself entry.name) ∙ ap (is_at (name_cmp entry.name)) same ∙ e in absurd cc)
    (by_name name k)
    (λ same. ap (get name_cmp old) (sym same) ∙ find_by_name old sessions entry.name by_name ∙ free))

dropped_at : (sessions : List Session) (j : ℕ) (gone name : List ℕ) (old : Option ℕ) (here : Bool) (k : ℕ) → live_name sessions j ≡ Some gone → (here ≡ true → gone ≡ name) → (here ≡ false → gone ≡ name → ⊥) → ((k : ℕ) → (old ≡ Some k) ↔ (live_name sessions k ≡ Some name))
    → (cond here None old ≡ Some k) ↔ (live_name (without j sessions) k ≡ Some name)
dropped_at sessions j gone name old true k live is not by_name = (
  λ e. absurd cc,
  λ e.
      let one : old ≡ Some k = (by_name k).1 (dropped_only sessions j k name e) in
      let other : old ≡ Some j = (by_name j).1 (live ∙ ap Some (is refl)) in
      let same : k ≡ j = cc in
      absurd (dropped_not sessions j name (subst (λ i. live_name (without j sessions) i ≡ Some name) same e)),
)
dropped_at sessions j gone name old false k live is not by_name = (
  λ e. dropped_kept sessions j k name ((by_name k).0 e) (λ same.
      let alike : Some gone ≡ Some name = sym live ∙ ap (live_name sessions) (sym same) ∙ (by_name k).0 e in
      not refl cc),
  λ e. (by_name k).1 (dropped_only sessions j k name e),
)

pub index_dropped : (old new : BTreeMap (List ℕ) ℕ) (sessions : List Session) (j : ℕ) (gone : List ℕ) → IsByName old sessions → live_name sessions j ≡ Some gone → UpdatesBy name_cmp (name_cmp gone) old new None → IsByName new (without j sessions)
index_dropped old new sessions j gone by_name live updates = λ name k.
    rw (updates.0 name) (dropped_at sessions j gone name (get name_cmp old name) (is_at (name_cmp gone) name) k live
    (same_name gone name)
    (λ e same. let clash : true ≡ false = sym (itself gone) ∙ ap (is_at (name_cmp gone)) same ∙ e in absurd cc)
    (by_name name))
