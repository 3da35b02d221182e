-- The step of bytes is a record exactly if they begin with one, and short exactly if they are too
-- few.
use Rattle.std.proofs.Common.{◌≡◌, ℕ, ◌+◌, ◌^◌, ◌<◌, ◌≤◌, Bool, true, false, cond, List, [], ◌∷◌, ◌++◌, length, take, drop, Option, Some, None, refl, sym, ap, subst, ◌∙◌, append_assoc, length-append, arith, inl, inr}
use Rattle.std.specs.Prelude.{◌↔◌, ◌⊎◌, IsTrue, IfOk, OnErr, Result, Ok, Err}
use Rattle.std.specs.Int.{w32, from_be_bytes}
use Rattle.std.specs.Str.{bytes_eq}
use Rattle.std.proofs.lemmas.Bool.{cases_lt, le-ltb}
use Rattle.std.proofs.lemmas.List.{take_at, drop_at, take-append-drop, length-drop}
use Rattle.std.proofs.lemmas.Nat.{from_be_bytes-to_be_bytes_4}
use Rattle.std.proofs.lemmas.Slice.Eq.{bytes_eq-Decides}
use Rattle.sha2.specs.Sha256.{sha256}
use Rattle.sha2.proofs.Facts256.{length-sha256}
use Rattle.sd_base.specs.Records.{u32_bytes, digested, sealed, kind_of, body_of, spelling_of, IsRecord, BeginsWith, stated_length, IsShort, BeginsWithNone, BeginsSealed}
use Rattle.sd_base.specs.declared.record.Record.{Record}
use Rattle.session_book.specs.Reading.{◌>>=◌, number_at, bytes_at, record_of, parts_at, whole_or_bad, step_of_body, step_of_parts, step_of}
use Rattle.session_book.specs.declared.step.Step.{Step}
use Rattle.session_book.specs.declared.step.Step.TheVariants.{Whole, Short, Bad}
use Rattle.session_book.proofs.Fields.{IsBytes, IsBytes-rest, bind_some, some_is, number_reader, bytes_take, bytes_again}
use Rattle.session_book.proofs.Bodies.{record_takes, record_again, body_is_short}

abbrev Parts : Type 0
Parts = ℕ × List ℕ × List ℕ

-- ---- the parts of a record

stated_of : (kind : ℕ) (body after : List ℕ) → length body < 2 ^ 32 → stated_length (digested kind body ++ after) ≡ length body
stated_of kind body after lt = from_be_bytes-to_be_bytes_4 (length body) lt

-- what the parts of bytes are
pub record AreParts (bytes : List ℕ) (parts : Parts) : Type 0 where
  pub rest : List ℕ
  pub spelled : bytes ≡ digested parts.0 parts.1 ++ (parts.2 ++ rest)
  pub body : IsBytes parts.1
  pub small : length parts.1 < 2 ^ 32
  pub digest : length parts.2 ≡ 32

pub parts_take : (bytes : List ℕ) (parts : Parts) → IsBytes bytes → parts_at bytes ≡ Some parts → AreParts bytes parts
unfolding parts_at
parts_take [] parts fits e = absurd cc
parts_take (kind ∷ bytes) parts fits e =
    let a = bind_some (number_at bytes) (λ size. bytes_at size.0 size.1 >>= λ body. bytes_at 32 body.1 >>= λ digest. Some (kind, body.0, digest.0)) parts e in
    let b = bind_some (bytes_at a.0.0 a.0.1) (λ body. bytes_at 32 body.1 >>= λ digest. Some (kind, body.0, digest.0)) parts a.2 in
    let c = bind_some (bytes_at 32 b.0.1) (λ digest. Some (kind, b.0.0, digest.0)) parts b.2 in
    let made : Parts = (kind, b.0.0, c.0.0) in
    let t0 = number_reader.takes bytes a.0 (IsBytes-rest kind bytes fits) a.1 in
    let t1 = bytes_take a.0.0 a.0.1 b.0 t0.0.rest_fits b.1 in
    let t2 = bytes_take 32 b.0.1 c.0 t1.0.rest_fits c.1 in
    let after : bytes ≡ u32_bytes a.0.0 ++ (b.0.0 ++ (c.0.0 ++ c.0.1)) =
    t0.0.parts ∙ ap (λ (t : List ℕ). u32_bytes a.0.0 ++ t) (t1.0.parts ∙ ap (λ (t : List ℕ). b.0.0 ++ t) t2.0.parts) in
    let grouped : bytes ≡ (u32_bytes (length b.0.0) ++ b.0.0) ++ (c.0.0 ++ c.0.1) =
    after ∙ sym (append_assoc (u32_bytes a.0.0) b.0.0 (c.0.0 ++ c.0.1))
    ∙ ap (λ (n : ℕ). (u32_bytes n ++ b.0.0) ++ (c.0.0 ++ c.0.1)) (sym t1.1) in
    let small : length b.0.0 < 2 ^ 32 = subst (λ (n : ℕ). n < 2 ^ 32) (sym t1.1) t0.1 in
    subst (AreParts (kind ∷ bytes)) (some_is made parts c.2) (record {
      rest = c.0.1;
      spelled = ap (λ (t : List ℕ). kind ∷ t) grouped;
      body = t1.2;
      small = small;
      digest = t2.1;
    })

parts_again : (kind : ℕ) (body digest rest : List ℕ) → length body < 2 ^ 32 → length digest ≡ 32 → parts_at (digested kind body ++ (digest ++ rest)) ≡ Some (kind, body, digest)
unfolding parts_at
parts_again kind body digest rest lt len =
    ap (λ (t : List ℕ). parts_at (kind ∷ t)) (append_assoc (u32_bytes (length body)) body (digest ++ rest))
    ∙ ap (λ (r : Option (ℕ × List ℕ)). r >>= λ size. bytes_at size.0 size.1 >>= λ body. bytes_at 32 body.1 >>= λ digest. Some (kind, body.0, digest.0)) (number_reader.again (length body) (body ++ (digest ++ rest)) lt)
    ∙ ap (λ (r : Option (List ℕ × List ℕ)). r >>= λ body. bytes_at 32 body.1 >>= λ digest. Some (kind, body.0, digest.0)) (bytes_again (length body) body (digest ++ rest) refl)
    ∙ ap (λ (r : Option (List ℕ × List ℕ)). r >>= λ digest. Some (kind, body, digest.0)) (bytes_again 32 digest rest len)

some_or_none : {A : Type 0} (o : Option A) → (o ≡ None) ⊎ ((x : A) × (o ≡ Some x))
some_or_none None = inl refl
some_or_none (Some x) = inr (x, refl)

not_both : {A : Type 0} (o : Option A) (x : A) → o ≡ Some x → o ≡ None → ⊥
not_both None x some none = absurd cc
not_both (Some y) x some none = absurd cc

number_is : (bytes : List ℕ) → 4 ≤ length bytes → number_at bytes ≡ Some (from_be_bytes w32 (take 4 bytes), drop 4 bytes)
number_is bytes long = ap (λ (b : Bool). cond b None (Some (from_be_bytes w32 (take 4 bytes), drop 4 bytes))) (le-ltb _ _ long)

bytes_are : (n : ℕ) (bytes : List ℕ) → n ≤ length bytes → bytes_at n bytes ≡ Some (take n bytes, drop n bytes)
bytes_are n bytes long = ap (λ (b : Bool). cond b None (Some (take n bytes, drop n bytes))) (le-ltb _ _ long)

-- bytes that are not short have parts
parts_there : (bytes : List ℕ) → 5 ≤ length bytes → 37 + stated_length bytes ≤ length bytes → parts_at bytes ≡ None → ⊥
unfolding parts_at
parts_there [] long all none = absurd (omega arith)
parts_there (kind ∷ bytes) long all none =
    let n = from_be_bytes w32 (take 4 bytes) in
    let four : 4 ≤ length bytes = omega arith in
    let size : n ≤ length (drop 4 bytes) = omega (arith, length-drop {A = ℕ} 4 bytes) in
    let after : 32 ≤ length (drop n (drop 4 bytes)) = omega (arith, length-drop {A = ℕ} 4 bytes, length-drop {A = ℕ} n (drop 4 bytes)) in
    let parts : Parts = (kind, take n (drop 4 bytes), take 32 (drop n (drop 4 bytes))) in
    let found : parts_at (kind ∷ bytes) ≡ Some parts =
    ap (λ (r : Option (ℕ × List ℕ)). r >>= λ size. bytes_at size.0 size.1 >>= λ body. bytes_at 32 body.1 >>= λ digest. Some (kind, body.0, digest.0)) (number_is bytes four)
    ∙ ap (λ (r : Option (List ℕ × List ℕ)). r >>= λ body. bytes_at 32 body.1 >>= λ digest. Some (kind, body.0, digest.0)) (bytes_are n (drop 4 bytes) size)
    ∙ ap (λ (r : Option (List ℕ × List ℕ)). r >>= λ digest. Some (kind, take n (drop 4 bytes), digest.0)) (bytes_are 32 (drop n (drop 4 bytes)) after) in
    not_both (parts_at (kind ∷ bytes)) parts found none

-- bytes with parts are not short
parts_long : (bytes : List ℕ) (parts : Parts) → AreParts bytes parts → IsShort bytes → ⊥
parts_long bytes parts are short =
    let size : length bytes ≡ 5 + length parts.1 + (32 + length are.rest) =
    ap length are.spelled ∙ omega (arith, length-append (digested parts.0 parts.1) (parts.2 ++ are.rest), length-append (u32_bytes (length parts.1)) parts.1, length-append parts.2 are.rest, are.digest) in
    let stated : stated_length bytes ≡ length parts.1 =
    ap stated_length are.spelled ∙ stated_of parts.0 parts.1 (parts.2 ++ are.rest) are.small in
    elim short [ inl few ↦ omega arith | inr fewer ↦ omega arith ]

pub short_is_no_parts : (bytes : List ℕ) → IsBytes bytes → (parts_at bytes ≡ None) ↔ IsShort bytes
short_is_no_parts bytes fits = (
  λ none. elim (cases_lt (length bytes) 5) [
    | inl few ↦ inl few
    | inr five ↦ elim (cases_lt (length bytes) (37 + stated_length bytes)) [
      | inl fewer ↦ inr fewer
      | inr all ↦ absurd (parts_there bytes five all none)
    ]
  ],
  λ short. elim (some_or_none (parts_at bytes)) [
    | inl none ↦ none
    | inr found ↦ absurd (parts_long bytes found.0 (parts_take bytes found.0 fits found.1) short)
  ],
)

-- bytes with parts of which the digest fits
sealed_front : (bytes : List ℕ) (parts : Parts) → IsBytes bytes → parts_at bytes ≡ Some parts → bytes_eq (sha256 (digested parts.0 parts.1)) parts.2 ≡ true → BeginsSealed bytes
sealed_front bytes parts fits found e =
    let are = parts_take bytes parts fits found in
    let text = digested parts.0 parts.1 in
    let same : sha256 text ≡ parts.2 = (bytes_eq-Decides (sha256 text) parts.2).0 e in
    record {
      kind = parts.0;
      body = parts.1;
      rest = are.rest;
      small = are.small;
      spelled = are.spelled ∙ sym (append_assoc text parts.2 are.rest) ∙ ap (λ (t : List ℕ). (text ++ t) ++ are.rest) (sym same);
    }

-- ---- the step

chosen_whole : (b : Bool) (n : ℕ) (r : Option Record) (entry : Record) (k : ℕ) → cond b (whole_or_bad n r) Bad ≡ Whole entry k → (b ≡ true) × (r ≡ Some entry) × (k ≡ n)
chosen_whole true n (Some entry) other k e = (refl, cc, cc)
chosen_whole true n None other k e = absurd cc
chosen_whole false n r other k e = absurd cc

never_short : (b : Bool) (n : ℕ) (r : Option Record) → cond b (whole_or_bad n r) Bad ≡ Short → ⊥
never_short true n (Some entry) e = absurd cc
never_short true n None e = absurd cc
never_short false n r e = absurd cc

-- the bytes of a spelling
pub length_spelling : (entry : Record) → length (spelling_of entry) ≡ 37 + length (body_of entry)
unfolding spelling_of
length_spelling entry =
    let text = digested (kind_of entry) (body_of entry) in
    omega (arith, length-append text (sha256 text), length-sha256 text, length-append (u32_bytes (length (body_of entry))) (body_of entry))

pub begins_from_rest : (bytes : List ℕ) (entry : Record) (rest : List ℕ) (k : ℕ) → IsRecord entry → k ≡ length (spelling_of entry) → bytes ≡ spelling_of entry ++ rest → BeginsWith bytes entry k
begins_from_rest bytes entry rest k lawful ends spelled = record {
  lawful = lawful;
  ends = ends;
  spelled = ap (take k) spelled ∙ take_at (spelling_of entry) rest k (sym ends);
}

step_of_parts_begins : (bytes : List ℕ) (parts : Parts) (entry : Record) (k : ℕ) → AreParts bytes parts → step_of_body parts.0 parts.1 parts.2 ≡ Whole entry k → BeginsWith bytes entry k
unfolding spelling_of
step_of_parts_begins bytes parts entry k are e =
    let text = digested parts.0 parts.1 in
    let g = chosen_whole (bytes_eq (sha256 text) parts.2) (37 + length parts.1) (record_of parts.0 parts.1) entry k e in
    let same : sha256 text ≡ parts.2 = (bytes_eq-Decides (sha256 text) parts.2).0 g.0 in
    let is = record_takes parts.0 parts.1 entry are.body g.1 in
    let text_is : text ≡ digested (kind_of entry) (body_of entry) = ap (λ (kind : ℕ). digested kind parts.1) is.kind_is ∙ ap (digested (kind_of entry)) is.body_is in
    let spelled : bytes ≡ spelling_of entry ++ are.rest =
    are.spelled ∙ sym (append_assoc text parts.2 are.rest) ∙ ap (λ (t : List ℕ). (text ++ t) ++ are.rest) (sym same) ∙ ap (λ (t : List ℕ). sealed t ++ are.rest) text_is in
    begins_from_rest bytes entry are.rest k is.lawful (g.2 ∙ ap (λ (t : List ℕ). 37 + length t) is.body_is ∙ sym (length_spelling entry)) spelled

-- what is spelled is read, whatever follows
pub step_again : (entry : Record) (rest : List ℕ) → IsRecord entry → step_of (spelling_of entry ++ rest) ≡ Whole entry (length (spelling_of entry))
unfolding step_of spelling_of
step_again entry rest lawful =
    let body = body_of entry in
    let text = digested (kind_of entry) body in
    let short : length body < 2 ^ 32 = omega (arith, body_is_short entry lawful) in
    ap step_of (append_assoc text (sha256 text) rest)
    ∙ ap step_of_parts (parts_again (kind_of entry) body (sha256 text) rest short (length-sha256 text))
    ∙ ap (λ (b : Bool). cond b (whole_or_bad (37 + length body) (record_of (kind_of entry) body)) Bad) ((bytes_eq-Decides (sha256 text) (sha256 text)).1 refl)
    ∙ ap (whole_or_bad (37 + length body)) (record_again entry lawful)
    ∙ ap (Whole entry) (sym (length_spelling entry))

pub step_is_whole : (bytes : List ℕ) → IsBytes bytes → (entry : Record) (k : ℕ) → (step_of bytes ≡ Whole entry k) ↔ BeginsWith bytes entry k
unfolding step_of
step_is_whole bytes fits entry k = (
  λ e. elim (some_or_none (parts_at bytes)) [
    | inl none ↦ let clash : Short ≡ Whole entry k = ap step_of_parts (sym none) ∙ e in absurd cc
    | inr found ↦ step_of_parts_begins bytes found.0 entry k (parts_take bytes found.0 fits found.1) (ap step_of_parts (sym found.1) ∙ e)
  ],
  λ begins.
      let spelled : bytes ≡ spelling_of entry ++ drop k bytes = sym (take-append-drop k bytes) ∙ ap (λ (t : List ℕ). t ++ drop k bytes) begins.spelled in
      ap step_of spelled ∙ step_again entry (drop k bytes) begins.lawful ∙ ap (Whole entry) (sym begins.ends),
)

pub step_is_short : (bytes : List ℕ) → IsBytes bytes → (step_of bytes ≡ Short) ↔ IsShort bytes
unfolding step_of
step_is_short bytes fits = (
  λ e. elim (some_or_none (parts_at bytes)) [
    | inl none ↦ (short_is_no_parts bytes fits).0 none
    | inr found ↦ let parts = found.0 in absurd (never_short (bytes_eq (sha256 (digested parts.0 parts.1)) parts.2) (37 + length parts.1) (record_of parts.0 parts.1) (ap step_of_parts (sym found.1) ∙ e))
  ],
  λ short. ap step_of_parts ((short_is_no_parts bytes fits).1 short),
)

bad_from_neither : (step : Step) → (step ≡ Short → ⊥) → ((entry : Record) (k : ℕ) → step ≡ Whole entry k → ⊥) → step ≡ Bad
bad_from_neither (Whole entry k) short whole = absurd (whole entry k refl)
bad_from_neither Short short whole = absurd (short refl)
bad_from_neither Bad short whole = refl

pub step_is_bad : (bytes : List ℕ) → IsBytes bytes → (step_of bytes ≡ Bad) ↔ ((IsShort bytes → ⊥) × ((entry : Record) (k : ℕ) → BeginsWith bytes entry k → ⊥))
step_is_bad bytes fits = (
  λ e. (
    λ short. let is : step_of bytes ≡ Short = (step_is_short bytes fits).1 short in let clash : Short ≡ Bad = sym is ∙ e in absurd cc,
    λ entry k begins. let is : step_of bytes ≡ Whole entry k = (step_is_whole bytes fits entry k).1 begins in let clash : Whole entry k ≡ Bad = sym is ∙ e in absurd cc,
  ),
  λ neither. bad_from_neither (step_of bytes) (λ e. neither.0 ((step_is_short bytes fits).0 e)) (λ entry k e. neither.1 entry k ((step_is_whole bytes fits entry k).0 e)),
)

-- ---- what a call returns

pub whole_if_ok : {E : Type 0} (bytes : List ℕ) (r : Result Step E) → IsBytes bytes → IfOk r (λ step. step ≡ step_of bytes) → IfOk r (λ step. (entry : Record) (k : ℕ) → (step ≡ Whole entry k) ↔ BeginsWith bytes entry k)
whole_if_ok bytes (Ok step) fits e = rw e (step_is_whole bytes fits)
whole_if_ok bytes (Err e) fits _ = tt

pub short_if_ok : {E : Type 0} (bytes : List ℕ) (r : Result Step E) → IsBytes bytes → IfOk r (λ step. step ≡ step_of bytes) → IfOk r (λ step. (step ≡ Short) ↔ IsShort bytes)
short_if_ok bytes (Ok step) fits e = rw e (step_is_short bytes fits)
short_if_ok bytes (Err e) fits _ = tt

pub bad_if_ok : {E : Type 0} (bytes : List ℕ) (r : Result Step E) → IsBytes bytes → IfOk r (λ step. step ≡ step_of bytes) → IfOk r (λ step. (step ≡ Bad) ↔ BeginsWithNone bytes)
bad_if_ok bytes (Ok step) fits e = rw e (step_is_bad bytes fits)
bad_if_ok bytes (Err e) fits _ = tt

pub again_if_ok : {E : Type 0} (bytes : List ℕ) (r : Result Step E) → IfOk r (λ step. step ≡ step_of bytes) → IfOk r (λ step. (entry : Record) (rest : List ℕ) → IsRecord entry → bytes ≡ spelling_of entry ++ rest → step ≡ Whole entry (length (spelling_of entry)))
again_if_ok bytes (Ok step) e = λ entry rest lawful spelled. e ∙ ap step_of spelled ∙ step_again entry rest lawful
again_if_ok bytes (Err e) _ = tt

pub sealed_if_err : {E : Type 0} (bytes : List ℕ) (parts : Parts) (r : Result Step E) → IsBytes bytes → parts_at bytes ≡ Some parts → OnErr r (IsTrue (bytes_eq (sha256 (digested parts.0 parts.1)) parts.2)) → OnErr r (BeginsSealed bytes)
sealed_if_err bytes parts (Ok step) fits found _ = tt
sealed_if_err bytes parts (Err e) fits found holds = sealed_front bytes parts fits found holds

-- ---- no spelling begins another

steps_are : (first second : Record) (n m : ℕ) → Whole first n ≡ Whole second m → first ≡ second
steps_are first second n m e = cc

pub spelled_apart : (first second : Record) (x y : List ℕ) → IsRecord first → IsRecord second → spelling_of first ++ x ≡ spelling_of second ++ y → (first ≡ second) × (x ≡ y)
spelled_apart first second x y lawful other e =
    let same : first ≡ second = steps_are first second (length (spelling_of first)) (length (spelling_of second)) (sym (step_again first x lawful) ∙ ap step_of e ∙ step_again second y other) in
    let fronts : length (spelling_of first) ≡ length (spelling_of second) = ap (λ (entry : Record). length (spelling_of entry)) same in
    (same, sym (drop_at (spelling_of first) x (length (spelling_of first)) refl) ∙ ap (drop (length (spelling_of first))) e ∙ drop_at (spelling_of second) y (length (spelling_of first)) (sym fronts))
