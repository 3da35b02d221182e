-- What a replay finds in the whole records at the front of a book's file, it finds in the file.
use Rattle.std.proofs.Common.{◌≡◌, inl, inr, ℕ, zero, suc, ◌+◌, ◌-◌, ◌^◌, ◌<◌, ◌≤◌, true, false, List, [], ◌∷◌, ◌++◌, length, take, drop, refl, sym, ap, subst, ◌∙◌, append_assoc, length-append, arith}
use Rattle.std.specs.Prelude.{IfSome, Option, Some, None, unwrap_or}
use Rattle.std.proofs.lemmas.Bool.{cases_lt, le-ltb, lt-ltb}
use Rattle.std.proofs.lemmas.List.{drop_at, drop-drop, take-append-drop, take-append-le, length-drop, length-take}
use Rattle.std.proofs.lemmas.Nat.{from_be_bytes-to_be_bytes_4}
use Rattle.sha2.specs.Sha256.{sha256}
use Rattle.sha2.proofs.Facts256.{length-sha256}
use Rattle.sd_base.specs.Books.{AreRecords, HoldsRecords, IsBookDamage, IsFirstBadRecord, IsReplay, BookState, book_of, followed_by}
use Rattle.sd_base.specs.Records.{BeginsWith, IsRecord, body_of, digested, kind_of, spelling_of, stated_length, u32_bytes}
use Rattle.sd_base.specs.declared.damage.Damage.{Damage}
use Rattle.sd_base.specs.declared.record.Record.{Record}
use Rattle.sd_base.specs.declared.record.Session.{Session}
use Rattle.sd_base.specs.declared.record.TheConstants.{AROUND_BODY, NUMBER_LEN}
use Rattle.session_book.proofs.Bodies.{body_is_short}
use Rattle.store_core.specs.BookFiles.{is_short, stated_record, whole_len}

-- the spelling of a record, cut after what its digest is of
spelled_parts : (entry : Record) (rest : List ℕ) →
    spelling_of entry ++ rest ≡ digested (kind_of entry) (body_of entry) ++ (sha256 (digested (kind_of entry) (body_of entry)) ++ rest)
unfolding spelling_of
spelled_parts entry rest = append_assoc (digested (kind_of entry) (body_of entry)) (sha256 (digested (kind_of entry) (body_of entry))) rest

stated_of : (kind : ℕ) (body after : List ℕ) → length body < 2 ^ 32 → stated_length (digested kind body ++ after) ≡ length body
stated_of kind body after lt = from_be_bytes-to_be_bytes_4 (length body) lt

length-spelling : (entry : Record) → length (spelling_of entry) ≡ AROUND_BODY + length (body_of entry)
unfolding spelling_of
length-spelling entry =
    let kind = kind_of entry in
    let body = body_of entry in
    omega (arith, length-append (digested kind body) (sha256 (digested kind body)), length-append (u32_bytes (length body)) body, length-sha256 (digested kind body))

-- a spelled record states its own length
stated-spelled : (entry : Record) (rest : List ℕ) → IsRecord entry → AROUND_BODY + stated_length (spelling_of entry ++ rest) ≡ length (spelling_of entry)
stated-spelled entry rest lawful =
    let small = body_is_short entry lawful in
    let stated = ap stated_length (spelled_parts entry rest)
    ∙ stated_of (kind_of entry) (body_of entry) (sha256 (digested (kind_of entry) (body_of entry)) ++ rest) (omega (arith, small)) in
    omega (arith, stated, length-spelling entry)

not_short : (bytes : List ℕ) → 1 + NUMBER_LEN ≤ length bytes → AROUND_BODY + stated_length bytes ≤ length bytes → is_short bytes ≡ false
not_short bytes long whole = rw (le-ltb (length bytes) (1 + NUMBER_LEN) long) (le-ltb (length bytes) (AROUND_BODY + stated_length bytes) whole)

whole_len-spelled : (n : ℕ) (entry : Record) (rest : List ℕ) → IsRecord entry →
    whole_len (suc n) (spelling_of entry ++ rest) ≡ length (spelling_of entry) + whole_len n rest
unfolding whole_len
whole_len-spelled n entry rest lawful =
    let stated = stated-spelled entry rest lawful in
    let all = length-append (spelling_of entry) rest in
    let size = length-spelling entry in
    rw (not_short (spelling_of entry ++ rest) (omega (arith, all, size)) (omega (arith, all, stated)))
    (ap (λ k. k + whole_len n (drop k (spelling_of entry ++ rest))) stated
    ∙ ap (λ left. length (spelling_of entry) + whole_len n left) (drop_at (spelling_of entry) rest (length (spelling_of entry)) refl))

pub whole_len-le : (n : ℕ) (bytes : List ℕ) → whole_len n bytes ≤ length bytes
unfolding whole_len
whole_len-le zero bytes = omega arith
whole_len-le (suc n) bytes = elim (cases_lt (length bytes) (1 + NUMBER_LEN)) [
  | inl few ↦ rw (lt-ltb (length bytes) (1 + NUMBER_LEN) few) (omega arith)
  | inr enough ↦ elim (cases_lt (length bytes) (AROUND_BODY + stated_length bytes)) [
    | inl fewer ↦ rw (le-ltb (length bytes) (1 + NUMBER_LEN) enough, lt-ltb (length bytes) (AROUND_BODY + stated_length bytes) fewer) (omega arith)
    | inr whole ↦
        let k = AROUND_BODY + stated_length bytes in
        let later = whole_len-le n (drop k bytes) in
        let left = length-drop {A = ℕ} k bytes in
        rw (not_short bytes enough whole) (omega (arith, later, left))
  ]
]

-- the records before record k and this record are within the first n whole ones
whole_len-reaches : (max : ℕ) (sessions : List Session) (before : List Record) (n : ℕ) (entry : Record) (rest : List ℕ) →
    AreRecords max sessions before → IsRecord entry → length before < n →
    length (book_of before) + length (spelling_of entry) ≤ whole_len n (book_of before ++ (spelling_of entry ++ rest))
whole_len-reaches max sessions before zero entry rest lawful is_record few = absurd (omega (arith, few))
whole_len-reaches max sessions [] (suc n) entry rest lawful is_record few =
    let first = whole_len-spelled n entry rest is_record in omega (arith, first)
whole_len-reaches max sessions (one ∷ before) (suc n) entry rest lawful is_record few =
    let others = whole_len-reaches max (followed_by sessions one) before n entry rest lawful.1.1 is_record (omega (arith, few)) in
    let more = book_of before ++ (spelling_of entry ++ rest) in
    let first = ap (whole_len (suc n)) (append_assoc (spelling_of one) (book_of before) (spelling_of entry ++ rest))
    ∙ whole_len-spelled n one more lawful.0 in
    let size = length-append (spelling_of one) (book_of before) in
    omega (arith, others, first, size)

-- `front` is the first n whole records of the bytes, or fewer
module _ (max n : ℕ) (bytes : List ℕ) where
  abbrev pub front : List ℕ
  front = take (whole_len n bytes) bytes

  front-split : bytes ≡ front ++ drop (whole_len n bytes) bytes
  front-split = sym (take-append-drop (whole_len n bytes) bytes)

  length-front : length front ≡ whole_len n bytes
  length-front = let within = whole_len-le n bytes in omega (arith, within, length-take {A = ℕ} (whole_len n bytes) bytes)

  -- records that the front holds stand in the file
  held-front : (records : List Record) → HoldsRecords max front records → HoldsRecords max bytes records
  held-front records holds = record {
    lawful = holds.lawful;
    rest = holds.rest ++ drop (whole_len n bytes) bytes;
    spelled = front-split ∙ ap (λ b. b ++ drop (whole_len n bytes) bytes) holds.spelled ∙ append_assoc (book_of records) holds.rest (drop (whole_len n bytes) bytes);
  }

  -- a record that stands next in the file stands whole in the front
  begins-front : (before : List Record) (rest : List ℕ) (entry : Record) (m : ℕ) → AreRecords max [] before → length before < n →
      front ≡ book_of before ++ rest → BeginsWith (rest ++ drop (whole_len n bytes) bytes) entry m → BeginsWith rest entry m
  begins-front before rest entry m lawful few split begins =
      let others = drop (whole_len n bytes) bytes in
      let all = rest ++ others in
      let cut : all ≡ spelling_of entry ++ drop m all = sym (take-append-drop m all) ∙ ap (λ b. b ++ drop m all) begins.spelled in
      let whole : bytes ≡ book_of before ++ (spelling_of entry ++ drop m all) =
      front-split ∙ ap (λ b. b ++ others) split ∙ append_assoc (book_of before) rest others ∙ ap (λ b. book_of before ++ b) cut in
      let reaches = subst (λ b. length (book_of before) + length (spelling_of entry) ≤ whole_len n b) (sym whole)
      (whole_len-reaches max [] before n entry (drop m all) lawful begins.lawful few) in
      let size = length-append (book_of before) rest in
      let front_size : length (book_of before ++ rest) ≡ whole_len n bytes = ap length (sym split) ∙ length-front in
      let ends = begins.ends in
      let room : m ≤ length rest = omega (arith, reaches, size, front_size, ends) in
      record { lawful = begins.lawful; ends = begins.ends; spelled = sym (take-append-le m rest others room) ∙ begins.spelled }

  pub replay-front : (book : BookState) → IsReplay max front n book → IsReplay max bytes n book
  replay-front book replay = record {
    records = replay.records;
    count = replay.count;
    holds = held-front replay.records replay.holds;
    recipes = replay.recipes;
    equals = replay.equals;
  }

  first_bad-front : (k : ℕ) → k < n → IsFirstBadRecord max front k → IsFirstBadRecord max bytes k
  unfolding held-front
  first_bad-front k few first = record {
    before = first.before;
    count = first.count;
    holds = held-front first.before first.holds;
    none = λ entry m begins follows.
        first.none entry m
        (begins-front first.before first.holds.rest entry m first.holds.lawful (omega (arith, few, first.count)) first.holds.spelled begins) follows;
  }

  pub damage-front : (damage : Damage) → IsBookDamage max front n damage → IsBookDamage max bytes n damage
  damage-front damage found = elim found [
    | inl bad ↦ inl (record { k = bad.k; within = bad.within; first = first_bad-front bad.k bad.within bad.first; equals = bad.equals })
    | inr recipe ↦ inr (record { records = recipe.records; count = recipe.count; holds = held-front recipe.records recipe.holds; first = recipe.first })
  ]

whole_len-none : (bytes : List ℕ) → whole_len zero bytes ≡ 0
unfolding whole_len
whole_len-none bytes = refl

-- no record is whole if the bytes are short
whole_len-short : (n : ℕ) (bytes : List ℕ) → is_short bytes ≡ true → whole_len n bytes ≡ 0
unfolding whole_len
whole_len-short zero bytes short = refl
whole_len-short (suc n) bytes short = rw short refl

whole_len-whole : (n : ℕ) (bytes : List ℕ) → is_short bytes ≡ false →
    whole_len (suc n) bytes ≡ (AROUND_BODY + stated_length bytes) + whole_len n (drop (AROUND_BODY + stated_length bytes) bytes)
unfolding whole_len
whole_len-whole n bytes whole = rw whole refl

is_short-few : (bytes : List ℕ) → length bytes < 1 + NUMBER_LEN → is_short bytes ≡ true
is_short-few bytes few = rw (lt-ltb (length bytes) (1 + NUMBER_LEN) few) refl

is_short-fewer : (bytes : List ℕ) → 1 + NUMBER_LEN ≤ length bytes → length bytes < AROUND_BODY + stated_length bytes → is_short bytes ≡ true
is_short-fewer bytes enough fewer = rw (le-ltb (length bytes) (1 + NUMBER_LEN) enough, lt-ltb (length bytes) (AROUND_BODY + stated_length bytes) fewer) refl

-- what a record states, if it is enough for that
stated-some : (bytes : List ℕ) (k : ℕ) → Some k ≡ stated_record bytes → (1 + NUMBER_LEN ≤ length bytes) × (k ≡ AROUND_BODY + stated_length bytes)
stated-some bytes k is = elim (cases_lt (length bytes) (1 + NUMBER_LEN)) [
  | inl few ↦ let clash : Some k ≡ None = is ∙ rw (lt-ltb (length bytes) (1 + NUMBER_LEN) few) refl in absurd cc
  | inr enough ↦
      let found : Some k ≡ Some (AROUND_BODY + stated_length bytes) = is ∙ rw (le-ltb (length bytes) (1 + NUMBER_LEN) enough) refl in
      (enough, ap (λ (o : Option ℕ). unwrap_or o 0) found)
]

stated-none : (bytes : List ℕ) → None ≡ stated_record bytes → length bytes < 1 + NUMBER_LEN
stated-none bytes is = elim (cases_lt (length bytes) (1 + NUMBER_LEN)) [
  | inl few ↦ few
  | inr enough ↦
      let clash : None ≡ Some (AROUND_BODY + stated_length bytes) = is ∙ rw (le-ltb (length bytes) (1 + NUMBER_LEN) enough) refl in absurd cc
]

-- the walk over whole records: at position `at` of a file of `size` bytes, after `counter` of so
-- many records
module _ (records counter at size : ℕ) where
  abbrev SoFar : List ℕ → Type 0
  SoFar bytes = at + whole_len (records - counter) (drop at bytes) ≡ whole_len records bytes

  stops : (bytes : List ℕ) → is_short (drop at bytes) ≡ true → SoFar bytes → at ≡ whole_len records bytes
  stops bytes short so_far =
      let none = whole_len-short (records - counter) (drop at bytes) short in omega (arith, none, so_far)

  pub stops_few : (told now : Option (List ℕ)) → now ≡ told → IfSome told SoFar →
      IfSome now (λ bytes. None ≡ stated_record (drop at bytes)) → IfSome told (λ bytes. at ≡ whole_len records bytes)
  stops_few None now same so_far stated = tt
  stops_few (Some bytes) now same so_far stated =
      let here = subst (λ (o : Option (List ℕ)). IfSome o (λ bytes. None ≡ stated_record (drop at bytes))) same stated in
      stops bytes (is_short-few (drop at bytes) (stated-none (drop at bytes) here)) so_far

  pub stops_fewer : (told now : Option (List ℕ)) (k : ℕ) → now ≡ told → IfSome told SoFar → IfSome told (λ bytes. size ≡ length bytes) → at ≤ size → size < at + k →
      IfSome now (λ bytes. Some k ≡ stated_record (drop at bytes)) → IfSome told (λ bytes. at ≡ whole_len records bytes)
  stops_fewer None now k same so_far whole within beyond stated = tt
  stops_fewer (Some bytes) now k same so_far whole within beyond stated =
      let here = subst (λ (o : Option (List ℕ)). IfSome o (λ bytes. Some k ≡ stated_record (drop at bytes))) same stated in
      let found = stated-some (drop at bytes) k here in
      let left = length-drop {A = ℕ} at bytes in
      stops bytes (is_short-fewer (drop at bytes) found.0 (omega (arith, found.1, left, whole, within, beyond))) so_far

  pub goes_on : (told now : Option (List ℕ)) (k : ℕ) → now ≡ told → IfSome told SoFar → IfSome told (λ bytes. size ≡ length bytes) → at ≤ size → at + k ≤ size → counter < records →
      IfSome now (λ bytes. Some k ≡ stated_record (drop at bytes)) →
      IfSome told (λ bytes. (at + k) + whole_len (records - (counter + 1)) (drop (at + k) bytes) ≡ whole_len records bytes)
  goes_on None now k same so_far whole within room more stated = tt
  goes_on (Some bytes) now k same so_far whole within room more stated =
      let here = subst (λ (o : Option (List ℕ)). IfSome o (λ bytes. Some k ≡ stated_record (drop at bytes))) same stated in
      let found = stated-some (drop at bytes) k here in
      let left = length-drop {A = ℕ} at bytes in
      let rest = records - (counter + 1) in
      let next : records - counter ≡ suc rest = omega (arith, more) in
      let step : whole_len (records - counter) (drop at bytes) ≡ k + whole_len rest (drop k (drop at bytes)) =
      ap (λ n. whole_len n (drop at bytes)) next
      ∙ whole_len-whole rest (drop at bytes) (not_short (drop at bytes) found.0 (omega (arith, found.1, left, whole, room)))
      ∙ ap (λ n. n + whole_len rest (drop n (drop at bytes))) (sym found.1) in
      let moved : whole_len rest (drop k (drop at bytes)) ≡ whole_len rest (drop (at + k) bytes) = ap (whole_len rest) (drop-drop k at bytes) in
      omega (arith, step, moved, so_far)

  pub ends : (told : Option (List ℕ)) → IfSome told SoFar → records ≤ counter → IfSome told (λ bytes. at ≡ whole_len records bytes)
  ends None so_far all = tt
  ends (Some bytes) so_far all =
      let none : records - counter ≡ 0 = omega (arith, all) in
      let nothing : whole_len (records - counter) (drop at bytes) ≡ 0 = ap (λ n. whole_len n (drop at bytes)) none ∙ whole_len-none (drop at bytes) in
      omega (arith, nothing, so_far)
