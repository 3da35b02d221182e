-- Opening has one verdict.
use Rattle.std.proofs.Common.{◌≡◌, ℕ, ◌<◌, ◌≤◌, ◌^◌, List, length, take, drop, ap, sym, subst, ◌∙◌, inl, inr, arith}
use lib.Pow.{pow_mono}
use Rattle.std.proofs.lemmas.Bool.{cases_lt}
use Rattle.std.proofs.lemmas.Nat.{from_be_bytes-to_be_bytes_4, from_be_bytes-to_be_bytes_8}
use Rattle.std.specs.Int.{from_be_bytes, w32, w64}
use Rattle.std.specs.Prelude.{Err, Ok, Result, slice_index_or}
use Rattle.sd_base.specs.Books.{BookState, IsBookDamage, IsReplay}
use Rattle.sd_base.specs.Opening.{HasContainer, HasHead, HeadState, IsCommittedDamage, IsContainerDamage, IsOpeningDamage, OpenAs, Opened, needed_sizes}
use Rattle.sd_base.specs.Parameters.{IsValid}
use Rattle.sd_base.specs.Settings.{settings_of}
use Rattle.sd_base.specs.Stores.{HoldNoStore}
use Rattle.sd_base.specs.declared.damage.Damage.{Damage}
use Rattle.sd_base.specs.declared.damage.Damage.TheVariants.{Container as ShortContainer}
use Rattle.sd_base.specs.declared.file.File.{File}
use Rattle.sd_base.specs.declared.file.File.TheVariants.{Book as BookFile, Container, Seal}
use Rattle.sd_base.specs.declared.raw_params.RawParams.{RawParams}
use Rattle.session_book.proofs.OneReading.{damaged_unless, whole_unless}
use Rattle.session_book.specs.declared.replay.BookFault.{BookFault}
use Rattle.session_book.specs.declared.replay.BookFault.TheVariants.{Damaged}

-- ---- one head

record_of : ℕ → ℕ → ℕ → ℕ → ℕ → RawParams
record_of polynomial bits target min max = record { polynomial = polynomial; bits = bits; target = target; min = min; max = max }

number_at : ℕ → List ℕ → ℕ
number_at at bytes = from_be_bytes w32 (take 4 (drop at bytes))

read_back : List ℕ → RawParams
read_back bytes = record_of (from_be_bytes w64 (take 8 (drop 8 bytes))) (slice_index_or bytes 6 0) (number_at 16 bytes) (number_at 20 bytes) (number_at 24 bytes)

target_few : (raw : RawParams) → IsValid raw → raw.target < 2 ^ 32
target_few raw valid =
    let small : raw.bits ≤ 32 = omega (arith, valid.bits) in
    let power : 2 ^ raw.bits ≤ 2 ^ 32 = pow_mono small in omega (arith, valid.target, power)

read-again : (raw : RawParams) → IsValid raw → read_back (settings_of raw) ≡ raw
unfolding read_back record_of number_at
read-again raw valid =
    ap (λ n. record_of n raw.bits (number_at 16 (settings_of raw)) (number_at 20 (settings_of raw)) (number_at 24 (settings_of raw))) (from_be_bytes-to_be_bytes_8 raw.polynomial valid.polynomial.1)
    ∙ ap (λ n. record_of raw.polynomial raw.bits n (number_at 20 (settings_of raw)) (number_at 24 (settings_of raw))) (from_be_bytes-to_be_bytes_4 raw.target (target_few raw valid))
    ∙ ap (λ n. record_of raw.polynomial raw.bits raw.target n (number_at 24 (settings_of raw))) (from_be_bytes-to_be_bytes_4 raw.min (omega (arith, valid.max)))
    ∙ ap (record_of raw.polynomial raw.bits raw.target raw.min) (from_be_bytes-to_be_bytes_4 raw.max (omega (arith, valid.max)))

one_params : (first second : RawParams) → IsValid first → IsValid second → settings_of first ≡ settings_of second → first ≡ second
one_params first second here there same = sym (read-again first here) ∙ ap read_back same ∙ read-again second there

head_of : RawParams → ℕ → HeadState
head_of params generation = record { params = params; generation = generation }

pub one_head : (files : File → List ℕ) (first second : HeadState) → HasHead files first → HasHead files second → first ≡ second
unfolding head_of
one_head files first second here there =
    let params : first.params ≡ second.params = one_params first.params second.params here.valid there.valid (sym here.settings ∙ there.settings) in
    let generation : first.generation ≡ second.generation = omega (arith, here.size, there.size) in
    ap (λ p. head_of p first.generation) params ∙ ap (head_of second.params) generation

-- ---- one book

abbrev HasBook : (File → List ℕ) → HeadState → BookState → Type 0
HasBook files head book = IsReplay head.params.max (files (BookFile head.generation)) (length (files (Seal head.generation))) book

abbrev HasBadBook : (File → List ℕ) → HeadState → Damage → Type 0
HasBadBook files head damage = IsBookDamage head.params.max (files (BookFile head.generation)) (length (files (Seal head.generation))) damage

abbrev whole : BookState → Result BookState BookFault
whole book = Ok book

abbrev broken : Damage → Result BookState BookFault
broken damage = Err (Damaged damage)

book-in : BookState → Result BookState BookFault → BookState
book-in book (Ok found) = found
book-in book (Err fault) = book

damage-in : Damage → Result BookState BookFault → Damage
damage-in damage (Err (Damaged found)) = found
damage-in damage _ = damage

one_book : (files : File → List ℕ) (head : HeadState) (first second : BookState) → HasBook files head first → HasBook files head second → first ≡ second
unfolding book-in
one_book files head first second here there =
    ap (book-in first) ((whole_unless head.params.max (files (BookFile head.generation)) (length (files (Seal head.generation))) (whole first) here second).1 there)

one_bad_book : (files : File → List ℕ) (head : HeadState) (first second : Damage) → HasBadBook files head first → HasBadBook files head second → first ≡ second
unfolding damage-in
one_bad_book files head first second here there =
    ap (damage-in first) ((damaged_unless head.params.max (files (BookFile head.generation)) (length (files (Seal head.generation))) (broken first) here second).1 there)

not_both_books : (files : File → List ℕ) (head : HeadState) (book : BookState) (damage : Damage) → HasBook files head book → HasBadBook files head damage → ⊥
not_both_books files head book damage here there =
    let clash : whole book ≡ broken damage = (damaged_unless head.params.max (files (BookFile head.generation)) (length (files (Seal head.generation))) (whole book) here damage).1 there in absurd cc

opened_of : HeadState → BookState → Opened
opened_of head book = record { head = head; book = book }

-- stores that open so have one head and one book
pub one_opened : (files : File → List ℕ) (first second : Opened) → HasHead files first.head → HasBook files first.head first.book →
    HasHead files second.head → HasBook files second.head second.book → first ≡ second
unfolding opened_of
one_opened files first second head book other_head other_book =
    let heads : first.head ≡ second.head = one_head files first.head second.head head other_head in
    let books : first.book ≡ second.book = one_book files second.head first.book second.book (subst (λ h. HasBook files h first.book) heads book) other_book in
    ap (λ h. opened_of h first.book) heads ∙ ap (opened_of second.head) books

-- the damage of a container that is too short
short_of : (File → List ℕ) → Opened → ℕ → Damage
short_of files opened k =
    ShortContainer k (slice_index_or (needed_sizes opened.book) k 0) (length (files (Container opened.head.generation k)))

-- ---- one verdict

module _ (files : File → List ℕ) where
  pub open_as_one : (first second : Opened) → OpenAs files first → OpenAs files second → first ≡ second
  open_as_one first second here there = one_opened files first second here.head here.committed there.head there.committed

  -- a bad book is that of no head that has a whole one
  whole_or_bad : (first : Opened) (damage : Damage) → HasHead files first.head → HasBook files first.head first.book → IsCommittedDamage files damage → ⊥
  whole_or_bad first damage head book bad =
      let heads : bad.head ≡ first.head = one_head files bad.head first.head bad.has_head head in
      not_both_books files first.head first.book damage book (subst (λ h. HasBadBook files h damage) heads bad.first)

  same_short : (first second : Opened) (j k : ℕ) → first ≡ second → ((i : ℕ) → i < k → HasContainer files second i) → j < k →
      length (files (Container first.head.generation j)) < slice_index_or (needed_sizes first.book) j 0 → ⊥
  same_short first second j k same before lt short =
      let long : HasContainer files first j = subst (λ o. HasContainer files o j) (sym same) (before j lt) in
      omega (arith, long, short)

  one_short : (first second : Damage) → IsContainerDamage files first → IsContainerDamage files second → first ≡ second
  unfolding short_of
  one_short first second a b =
      let same : a.opened ≡ b.opened = one_opened files a.opened b.opened a.head a.committed b.head b.committed in
      let number : a.number ≡ b.number = elim (cases_lt a.number b.number) [
        | inl lt ↦ absurd (same_short a.opened b.opened a.number b.number same b.before lt a.short)
        | inr le ↦ elim (cases_lt b.number a.number) [
          | inl lt ↦ absurd (same_short b.opened a.opened b.number a.number (sym same) a.before lt b.short)
          | inr other ↦ omega arith
        ]
      ] in
      a.equals ∙ ap (λ o. short_of files o a.number) same ∙ ap (short_of files b.opened) number ∙ sym b.equals

  pub have_one_damage : (first second : Damage) → IsOpeningDamage files first → IsOpeningDamage files second → first ≡ second
  have_one_damage first second (inl a) (inl b) = a.equals ∙ sym b.equals
  have_one_damage first second (inl a) (inr (inl b)) = absurd (a.none b.head b.has_head)
  have_one_damage first second (inl a) (inr (inr b)) = absurd (a.none b.opened.head b.head)
  have_one_damage first second (inr (inl a)) (inl b) = absurd (b.none a.head a.has_head)
  have_one_damage first second (inr (inl a)) (inr (inl b)) =
      let heads : a.head ≡ b.head = one_head files a.head b.head a.has_head b.has_head in
      one_bad_book files b.head first second (subst (λ h. HasBadBook files h first) heads a.first) b.first
  have_one_damage first second (inr (inl a)) (inr (inr b)) = absurd (whole_or_bad b.opened first b.head b.committed a)
  have_one_damage first second (inr (inr a)) (inl b) = absurd (b.none a.opened.head a.head)
  have_one_damage first second (inr (inr a)) (inr (inl b)) = absurd (whole_or_bad a.opened second a.head a.committed b)
  have_one_damage first second (inr (inr a)) (inr (inr b)) = one_short first second a b

  pub open_undamaged : (opened : Opened) (damage : Damage) → OpenAs files opened → IsOpeningDamage files damage → ⊥
  open_undamaged opened damage here (inl a) = a.none opened.head here.head
  open_undamaged opened damage here (inr (inl a)) = whole_or_bad opened damage here.head here.committed a
  open_undamaged opened damage here (inr (inr a)) =
      let same : a.opened ≡ opened = one_opened files a.opened opened a.head a.committed here.head here.committed in
      let long : HasContainer files a.opened a.number = subst (λ (o : Opened). (k : ℕ) → k < length (needed_sizes o.book) → HasContainer files o k) (sym same) here.containers a.number a.within in
      omega (arith, long, a.short)

  -- files that hold no store have no head
  headless : (head : HeadState) → HoldNoStore files → HasHead files head → ⊥
  headless head none has_head = omega (arith, none, has_head.size)

  pub no_store_is_not_opened : (opened : Opened) → HoldNoStore files → OpenAs files opened → ⊥
  no_store_is_not_opened opened none here = headless opened.head none here.head

  pub no_store_is_undamaged : (damage : Damage) → HoldNoStore files → IsOpeningDamage files damage → ⊥
  no_store_is_undamaged damage none (inl a) = omega (arith, none, a.long_enough)
  no_store_is_undamaged damage none (inr (inl a)) = headless a.head none a.has_head
  no_store_is_undamaged damage none (inr (inr a)) = headless a.opened.head none a.head
