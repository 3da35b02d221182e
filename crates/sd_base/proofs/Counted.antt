-- Entries that are in order by the number of chunks that have occurred before them are those before
-- which each chunk with a lower number has.
use Rattle.std.proofs.Common.{◌≡◌, inl, inr, ◌⊎◌, ◌↔◌, ℕ, zero, suc, ◌+◌, ◌-◌, ◌<◌, ◌≤◌, Bool, true, false, List, [], ◌∷◌, ◌++◌, length, take, slice_index_or, refl, sym, subst, ◌∙◌, arith}
use Rattle.std.specs.Prelude.{◌==◌, cond}
use Rattle.std.specs.List.{AllByRecursion, Contains, count_by, range_with_len}
use Rattle.std.proofs.lemmas.Bool.{cases_Bool, cases_lt}
use Rattle.std.proofs.lemmas.Bool.Decides.{Decides-eqb}
use Rattle.std.proofs.Math.Seq.{take-suc}
use Rattle.std.proofs.lemmas.List.Elements.{All-from_recursion, All-get_or, Contains-append_left, Contains-push, Contains-push_cases}
use Rattle.std.proofs.lemmas.List.Sums.{sum_by-cons}
use Rattle.sd_base.specs.Firsts.{HoldsBelow}
use Rattle.sd_base.specs.Flaws.{names_chunk}
use Rattle.sd_base.proofs.Firsts.{below-same}
use Rattle.sd_base.proofs.InOrder.{HasOccurred, IsOrdered, IsWalk, contains-later, contains-parts, ordered-walk, walk-below, walk-le, walk-ordered}

-- how many chunks have occurred: those known before, and those new ones that entries name
abbrev occurred : ℕ → List ℕ → ℕ → ℕ
occurred known entries total = known + count_by (λ n. names_chunk entries n) (range_with_len known (total - known))

-- no entry is above the number of chunks that have occurred before it, and at the end all have
abbrev pub IsCounted : ℕ → List ℕ → ℕ → Type 0
IsCounted known entries total =
    HoldsBelow (suc (length entries)) (λ place. slice_index_or entries place total ≤ occurred known (take place entries) total)

-- what entries name is among them
names-contained : (entries : List ℕ) (n : ℕ) → names_chunk entries n ≡ true → Contains entries n
names-contained [] n named = absurd cc
names-contained (e ∷ entries) n named = elim (cases_Bool (e == n)) [
  | inl same ↦ (0, omega arith, (Decides-eqb e n).0 same)
  | inr other ↦ contains-later e n entries (names-contained entries n (rw other at named))
]

contained-names : (entries : List ℕ) (n : ℕ) → Contains entries n → names_chunk entries n ≡ true
contained-names [] n at = absurd (omega (arith, at.1))
contained-names (e ∷ entries) n at = elim (cases_Bool (e == n)) [
  | inl same ↦ rw same refl
  | inr other ↦ elim (contains-parts e n entries at) [
    | inl first ↦ let clash : false ≡ true = sym other ∙ (Decides-eqb e n).1 (sym first) in absurd cc
    | inr later ↦ rw other (contained-names entries n later)
  ]
]

-- the numbers from a on that pass, if those below c pass and the others do not
pub count-front : (p : ℕ → Bool) (a n c : ℕ) → a ≤ c → c ≤ a + n → ((i : ℕ) → a ≤ i → i < c → p i ≡ true) →
    ((i : ℕ) → c ≤ i → p i ≡ false) → a + count_by p (range_with_len a n) ≡ c
count-front p a zero c low high passes fails = omega arith
count-front p a (suc n) c low high passes fails =
    let rest = range_with_len (a + 1) n in
    let first = sum_by-cons (λ (x : ℕ). cond {A = ℕ} (p x) 1 0) a rest in
    elim (cases_lt a c) [
      | inl below ↦
          let later = count-front p (a + 1) n c (omega arith) (omega arith) (λ i above lower. passes i (omega arith) lower) fails in
          let one : cond {A = ℕ} (p a) 1 0 ≡ 1 = rw (passes a (omega arith) below) refl in
          omega (arith, first, later, one)
      | inr not_below ↦
          let later = count-front p (a + 1) n (a + 1) (omega arith) (omega arith) (λ i above lower. absurd (omega arith)) (λ i above. fails i (omega arith)) in
          let none : cond {A = ℕ} (p a) 1 0 ≡ 0 = rw (fails a (omega arith)) refl in
          omega (arith, first, later, none)
    ]

occurs-push : (known : ℕ) (front : List ℕ) (e n : ℕ) → HasOccurred known front n → HasOccurred known (front ++ e ∷ []) n
occurs-push known front e n (inl before) = inl before
occurs-push known front e n (inr among) = inr (Contains-append_left front (e ∷ []) n among)

push-occurs : (known : ℕ) (front : List ℕ) (e n : ℕ) → HasOccurred known (front ++ e ∷ []) n → HasOccurred known front n ⊎ (e ≡ n)
push-occurs known front e n (inl before) = inl (inl before)
push-occurs known front e n (inr among) = elim (Contains-push_cases front e n among) [
  | inl earlier ↦ inl (inr earlier)
  | inr last ↦ inr last
]

module _ (known : ℕ) (entries : List ℕ) (total : ℕ) (below : AllByRecursion (λ n. n < total) entries) (enough : known ≤ total) where
  -- the chunks that have occurred before a place are the first ones, so many
  record AreFirst (place : ℕ) : Type 0 where
    many : ℕ
    at_least : known ≤ many
    at_most : many ≤ total
    occur : (n : ℕ) → n < many → HasOccurred known (take place entries) n
    only : (n : ℕ) → HasOccurred known (take place entries) n → n < many

  abbrev IsOrderedAt : ℕ → Type 0
  IsOrderedAt place = (n : ℕ) → n < slice_index_or entries place total → HasOccurred known (take place entries) n

  abbrev IsCountedAt : ℕ → Type 0
  IsCountedAt place = slice_index_or entries place total ≤ occurred known (take place entries) total

  are-first : (place : ℕ) → place ≤ length entries → HoldsBelow place IsOrderedAt → AreFirst place
  are-first zero within ordered = record {
    many = known;
    at_least = omega arith;
    at_most = enough;
    occur = λ n lower. inl lower;
    only = λ n occurs. elim occurs [ inl before ↦ before | inr among ↦ absurd (omega (arith, among.1)) ];
  }
  are-first (suc place) within ordered =
      let before = are-first place (omega arith) (λ j lower. ordered j (omega arith)) in
      let e = slice_index_or entries place total in
      let front = take place entries in
      let more : take (suc place) entries ≡ front ++ e ∷ [] = take-suc entries place total (omega arith) in
      let small : e < total = All-get_or (λ n. n < total) entries place total (omega arith) (All-from_recursion (λ n. n < total) entries below) in
      let reached : e ≤ before.many = elim (cases_lt before.many e) [
        | inl above ↦ let clash = before.only before.many (ordered place (omega arith) before.many above) in absurd (omega (arith, clash))
        | inr not_above ↦ not_above
      ] in
      let wider : (n : ℕ) → HasOccurred known front n → HasOccurred known (take (suc place) entries) n =
      λ n occurs. subst (λ (l : List ℕ). HasOccurred known l n) (sym more) (occurs-push known front e n occurs) in
      let narrow : (n : ℕ) → HasOccurred known (take (suc place) entries) n → HasOccurred known front n ⊎ (e ≡ n) =
      λ n occurs. push-occurs known front e n (subst (λ (l : List ℕ). HasOccurred known l n) more occurs) in
      elim (cases_lt e before.many) [
        | inl old ↦ record {
          many = before.many;
          at_least = before.at_least;
          at_most = before.at_most;
          occur = λ n lower. wider n (before.occur n lower);
          only = λ n occurs. elim (narrow n occurs) [ inl earlier ↦ before.only n earlier | inr same ↦ omega (arith, same, old) ];
        }
        | inr not_old ↦ record {
          many = suc before.many;
          at_least = omega (arith, before.at_least);
          at_most = omega (arith, small, reached, not_old);
          occur = λ n lower. elim (cases_lt n before.many) [
            | inl earlier ↦ wider n (before.occur n earlier)
            | inr last ↦
                let same : e ≡ n = omega (arith, lower, last, reached, not_old) in
                subst (λ (l : List ℕ). HasOccurred known l n) (sym more) (subst (λ (m : ℕ). HasOccurred known (front ++ e ∷ []) m) same (inr (Contains-push front e)))
          ];
          only = λ n occurs. elim (narrow n occurs) [
            | inl earlier ↦ let lower = before.only n earlier in omega (arith, lower)
            | inr same ↦ omega (arith, same, reached)
          ];
        }
      ]

  counted-at : (place : ℕ) → place < suc (length entries) → HoldsBelow place IsOrderedAt → IsOrderedAt place ↔ IsCountedAt place
  counted-at place within ordered =
      let first = are-first place (omega arith) ordered in
      let front = take place entries in
      let number : occurred known front total ≡ first.many =
      count-front (λ n. names_chunk front n) known (total - known) first.many first.at_least (omega (arith, first.at_most, enough))
      (λ i above lower. elim (first.occur i lower) [ inl old ↦ absurd (omega (arith, old, above)) | inr among ↦ contained-names front i among ])
      (λ i above. elim (cases_Bool (names_chunk front i)) [
        | inl named ↦ let clash = first.only i (inr (names-contained front i named)) in absurd (omega (arith, clash, above))
        | inr none ↦ none
      ]) in
      let x = slice_index_or entries place total in (
        λ holds. elim (cases_lt first.many x) [
          | inl above ↦ let clash = first.only first.many (holds first.many above) in absurd (omega (arith, clash))
          | inr not_above ↦ omega (arith, number, not_above)
        ],
        λ counted n lower. first.occur n (omega (arith, counted, number, lower)),
      )

  pub ordered-counted : IsOrdered known entries total ↔ IsCounted known entries total
  ordered-counted = below-same (suc (length entries)) IsOrderedAt IsCountedAt counted-at

-- a walk is in order
pub counted-walk : (known : ℕ) (entries : List ℕ) (total : ℕ) → IsWalk known entries total → IsCounted known entries total
counted-walk known entries total walk =
    (ordered-counted known entries total (walk-below known entries total walk) (walk-le known entries total walk)).0 (ordered-walk known entries total walk)

-- entries in order are a walk, if they are below the number of all chunks
pub walk-counted : (known : ℕ) (entries : List ℕ) (total : ℕ) → AllByRecursion (λ n. n < total) entries → known ≤ total →
    IsCounted known entries total → IsWalk known entries total
walk-counted known entries total below enough counted =
    walk-ordered known entries total below enough ((ordered-counted known entries total below enough).1 counted)
