-- The names of a batch of chunks, and the first that is not the one that is kept.
use Rattle.std.proofs.Common.{◌≡◌, ◌≢◌, ℕ, zero, suc, ◌+◌, ◌-◌, ◌<◌, ◌≤◌, ◌^◌, Bool, true, false, List, [], ◌∷◌, length, slice_index_or, ap, ◌∙◌, arith, subst, sym, inl, inr}
use Rattle.std.specs.Option.{option_map}
use Rattle.std.specs.Prelude.{MatchBool, MatchOption, Option, None, Some, min}
use Rattle.std.specs.List.{AllZip, range_with_len}
use Rattle.std.proofs.lemmas.Bool.{cases_lt}
use Rattle.std.proofs.lemmas.List.{get_or-map}
use Rattle.chunk_names.specs.Shares.{chunk_at}
use Rattle.rayon.specs.Lists.{first_true}
use Rattle.ingest_core.proofs.BatchCuts.{chunk-between}
use Rattle.ingest_core.proofs.Refusals.{count-between}
use Rattle.ingest_core.specs.AuditChunks.{AreKeptNames, IsKeptName, kept_at, names_in}
use Rattle.sd_base.specs.Cutting.{chunks_between}
use Rattle.sd_base.specs.Firsts.{HoldsBelow, IsFirstFailing}
use Rattle.sd_base.specs.declared.record.NewChunk.{NewChunk}

-- the name of a chunk by its number
pub name-in : (name_of : List ℕ → List ℕ) (text ends : List ℕ) (i : ℕ) → i < length ends →
    slice_index_or (names_in name_of text ends) i [] ≡ name_of (chunk_at text 0 ends i)
name-in name_of text ends i within =
    let count = count-between text 0 ends in
    get_or-map name_of (chunks_between text 0 ends) i [] [] (omega (arith, within, count))
    ∙ ap name_of (chunk-between text 0 ends i within)

module _ (Holds : ℕ → Type 0) where
  -- the first of the n numbers from a on of which it does not hold, counted from a
  record IsFirstFrom (a n k : ℕ) : Type 0 where
    pub within : k < n
    pub before : (i : ℕ) → a ≤ i → i < a + k → Holds i
    pub fails : Holds (a + k) → ⊥

  -- it holds of each of the n numbers from a on
  abbrev HoldFrom : ℕ → ℕ → Type 0
  HoldFrom a n = (i : ℕ) → a ≤ i → i < a + n → Holds i

  -- an answer says whether it does not hold
  abbrev pub IsAnswer : ℕ → Bool → Type 0
  IsAnswer i answer = MatchBool answer (Holds i → ⊥) (Holds i)

  hold-next : (a k : ℕ) → Holds a → HoldFrom (a + 1) k → HoldFrom a (suc k)
  hold-next a k here after i low high = elim (cases_lt a i) [
    | inl past ↦ after i (omega (arith, past)) (omega (arith, high))
    | inr reached ↦ let same : a ≡ i = omega (arith, low, reached) in subst Holds same here
  ]

  first-next : (a n : ℕ) → a + suc n < 2 ^ 64 → Holds a → (found : Option ℕ) →
      MatchOption found (HoldFrom (a + 1) n) (IsFirstFrom (a + 1) n) →
      MatchOption (option_map (λ k. min (k + 1) (2 ^ 64 - 1)) found) (HoldFrom a (suc n)) (IsFirstFrom a (suc n))
  first-next a n few here None after = hold-next a n here after
  first-next a n few here (Some k) after =
      let within = after.within in
      let next : suc k ≡ min (k + 1) (2 ^ 64 - 1) = omega (arith, few, within) in
      let place : (a + 1) + k ≡ a + suc k = omega arith in
      subst (IsFirstFrom a (suc n)) next record {
        within = omega (arith, within);
        before = hold-next a k here after.before;
        fails = subst (λ i. Holds i → ⊥) place after.fails;
      }

  first-from : (a n : ℕ) (answers : List Bool) → a + n < 2 ^ 64 → AllZip IsAnswer (range_with_len a n) answers →
      MatchOption (first_true answers) (HoldFrom a n) (IsFirstFrom a n)
  first-from a zero [] few all = λ i low high. absurd (omega (arith, low, high))
  first-from a zero (answer ∷ answers) few all = absurd all
  first-from a (suc n) [] few all = absurd all
  first-from a (suc n) (true ∷ answers) few all =
      let place : a ≡ a + 0 = omega arith in record {
        within = omega arith;
        before = λ i low high. absurd (omega (arith, low, high));
        fails = subst (λ i. Holds i → ⊥) place all.0;
      }
  first-from a (suc n) (false ∷ answers) few all =
      first-next a n few all.0 (first_true answers) (first-from (a + 1) n answers (omega (arith, few)) all.1)

  -- the first of the numbers below n of which it does not hold
  first-failing : (n : ℕ) (answers : List Bool) → n < 2 ^ 64 →
      AllZip IsAnswer (range_with_len 0 n) answers →
      MatchOption (first_true answers) (HoldsBelow n Holds) (IsFirstFailing n Holds)
  first-failing n answers few all = from-start (first_true answers) (first-from 0 n answers (omega (arith, few)) all)
    where
      from-start : (found : Option ℕ) → MatchOption found (HoldFrom 0 n) (IsFirstFrom 0 n) →
          MatchOption found (HoldsBelow n Holds) (IsFirstFailing n Holds)
      from-start None all = λ k below. all k (omega arith) (omega (arith, below))
      from-start (Some k) first =
          let start : 0 + k ≡ k = omega arith in record {
            within = first.within;
            before = λ i below. first.before i (omega arith) (omega (arith, below));
            fails = subst (λ i. Holds i → ⊥) start first.fails;
          }

-- the first of some numbers is the same if what fails of it does
first-same : (P Q : ℕ → Type 0) (n : ℕ) → ((i : ℕ) → i < n → P i → Q i) → ((i : ℕ) → i < n → Q i → P i) → (found : Option ℕ) →
    MatchOption found (HoldsBelow n P) (IsFirstFailing n P) → MatchOption found (HoldsBelow n Q) (IsFirstFailing n Q)
first-same P Q n to from None all = λ k below. to k below (all k below)
first-same P Q n to from (Some k) first =
    let within = first.within in record {
      within = within;
      before = λ i below. to i (omega (arith, below, within)) (first.before i below);
      fails = λ holds. first.fails (from k within holds);
    }

module _ (name_of : List ℕ → List ℕ) (text ends : List ℕ) (kept : List NewChunk) (count : length ends ≡ length kept) where
  -- an answer says whether a chunk has not the name that is kept
  abbrev pub SaysMisnamed : ℕ → Bool → Type 0
  SaysMisnamed i answer =
      MatchBool answer (name_of (chunk_at text 0 ends i) ≢ (kept_at kept i).name)
      (name_of (chunk_at text 0 ends i) ≡ (kept_at kept i).name)

  -- the first answer that says so
  pub first-said : (answers : List Bool) → length kept < 2 ^ 64 →
      AllZip SaysMisnamed (range_with_len 0 (length kept)) answers →
      MatchOption (first_true answers) (AreKeptNames kept (names_in name_of text ends))
      (IsFirstFailing (length kept) (IsKeptName kept (names_in name_of text ends)))
  first-said answers few all =
      let named = λ (i : ℕ) (below : i < length kept). name-in name_of text ends i (omega (arith, below, count)) in
      first-same (λ i. name_of (chunk_at text 0 ends i) ≡ (kept_at kept i).name) (IsKeptName kept (names_in name_of text ends))
      (length kept) (λ i below same. named i below ∙ same) (λ i below same. sym (named i below) ∙ same) (first_true answers)
      (first-failing (λ i. name_of (chunk_at text 0 ends i) ≡ (kept_at kept i).name) (length kept) answers few all)
