-- The chunks of an input join to the input, and have the sizes that the parameters ask for.
use Rattle.std.proofs.Common.{◌≡◌, inl, inr, ℕ, zero, suc, ◌+◌, ◌-◌, ◌<◌, ◌≤◌, min, List, [], ◌∷◌, ◌++◌, length, drop, slice_range, slice_index_or, refl, sym, ap, subst, ◌∙◌, length-take, length-drop, arith}
use Rattle.std.specs.List.{All, AllByRecursion, concat}
use Rattle.std.proofs.lemmas.Bool.{cases_lt}
use Rattle.std.proofs.lemmas.List.{drop_all}
use Rattle.std.proofs.lemmas.List.Folds.{drop_split}
use Rattle.std.proofs.lemmas.List.Elements.{All-from_recursion}
use Rattle.sd_base.specs.Cutting.{next_cut, cuts_within, chunks_between, chunks_of}
use Rattle.sd_base.specs.declared.raw_params.RawParams.{RawParams}
use Rattle.sd_base.proofs.Cutting.{cuts_within_more, cuts_within_all, next_cut-le, lt-next_cut, add-le-next_cut}

-- the length of a range
pub length-slice_range :
    (input : List ℕ) (a b : ℕ) → b ≤ length input → length (slice_range input a b) ≡ b - a
length-slice_range input a b inside = omega (arith, length-take (b - a) (drop a input), length-drop a input)

-- all chunks except the last have at least so many bytes
abbrev AllButLastReach : ℕ → List (List ℕ) → Type 0
AllButLastReach least chunks = (i : ℕ) → i + 1 < length chunks → least ≤ length (slice_index_or chunks i [])

reach_cons :
    (least : ℕ) (chunk : List ℕ) (chunks : List (List ℕ)) → (1 ≤ length chunks → least ≤ length chunk) →
    AllButLastReach least chunks → AllButLastReach least (chunk ∷ chunks)
reach_cons least chunk chunks first others zero more = first (omega arith)
reach_cons least chunk chunks first others (suc i) more = others i (omega arith)

module _ (params : RawParams) (input : List ℕ) (some : 1 ≤ params.min) (ordered : params.min ≤ params.max) where
  -- at most n chunks, from s on
  left : ℕ → ℕ → List (List ℕ)
  left n s = chunks_between input s (cuts_within n params input s)

  left_more :
      (n s : ℕ) → s < length input →
      left (suc n) s ≡ slice_range input s (next_cut params input s) ∷ left n (next_cut params input s)
  unfolding left
  left_more n s inside = ap (chunks_between input s) (cuts_within_more params input s n inside)

  left_none : (s : ℕ) → left 0 s ≡ []
  unfolding left cuts_within
  left_none s = refl

  left_all : (n s : ℕ) → length input ≤ s → left n s ≡ []
  unfolding left
  left_all n s past = ap (chunks_between input s) (cuts_within_all params input s n past)

  concat-left : (n s : ℕ) → length input ≤ s + n → concat (left n s) ≡ drop s input
  concat-left zero s enough = ap concat (left_all 0 s (omega arith)) ∙ sym (drop_all s input (omega arith))
  concat-left (suc n) s enough =
      elim (cases_lt s (length input)) [
        | inl inside ↦
            let c = next_cut params input s in
            let on : s < c = lt-next_cut params input s inside some ordered in
            ap concat (left_more n s inside)
            ∙ ap (λ (r : List ℕ). slice_range input s c ++ r) (concat-left n c (omega arith))
            ∙ sym (drop_split input s c (omega arith))
        | inr past ↦ ap concat (left_all (suc n) s past) ∙ sym (drop_all s input past)
      ]

  abbrev IsFilledAndBounded : List ℕ → Type 0
  IsFilledAndBounded chunk = (1 ≤ length chunk) × (length chunk ≤ params.max)

  left_sizes : (n s : ℕ) → AllByRecursion IsFilledAndBounded (left n s)
  left_sizes zero s = subst (AllByRecursion IsFilledAndBounded) (sym (left_none s)) tt
  left_sizes (suc n) s =
      let P : List (List ℕ) → Type 0 = AllByRecursion IsFilledAndBounded in
      elim (cases_lt s (length input)) [
        | inl inside ↦
            let c = next_cut params input s in
            let on : s < c = lt-next_cut params input s inside some ordered in
            let within : c ≤ min (s + params.max) (length input) = next_cut-le params input s in
            let size : length (slice_range input s c) ≡ c - s = length-slice_range input s c (omega arith) in
            subst P (sym (left_more n s inside)) ((omega arith, omega arith), left_sizes n c)
        | inr past ↦ subst P (sym (left_all (suc n) s past)) tt
      ]

  left_reach : (n s : ℕ) → AllButLastReach params.min (left n s)
  left_reach zero s = subst (AllButLastReach params.min) (sym (left_none s)) (λ i more. absurd (omega arith))
  left_reach (suc n) s =
      let P = AllButLastReach params.min in
      elim (cases_lt s (length input)) [
        | inl inside ↦
            let c = next_cut params input s in
            let within : c ≤ min (s + params.max) (length input) = next_cut-le params input s in
            let size : length (slice_range input s c) ≡ c - s = length-slice_range input s c (omega arith) in
            let first : 1 ≤ length (left n c) → params.min ≤ length (slice_range input s c) =
            λ more.
            elim (cases_lt c (length input)) [
              | inl before ↦ omega (arith, add-le-next_cut params input s before ordered)
              | inr past ↦ absurd (omega (arith, ap length (left_all n c past)))
            ]
            in
            subst P (sym (left_more n s inside)) (reach_cons params.min (slice_range input s c) (left n c) first (left_reach n c))
        | inr past ↦ subst P (sym (left_all (suc n) s past)) (λ i more. absurd (omega arith))
      ]

  -- the three facts about all chunks of an input
  pub concat-chunks_of : concat (chunks_of params input) ≡ input
  unfolding left
  concat-chunks_of = concat-left (length input) 0 (omega arith)

  pub chunk_sizes : All (λ chunk. (1 ≤ length chunk) × (length chunk ≤ params.max)) (chunks_of params input)
  unfolding left
  chunk_sizes = All-from_recursion IsFilledAndBounded (chunks_of params input) (left_sizes (length input) 0)

  pub min-le-chunk :
      (i : ℕ) → i + 1 < length (chunks_of params input) →
      params.min ≤ length (slice_index_or (chunks_of params input) i [])
  unfolding left
  min-le-chunk = left_reach (length input) 0
