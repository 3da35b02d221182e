-- Cuts one at a time: what the next cut is, and how a list of cuts goes on from one of them.
use Rattle.std.proofs.Common.{◌≡◌, ◌⊎◌, inl, inr, ℕ, zero, suc, ◌+◌, ◌-◌, ◌<◌, ◌≤◌, min, Bool, true, false, unwrap_or, find, List, [], ◌∷◌, ◌++◌, length, slice_range, refl, sym, ap, ◌∙◌, append_assoc, append-nil, le_antisymm, arith}
use Rattle.std.specs.List.{range_with_len}
use Rattle.std.proofs.lemmas.Bool.{cases_Bool, lt-ltb, le-ltb, le-leb, cases_lt}
use Rattle.sd_base.specs.Cutting.{is_match, is_candidate, furthest, next_cut, IsNextCut, cuts_within, cuts_of, chunks_between, chunks_of}
use Rattle.sd_base.specs.declared.limits.TheConstants.{WINDOW}
use Rattle.sd_base.specs.declared.raw_params.RawParams.{RawParams}

-- a position with a whole window before it is a candidate if that window is a match
pub is_candidate_here :
    (params : RawParams) (input : List ℕ) (p : ℕ) → WINDOW ≤ p → p ≤ length input →
    is_candidate params input p ≡ is_match params (slice_range input (p - WINDOW) p)
is_candidate_here params input p window within = rw (le-leb WINDOW p window, le-leb p (length input) within)

-- a search of the numbers from low on stops at or below each number that passes
find_least :
    (p : ℕ → Bool) (low n d q : ℕ) → p q ≡ true → low ≤ q → q < low + n →
    unwrap_or (find p (range_with_len low n)) d ≤ q
find_least p low zero d q passes above below = absurd (omega arith)
find_least p low (suc n) d q passes above below =
    elim (cases_Bool (p low)) [
      | inl here ↦ rw here above
      | inr not_here ↦
          rw not_here
          (elim (cases_lt low q) [
            | inl later ↦ find_least p (low + 1) n d q passes (omega arith) (omega arith)
            | inr same ↦
                let e : q ≡ low = omega arith in
                let no : true ≡ false = sym passes ∙ ap p e ∙ not_here in
                cc
          ])
    ]

-- a search stops at a number that passes, or finds none
record Passes (p : ℕ → Bool) (low n x : ℕ) : Type 0 where
  passes : p x ≡ true
  above : low ≤ x
  below : x < low + n

find_stops :
    (p : ℕ → Bool) (low n d : ℕ) →
    Passes p low n (unwrap_or (find p (range_with_len low n)) d) ⊎ (unwrap_or (find p (range_with_len low n)) d ≡ d)
find_stops p low zero d = inr refl
find_stops p low (suc n) d =
    elim (cases_Bool (p low)) [
      | inl here ↦ rw here (inl (record { passes = here; above = omega arith; below = omega arith }))
      | inr not_here ↦
          rw not_here
          (elim (find_stops p (low + 1) n d) [
            | inl found ↦ inl (record { passes = found.passes; above = omega (arith, found.above); below = omega (arith, found.below) })
            | inr none ↦ inr none
          ])
    ]

module _ (params : RawParams) (input : List ℕ) (s : ℕ) where
  -- `next_cut` is a next cut by the relation with no search in it
  pub IsNextCut-next_cut : IsNextCut params input s (next_cut params input s)
  unfolding next_cut
  IsNextCut-next_cut =
      let p = is_candidate params input in
      let low = s + params.min in
      let far = furthest params input s in
      let stops : Passes p low (suc far - low) (next_cut params input s) ⊎ (next_cut params input s ≡ far) =
      find_stops p low (suc far - low) far in
      record {
        least = λ q may. find_least p low (suc far - low) far q may.candidate may.long_enough (omega (arith, may.within));
        ends = elim stops [
          | inl found ↦ inl (record { candidate = found.passes; long_enough = found.above; within = omega (arith, found.below, found.above) })
          | inr none ↦ inr none
        ];
        within = elim stops [
          | inl found ↦ omega (arith, found.below, found.above)
          | inr none ↦ omega (arith, none)
        ];
      }

  -- a next cut is at most any other next cut
  next_cut_below : (c d : ℕ) → IsNextCut params input s c → IsNextCut params input s d → c ≤ d
  next_cut_below c d one other = elim other.ends [ inl may ↦ one.least d may | inr far ↦ omega (arith, far, one.within) ]

  -- the relation determines the cut
  pub next_cut_is : (c : ℕ) → IsNextCut params input s c → c ≡ next_cut params input s
  next_cut_is c is =
      let same = IsNextCut-next_cut in
      le_antisymm (next_cut_below c _ is same) (next_cut_below _ c same is)

  -- the next cut is after its start
  pub lt-next_cut : s < length input → 1 ≤ params.min → params.min ≤ params.max → s < next_cut params input s
  lt-next_cut inside some ordered =
      elim (IsNextCut-next_cut).ends [ inl may ↦ omega (arith, may.long_enough) | inr far ↦ omega (arith, far) ]

  -- the next cut is no further than a chunk reaches
  pub next_cut-le : next_cut params input s ≤ min (s + params.max) (length input)
  next_cut-le = (IsNextCut-next_cut).within

  -- a cut before the end of the input leaves a chunk of at least the minimum
  pub add-le-next_cut :
      next_cut params input s < length input → params.min ≤ params.max →
      s + params.min ≤ next_cut params input s
  add-le-next_cut inside ordered =
      elim (IsNextCut-next_cut).ends [ inl may ↦ may.long_enough | inr far ↦ omega (arith, far) ]

  -- from a position before the end of the input: the next cut, and then the cuts from there
  pub cuts_within_more :
      (n : ℕ) → s < length input →
      cuts_within (suc n) params input s ≡ next_cut params input s ∷ cuts_within n params input (next_cut params input s)
  unfolding cuts_within
  cuts_within_more n inside = rw (lt-ltb s (length input) inside)

  -- from the end of the input there are no cuts
  pub cuts_within_all : (n : ℕ) → length input ≤ s → cuts_within n params input s ≡ []
  unfolding cuts_within
  cuts_within_all zero past = refl
  cuts_within_all (suc n) past = rw (le-ltb s (length input) past)

module _ (params : RawParams) (input : List ℕ) (some : 1 ≤ params.min) (ordered : params.min ≤ params.max) where
  -- a bound on the number of cuts does not matter if it is at least the number of bytes that are
  -- left
  pub cuts_within_same :
      (n m s : ℕ) → length input ≤ s + n → length input ≤ s + m →
      cuts_within n params input s ≡ cuts_within m params input s
  cuts_within_same zero m s enough enough_too =
      cuts_within_all params input s 0 (omega arith) ∙ sym (cuts_within_all params input s m (omega arith))
  cuts_within_same (suc n) zero s enough enough_too =
      cuts_within_all params input s (suc n) (omega arith) ∙ sym (cuts_within_all params input s 0 (omega arith))
  cuts_within_same (suc n) (suc m) s enough enough_too =
      elim (cases_lt s (length input)) [
        | inl inside ↦
            let c = next_cut params input s in
            let on : s < c = lt-next_cut params input s inside some ordered in
            cuts_within_more params input s n inside
            ∙ ap (λ (cs : List ℕ). c ∷ cs) (cuts_within_same n m c (omega arith) (omega arith))
            ∙ sym (cuts_within_more params input s m inside)
        | inr past ↦ cuts_within_all params input s (suc n) past ∙ sym (cuts_within_all params input s (suc m) past)
      ]

  -- the first cut and the rest, each side with its own bound on the number of cuts
  pub cuts_within_cons :
      (n m s : ℕ) → s < length input → length input ≤ s + n → length input ≤ next_cut params input s + m →
      cuts_within n params input s ≡ next_cut params input s ∷ cuts_within m params input (next_cut params input s)
  cuts_within_cons zero m s inside enough enough_left = absurd (omega arith)
  cuts_within_cons (suc n) m s inside enough enough_left =
      let c = next_cut params input s in
      let on : s < c = lt-next_cut params input s inside some ordered in
      cuts_within_more params input s n inside
      ∙ ap (λ (cs : List ℕ). c ∷ cs) (cuts_within_same n m c (omega arith) enough_left)

  -- For a loop that pushes cuts: all cuts are those that it has pushed and those that are left. If
  -- it pushes the next one, this still holds.
  pub cuts_of_push :
      (cuts : List ℕ) (n m s : ℕ) → s < length input → length input ≤ s + n →
      length input ≤ next_cut params input s + m →
      cuts_of params input ≡ cuts ++ cuts_within n params input s →
      cuts_of params input ≡ (cuts ++ next_cut params input s ∷ []) ++ cuts_within m params input (next_cut params input s)
  cuts_of_push cuts n m s inside enough enough_left so_far =
      so_far
      ∙ ap (λ (cs : List ℕ). cuts ++ cs) (cuts_within_cons n m s inside enough enough_left)
      ∙ sym (append_assoc cuts (next_cut params input s ∷ []) (cuts_within m params input (next_cut params input s)))

  -- at the end of the input no cut is left
  pub cuts_of_all :
      (cuts : List ℕ) (n s : ℕ) → length input ≤ s →
      cuts_of params input ≡ cuts ++ cuts_within n params input s → cuts_of params input ≡ cuts
  cuts_of_all cuts n s past so_far =
      so_far ∙ ap (λ (cs : List ℕ). cuts ++ cs) (cuts_within_all params input s n past) ∙ append-nil cuts

  -- the same for a loop that pushes chunks
  pub chunks_of_push :
      (chunks : List (List ℕ)) (n m s : ℕ) → s < length input → length input ≤ s + n →
      length input ≤ next_cut params input s + m →
      chunks_of params input ≡ chunks ++ chunks_between input s (cuts_within n params input s) →
      chunks_of params input ≡ (chunks ++ slice_range input s (next_cut params input s) ∷ []) ++ chunks_between input (next_cut params input s) (cuts_within m params input (next_cut params input s))
  chunks_of_push chunks n m s inside enough enough_left so_far =
      so_far
      ∙ ap (λ (cs : List ℕ). chunks ++ chunks_between input s cs) (cuts_within_cons n m s inside enough enough_left)
      ∙ sym (append_assoc chunks (slice_range input s (next_cut params input s) ∷ []) (chunks_between input (next_cut params input s) (cuts_within m params input (next_cut params input s))))

  -- at the end of the input no chunk is left
  pub chunks_of_all :
      (chunks : List (List ℕ)) (n s : ℕ) → length input ≤ s →
      chunks_of params input ≡ chunks ++ chunks_between input s (cuts_within n params input s) →
      chunks_of params input ≡ chunks
  chunks_of_all chunks n s past so_far =
      so_far ∙ ap (λ (cs : List ℕ). chunks ++ chunks_between input s cs) (cuts_within_all params input s n past) ∙ append-nil chunks
