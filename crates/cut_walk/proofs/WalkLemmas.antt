-- The cuts of a walk over the candidates of an input are those of the definition.
use Rattle.std.proofs.Common.{◌≡◌, ◌⊎◌, ℕ, zero, suc, ◌+◌, ◌<◌, ◌≤◌, min, Bool, true, inl, inr, List, [], ◌∷◌, ◌++◌, length, get_or, subst, sym, ap, ◌∙◌, refl, arith}
use Rattle.std.specs.Prelude.{All}
use Rattle.std.specs.List.Sorted.{IsStrictlyIncreasing}
use Rattle.std.proofs.lemmas.Bool.{cases_lt}
use Rattle.sd_base.specs.Cutting.{furthest, MayEndAt, next_cut, cuts_within}
use Rattle.sd_base.specs.declared.raw_params.RawParams.{RawParams}
use Rattle.sd_base.proofs.Cutting.{next_cut_is, cuts_within_more, cuts_within_all}
use Rattle.candidate_map.specs.Candidates.{HoldsCandidates}
use Rattle.cut_walk.specs.Walk.{MayEndOn, Ends, at_position, at_longest, at_input_end, IsCutOn, AreCutsOn, last_cut}

module _ (params : RawParams) (positions : List Bool) (known : ℕ) (at_end : Bool) (input : List ℕ)
    (holds : HoldsCandidates params input positions known) (part : known ≤ length input)
    (whole : at_end ≡ true → known ≡ length input) where
  -- a position of the map at which a chunk may end is a candidate of the input at which it may
  MayEndAt-on : (s p : ℕ) → MayEndOn params positions known s p → MayEndAt params input s p
  MayEndAt-on s p may =
      let near : p ≤ min (s + params.max) known = may.within in
      record {
        candidate = sym (holds.same p (omega arith)) ∙ may.member;
        long_enough = may.long_enough;
        within = omega arith;
      }

  -- a chunk ends for the same reason in the input
  ends_in : (s cut : ℕ) → cut ≤ min (s + params.max) known → Ends params positions known at_end s cut
      → MayEndAt params input s cut ⊎ (cut ≡ furthest params input s)
  ends_in s cut near (at_position may) = inl (MayEndAt-on s cut may)
  ends_in s cut near (at_longest e) = inr (omega arith)
  ends_in s cut near (at_input_end last e) = inr (omega (arith, whole last))

  -- a cut by the map is the next cut of the input
  pub cut_is_next : (s cut : ℕ) → IsCutOn params positions known at_end s cut → cut ≡ next_cut params input s
  cut_is_next s cut is =
      let near : cut ≤ min (s + params.max) known = is.within in
      next_cut_is params input s cut (record {
        least = λ p may. elim (cases_lt known p) [
          | inl past ↦ omega arith
          | inr here ↦
              let reach : p ≤ min (s + params.max) (length input) = may.within in
              is.least p (record { member = holds.same p here ∙ may.candidate; long_enough = may.long_enough; within = omega arith })
        ];
        ends = ends_in s cut near is.ends;
        within = omega arith;
      })

  -- the cuts by the map are the first of the input's cuts from there on
  pub cuts_are_first : (cuts : List ℕ) (s : ℕ) → AreCutsOn params positions known at_end s cuts
      → cuts ≡ cuts_within (length cuts) params input s
  unfolding cuts_within
  cuts_are_first [] s are = refl
  cuts_are_first (cut ∷ cuts) s are =
      let near : cut ≤ min (s + params.max) known = are.0.within in
      let on : s < cut = are.0.after in
      ap (λ (cs : List ℕ). cut ∷ cs) (cuts_are_first cuts cut are.1)
      ∙ ap (λ c. c ∷ cuts_within (length cuts) params input c) (cut_is_next s cut are.0)
      ∙ sym (cuts_within_more params input s (length cuts) (omega arith))

  -- if they reach the end of the input, they are all of its cuts
  pub cuts_are_all : (cuts : List ℕ) (s n : ℕ) → AreCutsOn params positions known at_end s cuts
      → last_cut s cuts ≡ length input → length input ≤ s + n → cuts ≡ cuts_within n params input s
  cuts_are_all [] s n are end enough = sym (cuts_within_all params input s n (omega (arith, end)))
  cuts_are_all (cut ∷ cuts) s zero are end enough =
      let near : cut ≤ min (s + params.max) known = are.0.within in
      let on : s < cut = are.0.after in
      absurd (omega arith)
  cuts_are_all (cut ∷ cuts) s (suc n) are end enough =
      let near : cut ≤ min (s + params.max) known = are.0.within in
      let on : s < cut = are.0.after in
      ap (λ (cs : List ℕ). cut ∷ cs) (cuts_are_all cuts cut n are.1 end (omega arith))
      ∙ ap (λ c. c ∷ cuts_within n params input c) (cut_is_next s cut are.0)
      ∙ sym (cuts_within_more params input s n (omega arith))

-- a walk that takes one cut more
pub last_cut-push : (cuts : List ℕ) (s cut : ℕ) → last_cut s (cuts ++ cut ∷ []) ≡ cut
last_cut-push [] s cut = refl
last_cut-push (c ∷ cuts) s cut = last_cut-push cuts c cut

module _ (params : RawParams) (positions : List Bool) (known : ℕ) (at_end : Bool) where
  pub AreCutsOn-push : (cuts : List ℕ) (s cut : ℕ) → AreCutsOn params positions known at_end s cuts
      → IsCutOn params positions known at_end (last_cut s cuts) cut
      → AreCutsOn params positions known at_end s (cuts ++ cut ∷ [])
  AreCutsOn-push [] s cut are next = (next, tt)
  AreCutsOn-push (c ∷ cuts) s cut are next = (are.0, AreCutsOn-push cuts c cut are.1 next)

  -- the cuts rise from the start on, and lie in what is known
  pub AreCutsOn-rise : (cuts : List ℕ) (s : ℕ) → AreCutsOn params positions known at_end s cuts
      → IsStrictlyIncreasing (s ∷ cuts)
  AreCutsOn-rise [] s are k inside = absurd (omega arith)
  AreCutsOn-rise (c ∷ cuts) s are zero inside = are.0.after
  AreCutsOn-rise (c ∷ cuts) s are (suc k) inside =
      let place : suc (k + 1) ≡ suc k + 1 = omega arith in
      subst (λ i. get_or (c ∷ cuts) k 0 < get_or (s ∷ c ∷ cuts) i 0) place (AreCutsOn-rise cuts c are.1 k (omega arith))

  pub AreCutsOn-within : (cuts : List ℕ) (s : ℕ) → AreCutsOn params positions known at_end s cuts
      → All (λ cut. cut ≤ known) cuts
  AreCutsOn-within [] s are k d inside = absurd (omega arith)
  AreCutsOn-within (c ∷ cuts) s are zero d inside =
      let near : c ≤ min (s + params.max) known = are.0.within in
      omega arith
  AreCutsOn-within (c ∷ cuts) s are (suc k) d inside = AreCutsOn-within cuts c are.1 k d (omega arith)
