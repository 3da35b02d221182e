-- Chunks are the cutting of their bytes exactly if each follows the rule, and the first that breaks
-- the rule is the first that differs from the cutting.
use Rattle.std.proofs.Common.{◌≡◌, inl, inr, ◌⊎◌, ◌↔◌, ℕ, zero, suc, ◌+◌, ◌<◌, ◌≤◌, List, [], ◌∷◌, ◌++◌, length, take, drop, slice_index_or, refl, sym, ap, ap₂, subst, ◌∙◌, length-append, length-take, arith}
use Rattle.std.proofs.Math.Seq.{take-append_seam, drop-append_seam}
use Rattle.std.specs.List.{concat}
use Rattle.std.proofs.lemmas.Bool.{cases_lt}
use Rattle.std.proofs.lemmas.List.Elements.{All-head, All-tail}
use Rattle.sd_base.specs.Cutting.{MayEndAt, IsNextCut, chunks_of, cuts_within, furthest, is_candidate, next_cut}
use Rattle.sd_base.specs.CuttingLaws.{AreFilled}
use Rattle.sd_base.specs.Cuttings.{FollowsTheRule, IsOfTheCutting}
use Rattle.sd_base.specs.Firsts.{HoldsBelow, IsFirstFailing}
use Rattle.sd_base.specs.States.{IsCutting}
use Rattle.sd_base.specs.declared.limits.TheConstants.{WINDOW}
use Rattle.sd_base.specs.declared.raw_params.RawParams.{RawParams}
use Rattle.sd_base.proofs.Cutting.{IsNextCut-next_cut, next_cut_is, next_cut-le}
use Rattle.sd_base.proofs.Firsts.{below-same, first-back, first-same}
use Rattle.sd_base.proofs.Fronts.{is_candidate-append}
use Rattle.sd_base.proofs.Tails.{chunks_of_cons, is_candidate-drop}

-- a position with a whole window in a part of an input is a candidate of the part if it is one of
-- the input, and not otherwise
pub is_candidate-part :
    (params : RawParams) (before chunk after : List ℕ) (p : ℕ) → WINDOW ≤ p → p ≤ length chunk →
    is_candidate params (before ++ (chunk ++ after)) (length before + p) ≡ is_candidate params chunk p
is_candidate-part params before chunk after p window inside =
    let input = before ++ (chunk ++ after) in
    let enough : length before ≤ length input = omega (arith, length-append before (chunk ++ after)) in
    sym (is_candidate-drop params input (length before) enough p window)
    ∙ ap (λ (rest : List ℕ). is_candidate params rest p) (drop-append_seam before (chunk ++ after))
    ∙ is_candidate-append params chunk after p inside

abbrev Filled : List ℕ → Type 0
Filled chunk = 1 ≤ length chunk

-- chunks after another, none of them empty, have bytes
some-bytes : (rest : List (List ℕ)) → AreFilled rest → 0 + 1 < suc (length rest) → 1 ≤ length (concat rest)
some-bytes [] filled more = absurd (omega arith)
some-bytes (d ∷ rest) filled more =
    let some : 1 ≤ length d = All-head Filled d rest filled in
    omega (arith, some, length-append d (concat rest))

module _ (params : RawParams) (c : List ℕ) where
  -- if the first chunk follows the rule, it ends at the next cut or as far as a chunk reaches
  ends-first :
      (rest : List (List ℕ)) → FollowsTheRule params (c ∷ rest) 0 →
      MayEndAt params (c ++ concat rest) 0 (length c) ⊎ (length c ≡ furthest params (c ++ concat rest) 0)
  ends-first [] follows = inr (omega (arith, follows.uncut.within, length-append c []))
  ends-first (d ∷ rest) follows =
      let all = length-append c (concat (d ∷ rest)) in
      elim (follows.followed (omega arith)) [
        | inl may ↦ inl (record {
          candidate = is_candidate-append params c (concat (d ∷ rest)) (length c) (omega arith) ∙ may.1;
          long_enough = omega (arith, may.0);
          within = omega (arith, all, follows.uncut.within);
        })
        | inr full ↦ inr (omega (arith, all, full))
      ]

  -- the first chunk follows the rule exactly if it ends at the next cut
  first-cut : (rest : List (List ℕ)) → FollowsTheRule params (c ∷ rest) 0 → length c ≡ next_cut params (c ++ concat rest) 0
  first-cut rest follows =
      let input = c ++ concat rest in
      let all = length-append c (concat rest) in
      next_cut_is params input 0 (length c) (record {
        least = λ p may. elim (cases_lt p (length c)) [
          | inl below ↦
              absurd (follows.uncut.none p (omega (arith, may.long_enough)) below
              (sym (is_candidate-append params c (concat rest) p (omega arith)) ∙ may.candidate))
          | inr above ↦ above
        ];
        ends = ends-first rest follows;
        within = omega (arith, all, follows.uncut.within);
      })

  first-follows :
      (rest : List (List ℕ)) → AreFilled rest → length c ≡ next_cut params (c ++ concat rest) 0 →
      FollowsTheRule params (c ∷ rest) 0
  first-follows rest filled cut =
      let input = c ++ concat rest in
      let all = length-append c (concat rest) in
      let is : IsNextCut params input 0 (length c) = subst (IsNextCut params input 0) (sym cut) (IsNextCut-next_cut params input 0) in
      record {
        uncut = record {
          within = omega (arith, is.within);
          none = λ p least below candidate.
              let no_further : length c ≤ p = is.least p (record {
                candidate = is_candidate-append params c (concat rest) p (omega arith) ∙ candidate;
                long_enough = omega arith;
                within = omega (arith, all, is.within);
              }) in
              omega arith;
        };
        followed = λ more.
            let later = some-bytes rest filled more in
            elim is.ends [
              | inl may ↦ inl (
                omega (arith, may.long_enough),
                sym (is_candidate-append params c (concat rest) (length c) (omega arith)) ∙ may.candidate,
              )
              | inr far ↦ inr (omega (arith, all, later, far))
            ];
      }

-- a rule for one chunk of a list is the rule for it in the longer list
later-follows :
    (params : RawParams) (c : List ℕ) (rest : List (List ℕ)) (i : ℕ) →
    FollowsTheRule params rest i → FollowsTheRule params (c ∷ rest) (suc i)
later-follows params c rest i follows = record { uncut = follows.uncut; followed = λ more. follows.followed (omega arith) }

follows-later :
    (params : RawParams) (c : List ℕ) (rest : List (List ℕ)) (i : ℕ) →
    FollowsTheRule params (c ∷ rest) (suc i) → FollowsTheRule params rest i
follows-later params c rest i follows = record { uncut = follows.uncut; followed = λ more. follows.followed (omega arith) }

module _ (params : RawParams) (window : WINDOW ≤ params.min) (ordered : params.min ≤ params.max) where
  -- a first chunk that ends at the next cut is the first of the cutting, and the others are the
  -- cutting of the rest
  cutting-cons :
      (c : List ℕ) (rest : List (List ℕ)) → 1 ≤ length c → length c ≡ next_cut params (c ++ concat rest) 0 →
      chunks_of params (c ++ concat rest) ≡ c ∷ chunks_of params (concat rest)
  cutting-cons c rest some cut =
      let input = c ++ concat rest in
      chunks_of_cons params input window ordered (omega (arith, length-append c (concat rest)))
      ∙ ap (λ (n : ℕ). take n input ∷ chunks_of params (drop n input)) (sym cut)
      ∙ ap₂ (λ (x y : List ℕ). x ∷ chunks_of params y) (take-append_seam c (concat rest)) (drop-append_seam c (concat rest))

  -- a first chunk that is the first of the cutting ends at the next cut
  first-of_cutting :
      (c : List ℕ) (rest : List (List ℕ)) → 1 ≤ length c → IsOfTheCutting params (c ∷ rest) 0 →
      length c ≡ next_cut params (c ++ concat rest) 0
  first-of_cutting c rest some same =
      let input = c ++ concat rest in
      let n = next_cut params input 0 in
      let chunks = chunks_of_cons params input window ordered (omega (arith, length-append c (concat rest))) in
      let first : c ≡ take n input = same ∙ ap (λ (cs : List (List ℕ)). slice_index_or cs 0 []) chunks in
      let inside = next_cut-le params input 0 in
      omega (arith, ap length first, length-take n input, inside)

  pub follows-of_cutting :
      (chunks : List (List ℕ)) → AreFilled chunks → (i : ℕ) → i < length chunks →
      HoldsBelow i (FollowsTheRule params chunks) → FollowsTheRule params chunks i ↔ IsOfTheCutting params chunks i
  follows-of_cutting [] filled i within before = absurd (omega arith)
  follows-of_cutting (c ∷ rest) filled zero within before =
      let some : 1 ≤ length c = All-head Filled c rest filled in (
        λ follows.
            sym (ap (λ (cs : List (List ℕ)). slice_index_or cs 0 []) (cutting-cons c rest some (first-cut params c rest follows))),
        λ same. first-follows params c rest (All-tail Filled c rest filled) (first-of_cutting c rest some same),
      )
  follows-of_cutting (c ∷ rest) filled (suc i) within before =
      let some : 1 ≤ length c = All-head Filled c rest filled in
      let whole = cutting-cons c rest some (first-cut params c rest (before 0 (omega arith))) in
      let there = ap (λ (cs : List (List ℕ)). slice_index_or cs (suc i) []) whole in
      let later = follows-of_cutting rest (All-tail Filled c rest filled) i (omega arith)
      (λ j below. follows-later params c rest j (before (suc j) (omega arith))) in (
        λ follows. later.0 (follows-later params c rest i follows) ∙ sym there,
        λ same. later-follows params c rest i (later.1 (same ∙ there)),
      )

  cutting-by_rule :
      (chunks : List (List ℕ)) → AreFilled chunks → HoldsBelow (length chunks) (FollowsTheRule params chunks) → IsCutting params chunks
  unfolding cuts_within
  cutting-by_rule [] filled holds = refl
  cutting-by_rule (c ∷ rest) filled holds =
      ap (λ (cs : List (List ℕ)). c ∷ cs)
      (cutting-by_rule rest (All-tail Filled c rest filled) (λ j below. follows-later params c rest j (holds (suc j) (omega arith))))
      ∙ sym (cutting-cons c rest (All-head Filled c rest filled) (first-cut params c rest (holds 0 (omega arith))))

  module _ (chunks : List (List ℕ)) (filled : AreFilled chunks) where
    -- chunks each of which is the one of the cutting are the cutting
    pub cutting-by_places : HoldsBelow (length chunks) (IsOfTheCutting params chunks) → IsCutting params chunks
    cutting-by_places holds =
        cutting-by_rule chunks filled
        ((below-same (length chunks) (FollowsTheRule params chunks) (IsOfTheCutting params chunks) (follows-of_cutting chunks filled)).1 holds)

    pub cutting_is_by_rule : IsCutting params chunks ↔ HoldsBelow (length chunks) (FollowsTheRule params chunks)
    cutting_is_by_rule = (
      λ cut.
          (below-same (length chunks) (FollowsTheRule params chunks) (IsOfTheCutting params chunks) (follows-of_cutting chunks filled)).1
          (λ i within. ap (λ (cs : List (List ℕ)). slice_index_or cs i []) cut),
      cutting-by_rule chunks filled,
    )

    pub first_to_differ :
        (i : ℕ) →
        IsFirstFailing (length chunks) (IsOfTheCutting params chunks) i
        ↔ IsFirstFailing (length chunks) (FollowsTheRule params chunks) i
    first_to_differ i = (
      first-back (length chunks) (FollowsTheRule params chunks) (IsOfTheCutting params chunks) (follows-of_cutting chunks filled) i,
      first-same (length chunks) (FollowsTheRule params chunks) (IsOfTheCutting params chunks) (follows-of_cutting chunks filled) i,
    )
