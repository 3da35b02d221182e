-- Two ranges of a text that are scanned side by side.
use Rattle.std.proofs.Common.{◌≡◌, ℕ, ◌+◌, ◌≤◌, Bool, true, false, ◌||◌, ◌&&◌, List, eqb, ltb, leb, length, refl, sym, ap, ◌∙◌, inl, inr, arith}
use Rattle.std.proofs.lemmas.Bool.{cases_lt, lt-ltb, le-ltb, le-leb, lt-leb}
use Rattle.candidate_map.specs.Positions.{has}
use Rattle.sd_base.specs.Cutting.{is_candidate}
use Rattle.sd_base.specs.declared.raw_params.RawParams.{RawParams}
use Rattle.segment_scan.specs.Scan.{is_candidate_within, AddsCandidates}
use Rattle.segment_scan.proofs.Adding.{none_within, within_more, or-false, or_assoc}

-- exactly the candidates of two ranges were added to the set
pub record AddsBoth (params : RawParams) (text : List ℕ) (from to from2 to2 : ℕ)
    (before after : List Bool) : Type 0 where
  pub bits : length after ≡ length before
  pub added : (q : ℕ) → has after q
      ≡ (has before q || (is_candidate_within params text from to q || is_candidate_within params text from2 to2 q))

-- nothing was added yet
pub adds_neither : (params : RawParams) (text : List ℕ) (from from2 : ℕ) (before : List Bool)
    → AddsBoth params text from from from2 from2 before before
adds_neither params text from from2 before = record {
  bits = refl;
  added = λ q. rw (none_within params text from from q (inl (omega arith)), none_within params text from2 from2 q (inl (omega arith))) (sym (or-false (has before q)));
}

-- each range goes on by a position
pub adds_more_of_both : (params : RawParams) (text : List ℕ) (from p next from2 p2 next2 : ℕ)
    (before mid left after : List Bool) (hit hit2 : Bool)
    → next ≡ p + 1 → from ≤ p → is_candidate params text next ≡ hit
    → next2 ≡ p2 + 1 → from2 ≤ p2 → is_candidate params text next2 ≡ hit2
    → length left ≡ length mid → ((q : ℕ) → has left q ≡ (has mid q || (eqb q next && hit)))
    → length after ≡ length left → ((q : ℕ) → has after q ≡ (has left q || (eqb q next2 && hit2)))
    → AddsBoth params text from p from2 p2 before mid
    → AddsBoth params text from next from2 next2 before after
adds_more_of_both params text from p next from2 p2 next2 before mid left after hit hit2 is_next above is_hit is_next2 above2 is_hit2 left_bits left_marked bits marked so_far = record {
  bits = bits ∙ left_bits ∙ so_far.bits;
  added = λ q.
      marked q
      ∙ ap (λ b. b || (eqb q next2 && hit2)) (left_marked q ∙ ap (λ b. b || (eqb q next && hit)) (so_far.added q))
      ∙ in_pairs (has before q) (is_candidate_within params text from p q) (is_candidate_within params text from2 p2 q) (eqb q next && hit) (eqb q next2 && hit2)
      ∙ ap (λ b. has before q || ((is_candidate_within params text from p q || (eqb q next && b)) || (is_candidate_within params text from2 p2 q || (eqb q next2 && hit2)))) (sym is_hit)
      ∙ ap (λ b. has before q || (b || (is_candidate_within params text from2 p2 q || (eqb q next2 && hit2)))) (sym (within_more params text from p next q is_next above))
      ∙ ap (λ b. has before q || (is_candidate_within params text from next q || (is_candidate_within params text from2 p2 q || (eqb q next2 && b)))) (sym is_hit2)
      ∙ ap (λ b. has before q || (is_candidate_within params text from next q || b)) (sym (within_more params text from2 p2 next2 q is_next2 above2));
}
  where
    in_pairs : (a b c x y : Bool) → (((a || (b || c)) || x) || y) ≡ (a || ((b || x) || (c || y)))
    in_pairs true b c x y = refl
    in_pairs false true c x y = refl
    in_pairs false false true true y = refl
    in_pairs false false true false y = refl
    in_pairs false false false x y = refl

-- a candidate within one of two ranges that meet or overlap is one within the whole
joined : (params : RawParams) (text : List ℕ) (from low high to q : ℕ) → from ≤ low → low ≤ high → high ≤ to
    → (is_candidate_within params text from high q || is_candidate_within params text low to q) ≡ is_candidate_within params text from to q
joined params text from low high to q after meet before =
    elim (cases_lt high q) [
      | inl past ↦
          let above : ltb from q ≡ true = lt-ltb from q (omega arith) in
          let above_low : ltb low q ≡ true = lt-ltb low q (omega arith) in
          let past_high : leb q high ≡ false = lt-leb q high past in
          rw (above, above_low, past_high)
      | inr upto ↦
          let upto_high : leb q high ≡ true = le-leb q high upto in
          let upto_to : leb q to ≡ true = le-leb q to (omega arith) in
          elim (cases_lt from q) [
            | inl inside ↦
                let above : ltb from q ≡ true = lt-ltb from q inside in
                rw (above, upto_high, upto_to) (absorbed (ltb low q) (is_candidate params text q))
            | inr outside ↦
                let not_above : ltb from q ≡ false = le-ltb from q outside in
                let not_above_low : ltb low q ≡ false = le-ltb low q (omega arith) in
                rw (not_above, not_above_low)
          ]
    ]
  where
    absorbed : (b c : Bool) → (c || ((b && true) && c)) ≡ c
    absorbed b true = refl
    absorbed true false = refl
    absorbed false false = refl

-- a range that was scanned as two ranges, which meet or overlap
pub adds_joined : (params : RawParams) (text : List ℕ) (from low high to : ℕ) (before mid after : List Bool)
    → from ≤ low → low ≤ high → high ≤ to
    → AddsCandidates params text from high before mid → AddsCandidates params text low to mid after
    → AddsCandidates params text from to before after
adds_joined params text from low high to before mid after above meet below first second = record {
  bits = second.bits ∙ first.bits;
  added = λ q.
      second.added q
      ∙ ap (λ b. b || is_candidate_within params text low to q) (first.added q)
      ∙ or_assoc (has before q) (is_candidate_within params text from high q) (is_candidate_within params text low to q)
      ∙ ap (λ b. has before q || b) (joined params text from low high to q above meet below);
}

-- the halves of a range that were scanned side by side
pub adds_halves : (params : RawParams) (text : List ℕ) (from high low last to : ℕ) (before after : List Bool)
    → from ≤ low → low ≤ high → high ≤ to → last ≡ to
    → AddsBoth params text from high low last before after → AddsCandidates params text from to before after
adds_halves params text from high low last to before after above meet below at_end both = record {
  bits = both.bits;
  added = λ q.
      both.added q
      ∙ ap (λ n. has before q || (is_candidate_within params text from high q || is_candidate_within params text low n q)) at_end
      ∙ ap (λ b. has before q || b) (joined params text from low high to q above meet below);
}
