-- A scan, one position at a time.
use Rattle.std.proofs.Common.{◌≡◌, ℕ, ◌+◌, ◌-◌, ◌%◌, ◌^◌, ◌<◌, ◌≤◌, Bool, true, false, ◌||◌, ◌&&◌, List, eqb, ltb, leb, length, slice_range, refl, sym, ap, ◌∙◌, inl, inr, ◌≢◌, ◌⊎◌, eq-eqb, ne_eqb, arith}
use Rattle.std.proofs.lemmas.Bool.{cases_lt, cases_eq, lt-ltb, le-ltb, le-leb, lt-leb}
use Rattle.candidate_map.specs.Positions.{has}
use Rattle.sd_base.specs.Cutting.{is_candidate}
use Rattle.sd_base.specs.Polynomial.{fingerprint}
use Rattle.sd_base.proofs.Cutting.{is_candidate_here}
use Rattle.sd_base.specs.declared.raw_params.RawParams.{RawParams}
use Rattle.sd_base.specs.declared.limits.TheConstants.{WINDOW}
use Rattle.segment_scan.specs.Scan.{is_candidate_within, AddsCandidates}

-- a position with no whole window before it is no candidate
early : (params : RawParams) (text : List ℕ) (p : ℕ) → p < WINDOW → is_candidate params text p ≡ false
early params text p before = rw (lt-leb WINDOW p before)

pub or-false : (b : Bool) → (b || false) ≡ b
or-false true = refl
or-false false = refl

pub or_assoc : (a b c : Bool) → ((a || b) || c) ≡ (a || (b || c))
or_assoc true b c = refl
or_assoc false b c = refl

-- a range that is empty, or that ends before the first whole window, has no candidate
pub none_within : (params : RawParams) (text : List ℕ) (from to q : ℕ) → (to ≤ from) ⊎ (to < WINDOW)
    → is_candidate_within params text from to q ≡ false
none_within params text from to q no_room =
    elim (cases_lt to q) [
      | inl past ↦ rw (lt-leb q to past) (and_false (ltb from q) (is_candidate params text q))
      | inr upto ↦ elim no_room [
        | inl empty ↦ rw (le-ltb from q (omega arith))
        | inr too_early ↦ rw (early params text q (omega arith)) (and_no (ltb from q && leb q to))
      ]
    ]
  where
    and_false : (b c : Bool) → ((b && false) && c) ≡ false
    and_false true c = refl
    and_false false c = refl

    and_no : (b : Bool) → (b && false) ≡ false
    and_no true = refl
    and_no false = refl

-- so a scan of such a range adds nothing
pub adds_none : (params : RawParams) (text : List ℕ) (from to : ℕ) (before : List Bool)
    → (to ≤ from) ⊎ (to < WINDOW) → AddsCandidates params text from to before before
adds_none params text from to before no_room = record {
  bits = refl;
  added = λ q. rw (none_within params text from to q no_room) (sym (or-false (has before q)));
}

-- the candidates within a range that goes one position further
pub within_more : (params : RawParams) (text : List ℕ) (from p next q : ℕ) → next ≡ p + 1 → from ≤ p
    → is_candidate_within params text from next q
    ≡ (is_candidate_within params text from p q || (eqb q next && is_candidate params text next))
within_more params text from p next q is_next after =
    elim (cases_eq q next) [
      | inl same ↦
          let above : ltb from next ≡ true = lt-ltb from next (omega arith) in
          let upto : leb next next ≡ true = le-leb next next (omega arith) in
          let past : leb next p ≡ false = lt-leb next p (omega arith) in
          let here : eqb next next ≡ true = eq-eqb next next refl in
          rw (same, above, upto, past, here)
      | inr other ↦
          let upto : leb q next ≡ leb q p = same_upto q p next is_next other in
          let not_here : eqb q next ≡ false = ne_eqb q next other in
          rw (upto, not_here) (sym (or-false ((ltb from q && leb q p) && is_candidate params text q)))
    ]
  where
    same_upto : (q p next : ℕ) → next ≡ p + 1 → q ≢ next → leb q next ≡ leb q p
    same_upto q p next is_next other =
        elim (cases_lt p q) [
          | inl past ↦ lt-leb q next (omega arith) ∙ sym (lt-leb q p past)
          | inr within ↦ le-leb q next (omega arith) ∙ sym (le-leb q p within)
        ]

-- a scan goes on to the next position, which is added if it is a candidate
pub adds_more : (params : RawParams) (text : List ℕ) (from p next : ℕ) (before mid after : List Bool) (hit : Bool)
    → next ≡ p + 1 → from ≤ p → is_candidate params text next ≡ hit → length after ≡ length mid
    → ((q : ℕ) → has after q ≡ (has mid q || (eqb q next && hit)))
    → AddsCandidates params text from p before mid → AddsCandidates params text from next before after
adds_more params text from p next before mid after hit is_next after_from is_hit bits marked so_far = record {
  bits = bits ∙ so_far.bits;
  added = λ q.
      marked q
      ∙ ap (λ b. b || (eqb q next && hit)) (so_far.added q)
      ∙ or_assoc (has before q) (is_candidate_within params text from p q) (eqb q next && hit)
      ∙ ap (λ b. has before q || (is_candidate_within params text from p q || (eqb q next && b))) (sym is_hit)
      ∙ ap (λ b. has before q || b) (sym (within_more params text from p next q is_next after_from));
}

-- the test of the low bits of a fingerprint says whether a position is a candidate
pub hit_is : (params : RawParams) (text : List ℕ) (p polynomial value bits target : ℕ)
    → WINDOW ≤ p → p ≤ length text → polynomial ≡ params.polynomial → bits ≡ params.bits → target ≡ params.target
    → value ≡ fingerprint polynomial (slice_range text (p - WINDOW) p)
    → is_candidate params text p ≡ eqb (value % 2 ^ bits) target
hit_is params text p polynomial value bits target window within same_polynomial same_bits same_target fingerprinted =
    rw (fingerprinted, same_polynomial, same_bits, same_target) (is_candidate_here params text p window within)
