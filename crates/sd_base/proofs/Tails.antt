-- The rest of an input after a cut is cut as the whole input is from there. The reason is that the
-- window that decides a cut lies in the chunk that it ends: no chunk except the last is shorter
-- than a window.
use Rattle.std.proofs.Common.{◌≡◌, inl, inr, ℕ, zero, suc, ◌+◌, ◌-◌, ◌<◌, ◌≤◌, Bool, ◌&&◌, nat_le, List, [], ◌∷◌, ◌++◌, length, take, drop, slice_range, refl, sym, ap, ap₂, ◌∙◌, add-zero, append_assoc, length-drop, drop-drop, arith}
use Rattle.std.proofs.Math.Nat.{sub-zero}
use Rattle.std.proofs.lemmas.Bool.{cases_lt, le-leb, lt-leb}
use Rattle.sd_base.specs.Cutting.{is_match, is_candidate, furthest, next_cut, MayEndAt, IsNextCut, cuts_within, chunks_between, chunks_of}
use Rattle.sd_base.specs.declared.limits.TheConstants.{WINDOW}
use Rattle.sd_base.specs.declared.raw_params.RawParams.{RawParams}
use Rattle.sd_base.proofs.Cutting.{IsNextCut-next_cut, next_cut_is, cuts_within_more, cuts_within_all, cuts_within_same, cuts_within_cons, next_cut-le}

-- two tests of an order have the same result if each order follows from the other
leb_same : (a b c d : ℕ) → (a ≤ b → c ≤ d) → (c ≤ d → a ≤ b) → nat_le a b ≡ nat_le c d
leb_same a b c d there back =
    elim (cases_lt b a) [
      | inl above ↦ lt-leb a b above ∙ sym (lt-leb c d (elim (cases_lt d c) [ inl above' ↦ above' | inr within ↦ absurd (omega (arith, back within)) ]))
      | inr within ↦ le-leb a b within ∙ sym (le-leb c d (there within))
    ]

-- a range of a tail
pub slice_range-drop :
    (input : List ℕ) (k a b : ℕ) → slice_range (drop k input) a b ≡ slice_range input (k + a) (k + b)
slice_range-drop input k a b =
    let e : b - a ≡ k + b - (k + a) = omega arith in
    ap (λ (r : List ℕ). take (b - a) r) (drop-drop a k input) ∙ ap (λ (n : ℕ). take n (drop (k + a) input)) e

module _ (params : RawParams) (input : List ℕ) (k : ℕ) (inside : k ≤ length input) where
  -- a position with a whole window in the tail is a candidate of the tail if it is one of the whole
  -- input, and not otherwise
  pub is_candidate-drop :
      (p : ℕ) → WINDOW ≤ p → is_candidate params (drop k input) p ≡ is_candidate params input (k + p)
  is_candidate-drop p window =
      let left : length (drop k input) ≡ length input - k = length-drop k input in
      let first : nat_le WINDOW p ≡ nat_le WINDOW (k + p) = leb_same WINDOW p WINDOW (k + p) (λ _. omega arith) (λ _. omega arith) in
      let second : nat_le p (length (drop k input)) ≡ nat_le (k + p) (length input) =
      leb_same p (length (drop k input)) (k + p) (length input) (λ h. omega arith) (λ h. omega arith)
      in
      let e : k + (p - WINDOW) ≡ k + p - WINDOW = omega arith in
      let third : slice_range (drop k input) (p - WINDOW) p ≡ slice_range input (k + p - WINDOW) (k + p) =
      slice_range-drop input k (p - WINDOW) p ∙ ap (λ (a : ℕ). slice_range input a (k + p)) e
      in
      ap₂ (λ (x y : Bool). x && y && is_match params (slice_range (drop k input) (p - WINDOW) p)) first second
      ∙ ap (λ (w : List ℕ). nat_le WINDOW (k + p) && nat_le (k + p) (length input) && is_match params w) third

  module _ (window : WINDOW ≤ params.min) where
    -- a position at which a chunk of the tail may end is one at which that chunk may end in the
    -- whole input, and the other way round
    MayEndAt-from_tail :
        (s p : ℕ) → MayEndAt params (drop k input) s p → MayEndAt params input (k + s) (k + p)
    MayEndAt-from_tail s p may =
        record {
          candidate = sym (is_candidate-drop p (omega (arith, may.long_enough))) ∙ may.candidate;
          long_enough = omega (arith, may.long_enough);
          within = omega (arith, may.within, length-drop k input);
        }

    MayEndAt-in_tail : (s p : ℕ) → MayEndAt params input (k + s) (k + p) → MayEndAt params (drop k input) s p
    MayEndAt-in_tail s p may =
        record {
          candidate = is_candidate-drop p (omega (arith, may.long_enough)) ∙ may.candidate;
          long_enough = omega (arith, may.long_enough);
          within = omega (arith, may.within, length-drop k input);
        }

    furthest-drop : (s : ℕ) → k + furthest params (drop k input) s ≡ furthest params input (k + s)
    furthest-drop s = omega (arith, length-drop k input)

    -- the next cut in the tail is the next cut in the whole input
    pub next_cut-drop : (s : ℕ) → k + next_cut params (drop k input) s ≡ next_cut params input (k + s)
    next_cut-drop s =
        let c = next_cut params (drop k input) s in
        let is : IsNextCut params (drop k input) s c = IsNextCut-next_cut params (drop k input) s in
        next_cut_is params input (k + s) (k + c)
        (record {
          least = λ p may.
              let from : k + s + params.min ≤ p = may.long_enough in
              let e : k + (p - k) ≡ p = omega arith in
              let below : c ≤ p - k = is.least (p - k) (MayEndAt-in_tail s (p - k) (rw e may)) in
              omega arith;
          ends = elim is.ends [
            | inl may ↦ inl (MayEndAt-from_tail s c may)
            | inr far ↦ inr (ap (λ (x : ℕ). k + x) far ∙ furthest-drop s)
          ];
          within = omega (arith, is.within, furthest-drop s);
        })

    -- and so are the chunks between cuts
    chunks_between-drop :
        (n s : ℕ) →
        chunks_between input (k + s) (cuts_within n params input (k + s)) ≡ chunks_between (drop k input) s (cuts_within n params (drop k input) s)
    unfolding cuts_within
    chunks_between-drop zero s = refl
    chunks_between-drop (suc n) s =
        let rest = drop k input in
        let whole = next_cut params input (k + s) in
        let c = next_cut params rest s in
        let e : k + c ≡ whole = next_cut-drop s in
        let there : slice_range input (k + s) whole ≡ slice_range rest s c =
        ap (λ (x : ℕ). slice_range input (k + s) x) (sym e) ∙ sym (slice_range-drop input k s c)
        in
        let on : chunks_between input whole (cuts_within n params input whole) ≡ chunks_between rest c (cuts_within n params rest c) =
        ap (λ (x : ℕ). chunks_between input x (cuts_within n params input x)) (sym e) ∙ chunks_between-drop n c
        in
        elim (cases_lt (k + s) (length input)) [
          | inl before ↦
              let before_too : s < length rest = omega (arith, length-drop k input) in
              ap (chunks_between input (k + s)) (cuts_within_more params input (k + s) n before)
              ∙ ap₂ (λ (x : List ℕ) (xs : List (List ℕ)). x ∷ xs) there on
              ∙ sym (ap (chunks_between rest s) (cuts_within_more params rest s n before_too))
          | inr past ↦
              let past_too : length rest ≤ s = omega (arith, length-drop k input) in
              ap (chunks_between input (k + s)) (cuts_within_all params input (k + s) (suc n) past)
              ∙ sym (ap (chunks_between rest s) (cuts_within_all params rest s (suc n) past_too))
        ]

    -- the chunks of the whole input from a position on are the chunks of the rest after it
    pub chunks_of-drop :
        params.min ≤ params.max → (n : ℕ) → length input ≤ k + n →
        chunks_between input k (cuts_within n params input k) ≡ chunks_of params (drop k input)
    chunks_of-drop ordered n enough =
        let m = length (drop k input) in
        ap (chunks_between input k) (cuts_within_same params input (omega arith) ordered n m k enough (omega (arith, length-drop k input)))
        ∙ ap (λ (x : ℕ). chunks_between input x (cuts_within m params input x)) (sym (add-zero k))
        ∙ chunks_between-drop m 0

-- the chunks of an input are the first one and those of the rest
pub chunks_of_cons :
    (params : RawParams) (input : List ℕ) → WINDOW ≤ params.min → params.min ≤ params.max → 1 ≤ length input →
    chunks_of params input ≡ take (next_cut params input 0) input ∷ chunks_of params (drop (next_cut params input 0) input)
chunks_of_cons params input window ordered some =
    let c = next_cut params input 0 in
    let inside : c ≤ length input = omega (arith, next_cut-le params input 0) in
    ap (chunks_between input 0) (cuts_within_cons params input (omega arith) ordered (length input) (length input) 0 some (omega arith) (omega arith))
    ∙ ap₂ (λ (x : List ℕ) (xs : List (List ℕ)). x ∷ xs)
    (ap (λ (n : ℕ). take n input) (sub-zero c))
    (chunks_of-drop params input c inside window ordered (length input) (omega arith))

-- For a loop that takes chunks off the front of the rest: all chunks are those that it has taken
-- and those of the rest. If it takes the next one, this still holds.
pub chunks_of_next :
    (params : RawParams) (input : List ℕ) → WINDOW ≤ params.min → params.min ≤ params.max →
    (chunks : List (List ℕ)) (s : ℕ) → s < length input →
    chunks_of params input ≡ chunks ++ chunks_of params (drop s input) →
    chunks_of params input ≡ (chunks ++ take (next_cut params (drop s input) 0) (drop s input) ∷ []) ++ chunks_of params (drop (s + next_cut params (drop s input) 0) input)
chunks_of_next params input window ordered chunks s inside so_far =
    let rest = drop s input in
    let c = next_cut params rest 0 in
    so_far
    ∙ ap (λ (xs : List (List ℕ)). chunks ++ xs) (chunks_of_cons params rest window ordered (omega (arith, length-drop s input)))
    ∙ ap (λ (r : List ℕ). chunks ++ take c rest ∷ chunks_of params r) (drop-drop c s input)
    ∙ sym (append_assoc chunks (take c rest ∷ []) (chunks_of params (drop (s + c) input)))
