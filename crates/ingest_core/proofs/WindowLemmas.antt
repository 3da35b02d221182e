-- The windows of a chunk, as its fingerprint is rolled, and the candidates before a position.
use Rattle.std.proofs.Common.{◌≡◌, ℕ, ◌+◌, ◌-◌, ◌%◌, ◌^◌, ◌<◌, ◌≤◌, ◌==◌, false, List, [], ◌∷◌, ◌++◌, length, get_or, take, drop, arith, inl, inr, sym, ap, ap₂, subst, ◌∙◌}
use Rattle.std.specs.Prelude.{slice_range}
use Rattle.std.proofs.lemmas.Bool.{cases_lt}
use Rattle.std.proofs.lemmas.List.{drop-take, drop-drop, take_more, get_or-drop, get_or-take, length-drop, length-take-le}
use Rattle.sd_base.specs.Cutting.{IsCandidate, is_candidate}
use Rattle.sd_base.specs.Polynomial.{fingerprint}
use Rattle.sd_base.specs.declared.limits.TheConstants.{WINDOW}
use Rattle.sd_base.specs.declared.raw_params.RawParams.{RawParams}
use Rattle.sd_base.proofs.Cutting.{is_candidate_here}

-- a window has 48 bytes
window_length : (text : List ℕ) (p : ℕ) → WINDOW ≤ p → p ≤ length text
    → length (slice_range text (p - WINDOW) p) ≡ WINDOW
window_length text p enough within =
    let size : p - (p - WINDOW) ≡ WINDOW = omega arith in
    ap (λ n. length (take n (drop (p - WINDOW) text))) size
    ∙ length-take-le WINDOW (drop (p - WINDOW) text) (omega (arith, length-drop (p - WINDOW) text))

-- its oldest byte
window_oldest : (text : List ℕ) (p : ℕ) → WINDOW ≤ p
    → get_or (slice_range text (p - WINDOW) p) 0 0 ≡ get_or text (p - WINDOW) 0
window_oldest text p enough =
    let start : p - WINDOW + 0 ≡ p - WINDOW = omega arith in
    get_or-take (p - (p - WINDOW)) (drop (p - WINDOW) text) 0 0 (omega arith) ∙ get_or-drop (p - WINDOW) text 0 0 ∙ ap (λ n. get_or text n 0) start

-- without its oldest byte, and with the next one, it is the window one position further
window_moved : (text : List ℕ) (p : ℕ) → WINDOW ≤ p → p < length text
    → drop 1 (slice_range text (p - WINDOW) p) ++ get_or text p 0 ∷ [] ≡ slice_range text (p + 1 - WINDOW) (p + 1)
window_moved text p enough within =
    let from = p - WINDOW in
    let before : p - from ≡ 1 + 47 = omega arith in
    let after : 47 + 1 ≡ p + 1 - (p + 1 - WINDOW) = omega arith in
    let next : from + 1 ≡ p + 1 - WINDOW = omega arith in
    let last : from + 1 + 47 ≡ p = omega arith in
    let rest = drop (from + 1) text in
    let kept : drop 1 (slice_range text from p) ≡ take 47 rest =
    ap (λ n. drop 1 (take n (drop from text))) before ∙ drop-take 1 47 (drop from text) ∙ ap (take 47) (drop-drop 1 from text) in
    let new : get_or text p 0 ≡ get_or rest 47 0 = sym (get_or-drop (from + 1) text 47 0 ∙ ap (λ n. get_or text n 0) last) in
    let some : 47 < length rest = omega (arith, length-drop (from + 1) text) in
    ap₂ (λ xs x. xs ++ x ∷ []) kept new ∙ sym (take_more rest 47 0 some) ∙ ap₂ (λ n m. take n (drop m text)) after next

-- so a rolled fingerprint is that of the window one position further
pub fingerprint_rolled : (text : List ℕ) (polynomial value rolled p next : ℕ) → WINDOW ≤ p → p < length text → next ≡ p + 1
    → value ≡ fingerprint polynomial (slice_range text (p - WINDOW) p)
    → ((window : List ℕ) → length window ≡ WINDOW → get_or window 0 0 ≡ get_or text (p - WINDOW) 0
    → value ≡ fingerprint polynomial window → rolled ≡ fingerprint polynomial (drop 1 window ++ get_or text p 0 ∷ []))
    → rolled ≡ fingerprint polynomial (slice_range text (next - WINDOW) next)
fingerprint_rolled text polynomial value rolled p next enough within is_next before roll =
    roll (slice_range text (p - WINDOW) p) (window_length text p enough (omega arith)) (window_oldest text p enough) before
    ∙ ap (fingerprint polynomial) (window_moved text p enough within)
    ∙ ap (λ n. fingerprint polynomial (slice_range text (n - WINDOW) n)) (sym is_next)

-- no position from the minimum up to but not including `end` is a candidate
abbrev NoneBefore : RawParams → List ℕ → ℕ → Type 0
NoneBefore params chunk end = (p : ℕ) → params.min ≤ p → p < end → IsCandidate params chunk p → ⊥

-- one position more, whose window is no match
pub none_before_next :
    (params : RawParams) (chunk : List ℕ) (p value polynomial : ℕ) → WINDOW ≤ p → p ≤ length chunk →
    polynomial ≡ params.polynomial → value ≡ fingerprint polynomial (slice_range chunk (p - WINDOW) p) →
    (value % 2 ^ params.bits == params.target) ≡ false → NoneBefore params chunk p → NoneBefore params chunk (p + 1)
none_before_next params chunk p value polynomial window within same fingerprinted no_match none =
    let here : is_candidate params chunk p ≡ false =
    is_candidate_here params chunk p window within
    ∙ ap (λ n. fingerprint n (slice_range chunk (p - WINDOW) p) % 2 ^ params.bits == params.target) (sym same)
    ∙ ap (λ n. n % 2 ^ params.bits == params.target) (sym fingerprinted)
    ∙ no_match in
    λ q least below candidate.
    elim (cases_lt q p) [
      | inl before ↦ none q least before candidate
      | inr above ↦
          let last : q ≡ p = omega arith in
          let clash = sym (subst (λ n. IsCandidate params chunk n) last candidate) ∙ here in
          absurd cc
    ]
