-- The bytes of a ring, the oldest first.
use Rattle.std.proofs.Common.{◌≡◌, ◌⊎◌, ℕ, ◌+◌, ◌<◌, ◌≤◌, List, [], ◌∷◌, ◌++◌, length, take, drop, set, arith, sym, ap, ap₂, ◌∙◌, inl, inr}
use Rattle.std.proofs.lemmas.List.{append-nil, append_assoc, length-append, length-drop, length-take, length-set, drop-append-le, drop-drop, drop-set-lt, take_more_set, drop_all, take_all}
use Rattle.rabin_window.specs.Window.{oldest_first}

pub oldest_first-zero : (ring : List ℕ) → oldest_first 0 ring ≡ ring
unfolding oldest_first
oldest_first-zero ring = append-nil ring

pub length-oldest_first : (place : ℕ) (ring : List ℕ) → place ≤ length ring → length (oldest_first place ring) ≡ length ring
unfolding oldest_first
length-oldest_first place ring within = simp (length-append, length-drop, length-take) (omega arith)

-- writing over the oldest byte drops it and appends the new byte
written : (place : ℕ) (ring : List ℕ) (b : ℕ) → place < length ring
    → oldest_first (place + 1) (set ring place b) ≡ drop 1 (oldest_first place ring) ++ b ∷ []
unfolding oldest_first
written place ring b within =
    let not_empty : 1 ≤ length (drop place ring) = omega (arith, length-drop place ring) in
    let rest : drop 1 (drop place ring ++ take place ring) ≡ drop (place + 1) ring ++ take place ring =
    drop-append-le 1 (drop place ring) (take place ring) not_empty
    ∙ ap (λ xs. xs ++ take place ring) (drop-drop 1 place ring) in
    ap₂ (λ xs ys. xs ++ ys) (drop-set-lt (place + 1) ring place b (omega arith)) (take_more_set ring place b within)
    ∙ sym (append_assoc (drop (place + 1) ring) (take place ring) (b ∷ [])) ∙ ap (λ xs. xs ++ b ∷ []) (sym rest)

-- after the last place comes the first
around : (n : ℕ) (ring : List ℕ) → n ≡ length ring → oldest_first 0 ring ≡ oldest_first n ring
unfolding oldest_first
around n ring all =
    append-nil ring
    ∙ sym (ap₂ (λ xs ys. xs ++ ys) (drop_all n ring (omega arith)) (take_all n ring (omega arith)))

-- a ring moved by a byte: `next` is the place after the oldest byte's, or the first place if the
-- oldest byte was at the last
pub oldest_first-set : (place next : ℕ) (ring : List ℕ) (b : ℕ) → place < length ring
    → ((place + 1 ≡ length ring) × (next ≡ 0)) ⊎ (next ≡ place + 1)
    → oldest_first next (set ring place b) ≡ drop 1 (oldest_first place ring) ++ b ∷ []
oldest_first-set place next ring b within (inl last) =
    ap (λ n. oldest_first n (set ring place b)) last.1
    ∙ around (place + 1) (set ring place b) (last.0 ∙ sym (length-set ring place b)) ∙ written place ring b within
oldest_first-set place next ring b within (inr after) =
    ap (λ n. oldest_first n (set ring place b)) after ∙ written place ring b within
