-- A table is filled entry by entry.
use Rattle.std.proofs.Common.{◌≡◌, ◌≢◌, ℕ, ◌+◌, ◌<◌, List, length, get_or, set, get_or-set_other, get_or-set_same, below_more, arith, ◌∙◌}

-- one entry more of a table that follows a rule
pub entry_more : (rule : ℕ → ℕ) (table : List ℕ) (i entry : ℕ) → i < length table → entry ≡ rule i
    → ((b : ℕ) → b < i → get_or table b 0 ≡ rule b) → (b : ℕ) → b < i + 1 → get_or (set table i entry) b 0 ≡ rule b
entry_more rule table i entry within is so_far =
    below_more (λ b. get_or (set table i entry) b 0 ≡ rule b) i
    (λ b before. let other : b ≢ i = omega arith in get_or-set_other table i b entry 0 other ∙ so_far b before)
    (get_or-set_same table i entry 0 within ∙ is)
