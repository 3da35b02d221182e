-- How often a list has a number, up to one of its places.
use Rattle.std.proofs.Common.{◌≡◌, ℕ, ◌+◌, ◌-◌, ◌<◌, ◌≤◌, ◌==◌, List, length, get_or, set, take, cond, arith, inl, inr}
use Rattle.std.proofs.lemmas.Bool.{cases_eq, cases_lt}
use Rattle.std.proofs.lemmas.List.{get_or_past, get_or-set_same, get_or-set_other}
use Rattle.std.proofs.lemmas.List.Sums.{count_by_more_no, count_by_more_yes, sum_by_more_le}
use Rattle.sd_base.specs.References.{occurrences}
use Rattle.ref_ledger.specs.Counts.{count_at}

-- the number at place i occurs before place i less often than in the whole list
pub occurs_once_more : (xs : List ℕ) (i d : ℕ) → i < length xs
    → occurrences (get_or xs i d) (take i xs) + 1 ≤ occurrences (get_or xs i d) xs
occurs_once_more xs i d within = grind (arith, sum_by_more_le (λ y. cond (y == get_or xs i d) 1 0) xs i d within)

-- a count that loses one reference for one more place
pub one_less : (counts xs : List ℕ) (i k : ℕ) → k < length xs → get_or xs k 0 < length counts
    → 1 ≤ count_at counts (get_or xs k 0)
    → count_at (set counts (get_or xs k 0) (count_at counts (get_or xs k 0) - 1)) i + occurrences i (take (k + 1) xs)
    ≡ count_at counts i + occurrences i (take k xs)
one_less counts xs i k within known some =
    let x = get_or xs k 0 in
    elim (cases_eq i x) [
      | inl same ↦ grind (arith, same, get_or-set_same counts x (count_at counts x - 1) 0 known, count_by_more_yes (λ y. y == i) xs k 0 within)
      | inr other ↦ grind (arith, other, get_or-set_other counts x i (count_at counts x - 1) 0, count_by_more_no (λ y. y == i) xs k 0 within)
    ]

-- a chunk with references has a count
pub is_counted : (counts : List ℕ) (i : ℕ) → 1 ≤ count_at counts i → i < length counts
is_counted counts i some = elim (cases_lt i (length counts)) [
  | inl below ↦ below
  | inr past ↦ omega (arith, some, get_or_past counts i 0 past)
]

-- While references are dropped place after place, the chunk of the next place has one.
pub has_reference : (old counts xs : List ℕ) (k : ℕ) → k < length xs
    → ((i : ℕ) → count_at counts i + occurrences i (take k xs) ≡ count_at old i)
    → ((i : ℕ) → occurrences i xs ≤ count_at old i)
    → 1 ≤ count_at counts (get_or xs k 0)
has_reference old counts xs k within left counted =
    let x = get_or xs k 0 in
    omega (arith, occurs_once_more xs k 0 within, left x, counted x)
