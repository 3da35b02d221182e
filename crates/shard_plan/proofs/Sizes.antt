-- The sizes of shards, and the first words of their regions.
use Rattle.std.proofs.Common.{◌≡◌, inl, inr, ℕ, ◌+◌, ◌<◌, ◌==◌, true, false, List, [], length, set, slice_index_or, take, ap, sym, subst, ◌∙◌, arith}
use Rattle.std.proofs.lemmas.Bool.{cases_eq}
use Rattle.std.proofs.lemmas.List.{ext_get_or, get_or-set_same, get_or-set_other}
use Rattle.std.proofs.lemmas.List.FromFn.{get_or-map-range_with_len, length-map-range_with_len}
use Rattle.std.proofs.lemmas.List.Sums.{count_by_more_no, count_by_more_yes}
use Rattle.shard_plan.specs.Shards.{IsPlanOf, shard_of, shard_sizes, size_of}

-- sizes that are each that of their shard are the sizes in order
pub sizes_in_order : (shards : ℕ) (names : List (List ℕ)) (sizes : List ℕ) → length sizes ≡ shards
    → ((s : ℕ) → s < shards → slice_index_or sizes s 0 ≡ size_of shards names s) → IsPlanOf sizes names
sizes_in_order shards names sizes len each =
    ext_get_or 0 sizes (shard_sizes (length sizes) names) (sym (length-map-range_with_len (size_of (length sizes) names) 0 (length sizes)))
    (λ s inside. let known : s < shards = omega (arith, inside, len) in
    each s known ∙ subst (λ n. size_of n names s ≡ slice_index_or (shard_sizes (length sizes) names) s 0) len
    (sym (get_or-map-range_with_len (size_of (length sizes) names) 0 (length sizes) s s 0 inside (omega arith))))

-- the size of a shard after one more name
pub size_more : (shards : ℕ) (names : List (List ℕ)) (sizes : List ℕ) (i s x y : ℕ) → i < length names
    → x ≡ shard_of shards (slice_index_or names i []) → x < length sizes → y ≡ slice_index_or sizes x 0
    → slice_index_or sizes s 0 ≡ size_of shards (take i names) s
    → slice_index_or (set sizes x (y + 1)) s 0 ≡ size_of shards (take (i + 1) names) s
size_more shards names sizes i s x y inside is known value size = elim (cases_eq s x) [
  | inl same ↦
      let yes : (shard_of shards (slice_index_or names i []) == s) ≡ true = grind (arith, same, is) in
      subst (λ k. slice_index_or (set sizes x (y + 1)) k 0 ≡ slice_index_or sizes k 0 + 1) (sym same)
      (get_or-set_same sizes x (y + 1) 0 known ∙ ap (λ n. n + 1) value)
      ∙ ap (λ n. n + 1) size
      ∙ sym (count_by_more_yes (λ name. shard_of shards name == s) names i [] inside yes)
  | inr other ↦
      let no_more : (shard_of shards (slice_index_or names i []) == s) ≡ false = grind (arith, other, is) in
      get_or-set_other sizes x s (y + 1) 0 other
      ∙ size
      ∙ sym (count_by_more_no (λ name. shard_of shards name == s) names i [] inside no_more)
]
