-- Sorted pairs of keys and numbers, and how the leaders of a run grow from pair to pair.
use Rattle.std.proofs.Common.{◌≡◌, ◌≢◌, ◌⊎◌, inl, inr, ℕ, Bool, true, false, ◌+◌, ◌-◌, ◌<◌, ◌≤◌, List, [], length, set, slice_index_or, refl, ap, sym, subst, ◌∙◌, arith}
use Rattle.std.specs.Prelude.{All, Contains, IsSorted, IsPermutation}
use Rattle.std.specs.Cmp.{IsTotalOrder, IsStrictWeakOrder}
use Rattle.std.specs.Ordering.{nat_cmp, ordering_then, is_lt}
use Rattle.std.specs.declared.cmp.Ordering.{Ordering}
use Rattle.std.specs.declared.cmp.Ordering.TheVariants.{Less, Equal, Greater}
use Rattle.std.proofs.lemmas.Bool.{cases_eq, cases_lt}
use Rattle.std.proofs.lemmas.Cmp.{nat_cmp_total, then_total, on_total, tied_itself}
use Rattle.std.proofs.lemmas.List.{ext_get_or, get_or_default, get_or-map, length-map, get_or-set_same, get_or-set_other}
use Rattle.std.proofs.lemmas.List.Elements.{All-contains, All-from_get_or, All-get_or, All-nil, Contains-get_or}
use Rattle.std.proofs.lemmas.List.Sorted.{All-permutation, Contains-permutation, ranks_by, sorted_far}
use Rattle.sd_base.specs.Distinct.{first_index}
use Rattle.shard_plan.proofs.Leaders.{leader_first, leader_same, leader_is_leader, one_leader}
use Rattle.shard_plan.specs.Items.{AreNamed}
use Rattle.shard_plan.specs.Leaders.{leader_of, leaders_of}
use Rattle.shard_plan.specs.Runs.{AreNumbered, AreSortedPairs, BeginsRun, HasLeaders, IsKeyed, IsLeader, key_at, key_of, number_at, pair_cmp}

-- the order of pairs is total
pair_total : IsTotalOrder pair_cmp
pair_total = then_total (on_total (λ pair. pair.0) nat_cmp_total) (on_total (λ pair. pair.1) nat_cmp_total)

pair_order : IsStrictWeakOrder (λ x y. is_lt (pair_cmp x y))
pair_order = ranks_by pair_total (λ pair. pair)

-- of two pairs of one key, the one with the lower number is first
lower_number : (x y : ℕ × ℕ) → x.0 ≡ y.0 → x.1 < y.1 → is_lt (pair_cmp x y) ≡ true
lower_number x y same below =
    let tied : nat_cmp x.0 y.0 ≡ Equal =
    subst (λ key. nat_cmp x.0 key ≡ Equal) same (tied_itself nat_cmp_total x.0)
    in
    let less : nat_cmp x.1 y.1 ≡ Less = grind (arith, below) in
    ap (λ o. is_lt (ordering_then o (nat_cmp x.1 y.1))) tied ∙ ap (λ o. is_lt o) less

first_not_less : (a b : Ordering) → is_lt (ordering_then a b) ≡ false → is_lt a ≡ false
first_not_less Less b kept = kept
first_not_less Equal b kept = refl
first_not_less Greater b kept = refl

not_both : (b : Bool) → b ≡ true → b ≡ false → ⊥
not_both b is other = let clash : true ≡ false = sym is ∙ other in absurd cc

not_less : (x y : ℕ) → is_lt (nat_cmp x y) ≡ false → y ≤ x
not_less x y not = elim (cases_lt x y) [
  | inl below ↦
      let less : nat_cmp x y ≡ Less = grind (arith, below) in
      absurd (not_both (is_lt (nat_cmp x y)) (ap is_lt less) not)
  | inr upto ↦ upto
]

-- keys do not fall along sorted pairs
no_fall : (pairs : List (ℕ × ℕ)) → IsSorted pair_cmp pairs → (i j : ℕ) → i ≤ j → j < length pairs
    → key_at pairs i ≤ key_at pairs j
no_fall pairs in_order i j upto inside =
    not_less (key_at pairs j) (key_at pairs i)
    (first_not_less (nat_cmp (key_at pairs j) (key_at pairs i)) (nat_cmp (number_at pairs j) (number_at pairs i))
    (sorted_far (λ x y. is_lt (pair_cmp x y)) pair_order pairs in_order i j (0, 0) upto inside))

-- before the first pair of a run no pair has a key of the pairs from there on
none_before : (chunks names : List (List ℕ)) (pairs : List (ℕ × ℕ)) (run : List ℕ) (p : ℕ)
    → AreSortedPairs names pairs → BeginsRun pairs p → HasLeaders chunks pairs run p
none_before chunks names pairs run p sorted begins q r before after inside same =
    let k = p - 1 in
    let low = no_fall pairs sorted.in_order q k (omega (arith, before)) (omega (arith, before, after, inside)) in
    let here = no_fall pairs sorted.in_order k p (omega arith) (omega (arith, after, inside)) in
    let high = no_fall pairs sorted.in_order p r after inside in
    absurd (begins k (omega (arith, before)) (omega (arith, low, here, high, same)))

-- the list of a run's leaders at a pair, if it is emptied at the first pair of each run
pub run_begun : (chunks names : List (List ℕ)) (pairs : List (ℕ × ℕ)) (old run : List ℕ) (p : ℕ)
    → AreSortedPairs names pairs → (run ≡ old) ⊎ ((run ≡ []) × BeginsRun pairs p)
    → All (IsLeader chunks) old → HasLeaders chunks pairs old p
    → All (IsLeader chunks) run × HasLeaders chunks pairs run p
run_begun chunks names pairs old run p sorted either leaders has = elim either [
  | inl kept ↦
      (subst (λ ls. All (IsLeader chunks) ls) (sym kept) leaders, subst (λ ls. HasLeaders chunks pairs ls p) (sym kept) has)
  | inr begun ↦ (
    subst (λ ls. All (IsLeader chunks) ls) (sym begun.0) (All-nil (IsLeader chunks)),
    none_before chunks names pairs run p sorted begun.1,
  )
]

-- an item is its own leader, or its leader is in the run
pub leader_found : (chunks names : List (List ℕ)) (pairs : List (ℕ × ℕ)) (run : List ℕ) (p : ℕ)
    → AreNamed chunks names → AreSortedPairs names pairs → HasLeaders chunks pairs run p → p < length pairs
    → (leader_of chunks (number_at pairs p) ≡ number_at pairs p) ⊎ Contains run (leader_of chunks (number_at pairs p))
leader_found chunks names pairs run p named sorted has inside =
    let n = number_at pairs p in
    let f = leader_of chunks n in
    let mine = All-get_or (IsKeyed names) pairs p (0, 0) inside sorted.keyed in
    let within : n < length chunks = omega (arith, mine.0, named.one_each) in
    let low = leader_first chunks n within in
    elim (cases_lt f n) [
      | inr high ↦ inl (omega (arith, low, high))
      | inl below ↦
          let known : f < length names = omega (arith, mine.0, below) in
          let key : key_of (slice_index_or names f []) ≡ key_at pairs p =
          ap key_of (named.agree f n (omega (arith, below, within)) within (leader_same chunks n within)) ∙ mine.1
          in
          let there = sorted.there f known in
          let r = there.0 in
          let at : slice_index_or pairs r (0, 0) ≡ (key_of (slice_index_or names f []), f) =
          get_or_default pairs r (0, 0) (key_of (slice_index_or names f []), f) there.1 ∙ there.2
          in
          let same : key_at pairs r ≡ key_at pairs p = ap (λ pair. pair.0) at ∙ key in
          let number : number_at pairs r ≡ f = ap (λ pair. pair.1) at in
          elim (cases_lt r p) [
            | inl before ↦
                let own : leader_of chunks (number_at pairs r) ≡ f =
                ap (λ k. leader_of chunks k) number ∙ (leader_is_leader chunks n within).1
                in inr (subst (λ l. Contains run l) own (has r p before (omega arith) inside same))
            | inr after ↦
                let x = slice_index_or pairs r (0, 0) in
                let y = slice_index_or pairs p (0, 0) in
                absurd (not_both (is_lt (pair_cmp x y)) (lower_number x y same (omega (arith, number, below)))
                (sorted_far (λ x y. is_lt (pair_cmp x y)) pair_order pairs sorted.in_order p r (0, 0) after there.1))
          ]
    ]

-- a leader with an item's bytes is that of the item
pub found_leader : (chunks : List (List ℕ)) (run seen : List ℕ) (l item : ℕ) → seen ≡ run → All (IsLeader chunks) run
    → Contains seen l → slice_index_or chunks l [] ≡ slice_index_or chunks item [] → l ≡ leader_of chunks item
found_leader chunks run seen l item all leaders there same =
    let own = All-contains (IsLeader chunks) run l leaders (subst (λ ls. Contains ls l) all there) in
    sym own.1 ∙ one_leader chunks l item same

-- an item whose bytes no leader of its run has is its own leader
pub own_leader : (chunks : List (List ℕ)) (run seen : List ℕ) (item : ℕ) → seen ≡ run → item < length chunks
    → ((l : ℕ) → Contains seen l → slice_index_or chunks l [] ≢ slice_index_or chunks item [])
    → (leader_of chunks item ≡ item) ⊎ Contains run (leader_of chunks item) → leader_of chunks item ≡ item
own_leader chunks run seen item all inside none either = elim either [
  | inl own ↦ own
  | inr there ↦
      absurd (none (leader_of chunks item) (subst (λ ls. Contains ls (leader_of chunks item)) (sym all) there) (leader_same chunks item inside))
]

-- the leaders of a run after one more pair
pub has_more : (chunks : List (List ℕ)) (pairs : List (ℕ × ℕ)) (run more : List ℕ) (p : ℕ)
    → HasLeaders chunks pairs run p → ((l : ℕ) → Contains run l → Contains more l)
    → Contains more (leader_of chunks (number_at pairs p)) → HasLeaders chunks pairs more (p + 1)
has_more chunks pairs run more p has kept added q r before after inside same = elim (cases_lt q p) [
  | inl earlier ↦
      kept (leader_of chunks (number_at pairs q)) (has q r earlier (omega (arith, after)) inside same)
  | inr here ↦
      let is : p ≡ q = omega (arith, before, here) in
      subst (λ k. Contains more (leader_of chunks (number_at pairs k))) is added
]

-- each pair before a place has its leader at its number
abbrev pub AreDone : List (List ℕ) → List (ℕ × ℕ) → List ℕ → ℕ → Type 0
AreDone chunks pairs leaders p = (q : ℕ) → q < p
    → slice_index_or leaders (number_at pairs q) 0 ≡ leader_of chunks (number_at pairs q)

pub done_more : (chunks : List (List ℕ)) (pairs : List (ℕ × ℕ)) (leaders : List ℕ) (p leader : ℕ)
    → AreDone chunks pairs leaders p → number_at pairs p < length leaders → leader ≡ leader_of chunks (number_at pairs p)
    → AreDone chunks pairs (set leaders (number_at pairs p) leader) (p + 1)
done_more chunks pairs leaders p leader done inside is q before =
    let n = number_at pairs p in
    elim (cases_eq (number_at pairs q) n) [
      | inl same ↦
          subst (λ k. slice_index_or (set leaders n leader) k 0 ≡ leader_of chunks k) (sym same)
          (get_or-set_same leaders n leader 0 inside ∙ is)
      | inr other ↦ elim (cases_lt q p) [
        | inl earlier ↦ get_or-set_other leaders n (number_at pairs q) leader 0 other ∙ done q earlier
        | inr here ↦
            let at : q ≡ p = omega (arith, before, here) in
            absurd (other (ap (λ k. number_at pairs k) at))
      ]
    ]

-- if each pair has its leader at its number, each item has
pub all_done : (chunks names : List (List ℕ)) (pairs : List (ℕ × ℕ)) (leaders : List ℕ)
    → AreNamed chunks names → AreSortedPairs names pairs → length leaders ≡ length chunks
    → AreDone chunks pairs leaders (length pairs) → leaders ≡ leaders_of chunks
all_done chunks names pairs leaders named sorted len done =
    ext_get_or 0 leaders (leaders_of chunks) (len ∙ sym (length-map chunks (first_index chunks))) each
  where
    each : (i : ℕ) → i < length leaders → slice_index_or leaders i 0 ≡ slice_index_or (leaders_of chunks) i 0
    each i inside =
        let there = sorted.there i (omega (arith, inside, len, named.one_each)) in
        let q = there.0 in
        let at : number_at pairs q ≡ i =
        ap (λ pair. pair.1) (get_or_default pairs q (0, 0) (key_of (slice_index_or names i []), i) there.1 ∙ there.2)
        in subst (λ k. slice_index_or leaders k 0 ≡ leader_of chunks k) at (done q there.1)
        ∙ sym (get_or-map (first_index chunks) chunks i [] 0 (omega (arith, inside, len)))

-- the pairs of all names, after a sort
pub sorted_numbered : (names : List (List ℕ)) (before after : List (ℕ × ℕ)) → AreNumbered names before
    → IsPermutation before after → IsSorted pair_cmp after → AreSortedPairs names after
sorted_numbered names before after numbered moved in_order = record {
  keyed = All-permutation (IsKeyed names) before after moved
      (All-from_get_or (IsKeyed names) before (0, 0) (λ i inside.
      let within : i < length names = omega (arith, inside, numbered.one_each) in
      subst (λ pair. IsKeyed names pair) (sym (numbered.each i within)) (within, refl)));
  there = λ k inside. Contains-permutation before after (key_of (slice_index_or names k []), k) moved
      (subst (λ pair. Contains before pair) (numbered.each k inside)
      (Contains-get_or before k (0, 0) (omega (arith, inside, numbered.one_each))));
  in_order = in_order;
}
