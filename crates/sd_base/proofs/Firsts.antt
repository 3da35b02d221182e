-- Two properties of numbers that agree at each number up to the first at which one does not hold.
use Rattle.std.proofs.Common.{inl, inr, ℕ, zero, suc, ◌<◌, ◌≤◌, ◌↔◌, arith}
use Rattle.std.proofs.lemmas.Bool.{cases_lt}
use Rattle.sd_base.specs.Firsts.{HoldsBelow, IsFirstFailing}

module _ (n : ℕ) (A B : ℕ → Type 0) (agree : (i : ℕ) → i < n → HoldsBelow i A → A i ↔ B i) where
  -- as far as the second holds, the first does
  pub below-back : (k : ℕ) → k ≤ n → HoldsBelow k B → HoldsBelow k A
  below-back zero within holds = λ j below. absurd (omega arith)
  below-back (suc k) within holds =
      let earlier = below-back k (omega arith) (λ j below. holds j (omega arith)) in
      λ j below.
      elim (cases_lt j k) [
        | inl before ↦ earlier j before
        | inr last ↦ (agree j (omega arith) (λ i lower. earlier i (omega arith))).1 (holds j below)
      ]

  -- one holds everywhere below n exactly if the other does
  pub below-same : HoldsBelow n A ↔ HoldsBelow n B
  below-same = (
    λ holds i within. (agree i within (λ j below. holds j (omega arith))).0 (holds i within),
    below-back n (omega arith),
  )

  -- the first failure of one is that of the other
  pub first-same : (k : ℕ) → IsFirstFailing n A k → IsFirstFailing n B k
  first-same k first = record {
    within = first.within;
    before = λ j below. (agree j (omega (arith, first.within, below)) (λ i lower. first.before i (omega arith))).0 (first.before j below);
    fails = λ holds. first.fails ((agree k first.within first.before).1 holds);
  }

  pub first-back : (k : ℕ) → IsFirstFailing n B k → IsFirstFailing n A k
  first-back k first =
      let before = below-back k (omega (arith, first.within)) first.before in
      record {
        within = first.within;
        before = before;
        fails = λ holds. first.fails ((agree k first.within before).0 holds);
      }
