use Rattle.std.proofs.Common.{arith, ℕ, ◌+◌, suc, length, take, subst, sym}
use Rattle.std.proofs.lemmas.Grind.{get_or_default_zero}
use Rattle.ingest_core.specs.AuditOrder.{IsPlaceInOrder}
use Rattle.ingest_core.proofs.OrderLemmas.{IsWalked, below-one_more, end-entry, end-walked, place-fails, place-in_order, walked-new, walked-none, walked-old}
use Rattle.ingest_core.proofs.auditing.order.place_out_of_order.Goals.{then-entry-occurred-2, else-entry-occurred-2}
use Rattle.ingest_core.proofs.auditing.order.place_out_of_order.Goals as goal

pub loop-place-init : goal.loop-place-init
loop-place-init c = record {
  walked = walked-none c.args.known;
  enough = omega arith;
  in_order = λ j below. absurd (omega arith);
}

pub returns-then-entry-occurred-clause-first : goal.returns-then-entry-occurred-clause-first
returns-then-entry-occurred-clause-first c =
    let l = c.loop-place in
    let same = get_or_default_zero c.args.recipe.now l.place c.args.total c.loop-place-test.true in
    record {
      within = omega arith;
      before = l.invariant.in_order;
      fails = place-fails c.args.known c.args.recipe.now c.args.total l.place l.occurred l.invariant.walked l.invariant.enough
          (omega (arith, same, c.if-entry-occurred.true));
    }

pub loop-place-preserved : goal.loop-place-preserved
loop-place-preserved c =
    let l = c.loop-place in
    let recipe = c.args.recipe.now in
    let same = get_or_default_zero recipe l.place c.args.total c.loop-place-test.true in
    let named = c.requires.named l.place c.args.total c.loop-place-test.true in
    record {
      walked = elim c.if-entry-occurred-2.branch [
        | then-entry-occurred-2 w ↦ subst (λ (n : ℕ). IsWalked c.args.known (take (l.place + 1) recipe) n) (sym w.occurred-is)
            (walked-new c.args.known recipe c.args.total l.place l.occurred c.loop-place-test.true l.invariant.walked
            (omega (arith, same, w.if-entry-occurred-2.true)))
        | else-entry-occurred-2 w ↦ subst (λ (n : ℕ). IsWalked c.args.known (take (l.place + 1) recipe) n) (sym w.occurred-is)
            (walked-old c.args.known recipe c.args.total l.place l.occurred c.loop-place-test.true l.invariant.walked
            (omega (arith, same, c.if-entry-occurred.false, w.if-entry-occurred-2.false)))
      ];
      enough = elim c.if-entry-occurred-2.branch [
        | then-entry-occurred-2 w ↦ omega (arith, w.occurred-is, w.if-entry-occurred-2.true, named, same)
        | else-entry-occurred-2 w ↦ omega (arith, w.occurred-is, l.invariant.enough)
      ];
      in_order = below-one_more (IsPlaceInOrder c.args.known recipe c.args.total) l.place (l.place + 1) (omega arith) l.invariant.in_order
          (place-in_order c.args.known recipe c.args.total l.place l.occurred l.invariant.walked l.invariant.enough
          (omega (arith, same, c.if-entry-occurred.false)));
    }

pub returns-then-occurred-total-clause-none : goal.returns-then-occurred-total-clause-none
returns-then-occurred-total-clause-none c = λ none.
    let l = c.loop-place in
    let recipe = c.args.recipe.now in
    below-one_more (IsPlaceInOrder c.args.known recipe c.args.total) (length recipe) (suc (length recipe)) (omega arith)
    (end-walked c.args.known recipe c.args.total l.place l.occurred (omega arith) l.invariant.walked l.invariant.in_order).1
    (place-in_order c.args.known recipe c.args.total (length recipe) l.occurred
    (end-walked c.args.known recipe c.args.total l.place l.occurred (omega arith) l.invariant.walked l.invariant.in_order).0
    l.invariant.enough (omega (arith, end-entry recipe c.args.total, c.if-occurred-total.true)))

pub returns-else-occurred-total-clause-first : goal.returns-else-occurred-total-clause-first
returns-else-occurred-total-clause-first c =
    let l = c.loop-place in
    let recipe = c.args.recipe.now in
    let end = end-walked c.args.known recipe c.args.total l.place l.occurred (omega arith) l.invariant.walked l.invariant.in_order in
    record {
      within = omega arith;
      before = end.1;
      fails = place-fails c.args.known recipe c.args.total (length recipe) l.occurred end.0 l.invariant.enough
          (omega (arith, end-entry recipe c.args.total, l.invariant.enough, c.if-occurred-total.false));
    }
