use Rattle.std.proofs.Common.{rules, arith, ◌≡◌, ◌∙◌, ◌+◌, ℕ, Some, subst}
use Rattle.std.specs.Prelude.{Option}
use Rattle.ingest_core.proofs.AuditChunks.{count-of}
use Rattle.ingest_core.proofs.AuditTwins.{IfThere, below-next, first-twin, there-before, there-both}
use Rattle.ingest_core.specs.AuditTwins.{IsEarlierTwin, IsFirstTwin}
use Rattle.sd_base.specs.Firsts.{HoldsBelow}
use Rattle.sd_base.specs.Flaws.{AreNew, IsNew}
use Rattle.sd_base.specs.declared.damage.Damage.TheVariants.{Twin}
use Rattle.ingest_core.proofs.auditing.twins.check_twins.Goals as goal

pub returns-in-Some-clause-damaged : goal.returns-in-Some-clause-damaged
returns-in-Some-clause-damaged g c name_of stored damage is =
    let told = g.F.Shelf.files c.args.shelf.now in
    let later = g.F.Shelf.files c.loop-number.shelf in
    let generation = c.args.generation in
    let spots = c.args.spots.now in
    let kept = c.args.kept.now in
    let number = c.loop-number.number in
    let first = c.in-Some.first in
    let same : Twin first number ≡ damage = cc in
    let Found : Type 0 = IsEarlierTwin stored number (Some first) in
    let Before : Type 0 = HoldsBelow number (IsNew stored) in
    there-both name_of generation spots kept stored told Before Found (IsFirstTwin stored damage)
    (λ lengths before found.
    let count = count-of stored kept lengths in
    first-twin stored number first damage (omega (arith, count)) before found same)
    (c.loop-number.invariant.different name_of stored)
    (there-before name_of generation spots kept stored told later c.loop-number.invariant.reads.same_files Found
    (subst (λ (found : Option ℕ). IfThere name_of generation spots kept stored later (IsEarlierTwin stored number found)) c.in-Some.is
    (c.in_ok-found.ensures.twin name_of stored)))

pub loop-number-preserved : goal.loop-number-preserved
loop-number-preserved g c = record {
  reads = search rules;
  unread = λ own. c.in_ok-found.ensures.unread (own c.loop-number.number (omega arith)) ∙ c.loop-number.invariant.unread own;
  seen = c.in_ok-found.ensures.seen;
  different = λ name_of stored.
      let told = g.F.Shelf.files c.args.shelf.now in
      let later = g.F.Shelf.files c.loop-number.shelf in
      let number = c.loop-number.number in
      let generation = c.args.generation in
      let spots = c.args.spots.now in
      let kept = c.args.kept.now in
      let Before : Type 0 = HoldsBelow number (IsNew stored) in
      there-both name_of generation spots kept stored told Before (IsNew stored number) (HoldsBelow (number + 1) (IsNew stored))
      (λ lengths before new. below-next (IsNew stored) number before new)
      (c.loop-number.invariant.different name_of stored)
      (there-before name_of generation spots kept stored told later c.loop-number.invariant.reads.same_files (IsNew stored number)
      (subst (λ (found : Option ℕ). IfThere name_of generation spots kept stored later (IsEarlierTwin stored number found)) c.in_default.is
      (c.in_ok-found.ensures.twin name_of stored)));
}

pub returns-clause-different : goal.returns-clause-different
returns-clause-different g c name_of stored =
    let told = g.F.Shelf.files c.args.shelf.now in
    let kept = c.args.kept.now in
    let Before : Type 0 = HoldsBelow c.loop-number.number (IsNew stored) in
    there-both name_of c.args.generation c.args.spots.now kept stored told Before Before (AreNew stored)
    (λ lengths before again k below.
    let count = count-of stored kept lengths in
    before k (omega (arith, below, count)))
    (c.loop-number.invariant.different name_of stored) (c.loop-number.invariant.different name_of stored)
