use Rattle.std.proofs.Common.{rules, arith, ◌∙◌, ◌+◌, ◌↔◌, Some, IsTrue}
use Rattle.ingest_core.proofs.AuditChunks.{count-of}
use Rattle.ingest_core.proofs.AuditTwins.{AreEqual, DifferTo, differ-next, there-before, there-both, twin-first}
use Rattle.ingest_core.specs.AuditTwins.{IsEarlierTwin}
use Rattle.sd_base.specs.Flaws.{IsNew}
use Rattle.ingest_core.proofs.auditing.twins.first_twin.Goals as goal

pub returns-then-branch-clause-twin : goal.returns-then-branch-clause-twin
returns-then-branch-clause-twin g c name_of stored =
    let told = g.F.Shelf.files c.args.shelf.now in
    let later = g.F.Shelf.files c.loop-earlier.shelf in
    let generation = c.args.generation in
    let spots = c.args.spots.now in
    let kept = c.args.kept.now in
    let number = c.args.number in
    let earlier = c.loop-earlier.earlier in
    let same = c.in_ok-are_twins.field-0 in
    let Tells : Type 0 = IsTrue same ↔ AreEqual stored earlier number in
    there-both name_of generation spots kept stored told (DifferTo stored number earlier) Tells (IsEarlierTwin stored number (Some earlier))
    (λ lengths before tells.
    let count = count-of stored kept lengths in
    twin-first stored number earlier same c.if-branch.true c.loop-earlier-test.true (omega (arith, c.requires.within, count)) before tells)
    (c.loop-earlier.invariant.before name_of stored)
    (there-before name_of generation spots kept stored told later c.loop-earlier.invariant.reads.same_files Tells
    (c.in_ok-are_twins.ensures.twins name_of stored))

pub loop-earlier-preserved : goal.loop-earlier-preserved
loop-earlier-preserved g c = record {
  reads = search rules;
  unread = λ own.
      c.in_ok-are_twins.ensures.unread (own c.loop-earlier.earlier c.loop-earlier-test.true) ∙ c.loop-earlier.invariant.unread own;
  before = λ name_of stored.
      let told = g.F.Shelf.files c.args.shelf.now in
      let later = g.F.Shelf.files c.loop-earlier.shelf in
      let generation = c.args.generation in
      let spots = c.args.spots.now in
      let kept = c.args.kept.now in
      let number = c.args.number in
      let earlier = c.loop-earlier.earlier in
      let same = c.in_ok-are_twins.field-0 in
      let Tells : Type 0 = IsTrue same ↔ AreEqual stored earlier number in
      there-both name_of generation spots kept stored told (DifferTo stored number earlier) Tells (DifferTo stored number (earlier + 1))
      (λ lengths before tells. differ-next stored number earlier same c.if-branch.false before tells)
      (c.loop-earlier.invariant.before name_of stored)
      (there-before name_of generation spots kept stored told later c.loop-earlier.invariant.reads.same_files Tells
      (c.in_ok-are_twins.ensures.twins name_of stored));
}

pub returns-clause-twin : goal.returns-clause-twin
returns-clause-twin g c name_of stored =
    let told = g.F.Shelf.files c.args.shelf.now in
    let Before : Type 0 = DifferTo stored c.args.number c.loop-earlier.earlier in
    there-both name_of c.args.generation c.args.spots.now c.args.kept.now stored told Before Before (IsNew stored c.args.number)
    (λ lengths before again k below. before k (omega (arith, below, c.loop-earlier-test.false)))
    (c.loop-earlier.invariant.before name_of stored) (c.loop-earlier.invariant.before name_of stored)
