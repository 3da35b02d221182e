use Rattle.std.proofs.Common.{◌≡◌, ◌-◌, ◌≤◌, true, false, length, slice_range, sym, ap, ◌∙◌, inl, inr, arith}
use Rattle.std.proofs.lemmas.Bool.{cases_lt}
use Rattle.sd_base.specs.Cutting.{is_candidate, is_match}
use Rattle.sd_base.specs.Params.{numbers_of}
use Rattle.sd_base.proofs.Cutting.{next_cut_is}
use Rattle.sd_base.proofs.Cutting.{is_candidate_here}
use Rattle.backup_top.proofs.reference_cutting.next_cut_from.Goals as goal

pub loop-position-init : goal.loop-position-init
loop-position-init c = λ q may. may.long_enough

pub loop-position-preserved : goal.loop-position-preserved
loop-position-preserved c = λ q may.
    let p = c.loop-position.position in
    let least : p ≤ q = c.loop-position.invariant q may in
    elim (cases_lt p q) [
      | inl past ↦ omega arith
      | inr here ↦
          let e : q ≡ p = omega arith in
          let window : 48 ≤ p = omega arith in
          let within : p ≤ length c.args.input.now = omega arith in
          let same : c.start.result.polynomial ≡ c.args.params.now.polynomial =
          c.start.ensures.polynomial ∙ c.requires.same_polynomial in
          let matches : is_match (numbers_of c.args.params.now) (slice_range c.args.input.now (p - 48) p)
          ≡ false =
          sym (ap (is_match (numbers_of c.args.params.now)) c.start.ensures.bytes)
          ∙ sym (c.is_match.ensures.same_polynomial same) ∙ c.if-is_match.false in
          let no : true ≡ false =
          sym may.candidate ∙ ap (is_candidate (numbers_of c.args.params.now) c.args.input.now) e
          ∙ is_candidate_here (numbers_of c.args.params.now) c.args.input.now p window within ∙ matches in
          cc
    ]

pub returns-then-is_match : goal.returns-then-is_match
returns-then-is_match c =
    let p = c.loop-position.position in
    let window : 48 ≤ p = omega arith in
    let within : p ≤ length c.args.input.now = omega arith in
    let same : c.start.result.polynomial ≡ c.args.params.now.polynomial =
    c.start.ensures.polynomial ∙ c.requires.same_polynomial in
    let matches : is_match (numbers_of c.args.params.now) (slice_range c.args.input.now (p - 48) p) ≡ true =
    sym (ap (is_match (numbers_of c.args.params.now)) c.start.ensures.bytes)
    ∙ sym (c.is_match.ensures.same_polynomial same) ∙ c.if-is_match.true in
    next_cut_is (numbers_of c.args.params.now) c.args.input.now c.args.start p (record {
      least = c.loop-position.invariant;
      ends = inl (record {
        candidate = is_candidate_here (numbers_of c.args.params.now) c.args.input.now p window within
            ∙ matches;
        long_enough = omega arith;
        within = omega arith;
      });
      within = omega arith;
    })

pub returns : goal.returns
returns c =
    next_cut_is (numbers_of c.args.params.now) c.args.input.now c.args.start c.min-furthest.result (record {
      least = λ q may. omega (arith, c.loop-position.invariant q may);
      ends = inr c.min-furthest.ensures;
      within = omega arith;
    })
