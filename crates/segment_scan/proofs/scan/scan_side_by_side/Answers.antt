use Rattle.std.proofs.Common.{◌≡◌, ◌+◌, ◌-◌, ◌%◌, ◌/◌, ◌^◌, ◌≤◌, ◌||◌, ◌&&◌, eqb, slice_range, refl, ap, ◌∙◌, arith}
use Rattle.candidate_map.specs.Positions.{has}
use Rattle.sd_base.specs.Params.{numbers_of}
use Rattle.sd_base.specs.Polynomial.{fingerprint}
use Rattle.sd_base.specs.declared.limits.TheConstants.{WINDOW}
use Rattle.segment_scan.proofs.Adding.{hit_is}
use Rattle.segment_scan.proofs.Halves.{adds_neither, adds_more_of_both, adds_halves}
use Rattle.segment_scan.proofs.Windows.{fingerprint_rolled}
use Rattle.segment_scan.proofs.scan.scan_side_by_side.Goals as goal

pub loop-p-init : goal.loop-p-init
loop-p-init c =
    let params = numbers_of c.args.params.now in
    let text = c.args.text.now in
    let polynomial = c.args.tables.now.polynomial in
    let first = c.args.first in
    let middle = c.args.to - (c.args.to - first) / 2 in
    let at = first + (middle - first) in
    let bits = c.new-low_bits.result.bits in
    let target = c.new-low_bits.result.target in
    let left = c.fingerprint-left.result in
    let right = c.fingerprint-right.result in
    let right_hit = eqb (right % 2 ^ bits) target in
    let is_at : middle ≡ at = omega arith in
    let right_is : right ≡ fingerprint polynomial (slice_range text (at - WINDOW) at) =
    c.fingerprint-right.ensures.fingerprint ∙ ap (λ n. fingerprint polynomial (slice_range text (n - WINDOW) n)) is_at in
    record {
      left = c.fingerprint-left.ensures.fingerprint;
      left_reduced = c.fingerprint-left.ensures.reduced;
      right = right_is;
      right_reduced = c.fingerprint-right.ensures.reduced;
      added = adds_more_of_both params text (first - 1) (first - 1) first (middle - 1) (middle - 1) at
          c.args.map.now c.args.map.now c.mark.new.map c.mark-2.new.map (eqb (left % 2 ^ bits) target) right_hit
          (omega arith) (omega arith)
          (hit_is params text first polynomial left bits target (omega arith) (omega arith) c.requires.same_polynomial c.new-low_bits.ensures.bits c.new-low_bits.ensures.target c.fingerprint-left.ensures.fingerprint)
          (omega arith) (omega arith)
          (hit_is params text at polynomial right bits target (omega arith) (omega arith) c.requires.same_polynomial c.new-low_bits.ensures.bits c.new-low_bits.ensures.target right_is)
          c.mark.ensures.bits c.mark.ensures.added
          c.mark-2.ensures.bits
          (λ q. c.mark-2.ensures.added q ∙ ap (λ n. has c.mark.new.map q || (eqb q n && right_hit)) is_at)
          (adds_neither params text (first - 1) (middle - 1) c.args.map.now);
    }

pub loop-p-preserved : goal.loop-p-preserved
loop-p-preserved c =
    let params = numbers_of c.args.params.now in
    let text = c.args.text.now in
    let polynomial = c.args.tables.now.polynomial in
    let first = c.args.first in
    let middle = c.args.to - (c.args.to - first) / 2 in
    let p = c.loop-p.p in
    let q = p + (middle - first) in
    let next = p + 1 + (middle - first) in
    let bits = c.new-low_bits.result.bits in
    let target = c.new-low_bits.result.target in
    let left = c.roll-left.result in
    let right = c.roll-right.result in
    let left_hit = eqb (left % 2 ^ bits) target in
    let right_hit = eqb (right % 2 ^ bits) target in
    let is_next : next ≡ q + 1 = omega arith in
    let also_next : q + 1 ≡ next = omega arith in
    let left_rolled : left ≡ fingerprint polynomial (slice_range text (p + 1 - WINDOW) (p + 1)) =
    fingerprint_rolled text polynomial c.loop-p.left left p (p + 1) (omega arith) (omega arith) refl c.loop-p.invariant.left c.roll-left.ensures.rolled in
    let right_rolled : right ≡ fingerprint polynomial (slice_range text (next - WINDOW) next) =
    fingerprint_rolled text polynomial c.loop-p.right right q next (omega arith) (omega arith) is_next c.loop-p.invariant.right c.roll-right.ensures.rolled in
    record {
      left = left_rolled;
      left_reduced = c.roll-left.ensures.reduced;
      right = right_rolled;
      right_reduced = c.roll-right.ensures.reduced;
      added = adds_more_of_both params text (first - 1) p (p + 1) (middle - 1) q next
          c.args.map.now c.loop-p.map c.mark-in-loop-p.new.map c.mark-in-loop-p-2.new.map left_hit right_hit
          refl (omega arith)
          (hit_is params text (p + 1) polynomial left bits target (omega arith) (omega arith) c.requires.same_polynomial c.new-low_bits.ensures.bits c.new-low_bits.ensures.target left_rolled)
          is_next (omega arith)
          (hit_is params text next polynomial right bits target (omega arith) (omega arith) c.requires.same_polynomial c.new-low_bits.ensures.bits c.new-low_bits.ensures.target right_rolled)
          c.mark-in-loop-p.ensures.bits c.mark-in-loop-p.ensures.added
          c.mark-in-loop-p-2.ensures.bits
          (λ at. c.mark-in-loop-p-2.ensures.added at ∙ ap (λ n. has c.mark-in-loop-p.new.map at || (eqb at n && right_hit)) also_next)
          c.loop-p.invariant.added;
    }

pub returns : goal.returns
returns c =
    let first = c.args.first in
    let half = (c.args.to - first) / 2 in
    let middle = c.args.to - half in
    let p = c.loop-p.p in
    let upto : p ≤ first + half = c.loop-p.auto.p-end (omega arith) in
    let at_end : p + (middle - first) ≡ c.args.to = omega arith in
    adds_halves (numbers_of c.args.params.now) c.args.text.now (first - 1) p (middle - 1) (p + (middle - first)) c.args.to c.args.map.now c.loop-p.map
    (omega arith) (omega arith) (omega arith) at_end c.loop-p.invariant.added
