use Rattle.std.proofs.Common.{◌+◌, ◌-◌, ◌≤◌, ◌<◌, min, length, sym, arith}
use Rattle.sd_base.specs.Cutting.{next_cut}
use Rattle.sd_base.specs.Params.{numbers_of}
use Rattle.sd_base.proofs.Cutting.{lt-next_cut, next_cut-le, cuts_of_push, cuts_of_all}
use Rattle.backup_top.proofs.reference_cutting.plain_cuts.Goals as goal

pub loop-start-smaller : goal.loop-start-smaller
loop-start-smaller c =
    let on : c.loop-start.start
    < next_cut (numbers_of c.args.params.now) c.args.input.now c.loop-start.start =
    lt-next_cut (numbers_of c.args.params.now) c.args.input.now c.loop-start.start c.loop-start-test.true
    (omega arith) c.args.params.now.ordered in
    let up : next_cut (numbers_of c.args.params.now) c.args.input.now c.loop-start.start
    ≤ min (c.loop-start.start + c.args.params.now.max) (length c.args.input.now) =
    next_cut-le (numbers_of c.args.params.now) c.args.input.now c.loop-start.start in
    omega (arith, c.next_cut_from-start.ensures)

pub loop-start-preserved : goal.loop-start-preserved
loop-start-preserved c =
    let params = numbers_of c.args.params.now in
    let input = c.args.input.now in
    let s = c.loop-start.start in
    let min_positive : 1 ≤ c.args.params.now.min = omega arith in
    let on : s < next_cut params input s =
    lt-next_cut params input s c.loop-start-test.true min_positive c.args.params.now.ordered in
    let up : next_cut params input s ≤ min (s + c.args.params.now.max) (length input) =
    next_cut-le params input s in
    record {
      within = omega (arith, c.next_cut_from-start.ensures);
      so_far =
          rw (c.in_ok-push.ensures.items, c.next_cut_from-start.ensures)
          (cuts_of_push params input min_positive c.args.params.now.ordered c.loop-start.cuts.items
          (length input - s) (length input - next_cut params input s) s
          c.loop-start-test.true (omega arith) (omega arith) c.loop-start.invariant.so_far);
    }

pub returns : goal.returns
returns c =
    let min_positive : 1 ≤ c.args.params.now.min = omega arith in
    sym (cuts_of_all (numbers_of c.args.params.now) c.args.input.now min_positive c.args.params.now.ordered
    c.loop-start.cuts.items (length c.args.input.now - c.loop-start.start) c.loop-start.start
    c.loop-start-test.false c.loop-start.invariant.so_far)
