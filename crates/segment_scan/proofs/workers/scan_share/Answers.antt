use Rattle.std.proofs.Common.{◌≡◌, ◌-◌, ◌*◌, ◌+◌, ◌<◌, ◌≤◌, length, ap, arith}
use Rattle.std.proofs.lemmas.Grind.{div_ceil_times}
use Rattle.sd_base.specs.Params.{numbers_of}
use Rattle.segment_scan.proofs.Shares.{turn_inside, segment_inside, holds_more_turns, holds_share}
use Rattle.segment_scan.proofs.workers.scan_share.Goals as goal

pub scan_segment-requires-clause-inside : goal.scan_segment-requires-clause-inside
scan_segment-requires-clause-inside g c κs within =
    let work = c.args.work.now in
    let segments = c.div_ceil-segments.result in
    let turns = c.div_ceil-turns.result in
    let turn = c.loop-turn.turn in
    let covered : segments * work.segment < length work.text.now + work.segment =
    omega (arith, ap (λ n. n * work.segment) c.div_ceil-segments.ensures, div_ceil_times (length work.text.now) work.segment work.segment_in_range.0) in
    let enough : turns * work.workers < segments - c.args.worker + work.workers =
    omega (arith, ap (λ n. n * work.workers) c.div_ceil-turns.ensures, div_ceil_times c.saturating_sub.result work.workers work.workers_in_range.0) in
    segment_inside work.segment segments (turn * work.workers + c.args.worker) (length work.text.now) covered
    (turn_inside work.workers c.args.worker segments turns turn enough c.loop-turn-test.true)

pub loop-turn-preserved : goal.loop-turn-preserved
loop-turn-preserved g c =
    let work = c.args.work.now in
    holds_more_turns (numbers_of work.params.now) work.text.now work.segment work.workers c.args.worker c.loop-turn.turn c.loop-turn.map c.scan_segment.new.map
    work.segment_in_range.0 c.requires.of_the_workers c.scan_segment.ensures.added c.loop-turn.invariant

pub returns : goal.returns
returns g c =
    let work = c.args.work.now in
    let segments = c.div_ceil-segments.result in
    let turns = c.div_ceil-turns.result in
    let turn = c.loop-turn.turn in
    let all : turn ≡ turns = omega (arith, c.loop-turn.auto.turn-end) in
    let covered : length work.text.now ≤ segments * work.segment =
    omega (arith, ap (λ n. n * work.segment) c.div_ceil-segments.ensures, div_ceil_times (length work.text.now) work.segment work.segment_in_range.0) in
    let enough : segments - c.args.worker ≤ turn * work.workers =
    omega (arith, ap (λ n. n * work.workers) all, ap (λ n. n * work.workers) c.div_ceil-turns.ensures, div_ceil_times c.saturating_sub.result work.workers work.workers_in_range.0) in
    holds_share (numbers_of work.params.now) work.text.now work.segment work.workers c.args.worker segments turn c.loop-turn.map
    work.segment_in_range.0 covered enough c.loop-turn.invariant
