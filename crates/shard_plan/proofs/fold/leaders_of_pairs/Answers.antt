use Rattle.std.proofs.Common.{◌≡◌, ◌<◌, length, subst, ◌∙◌, arith}
use Rattle.std.proofs.lemmas.List.{length-set}
use Rattle.std.specs.Prelude.{Contains}
use Rattle.std.proofs.lemmas.List.Elements.{All-get_or}
use Rattle.shard_plan.proofs.Runs.{AreDone, all_done, done_more, has_more, leader_found, run_begun}
use Rattle.shard_plan.specs.Runs.{IsKeyed, number_at}
use Rattle.shard_plan.proofs.fold.leaders_of_pairs.Goals as goal

pub leader_in-requires : goal.leader_in-requires
leader_in-requires c =
    let chunks = c.args.items.now.chunks in
    let names = c.args.items.now.names in
    let pairs = c.args.pairs.now in
    let place = c.loop-place.place in
    let run = c.begin_run.new.run.items in
    let begun =
    run_begun chunks names pairs c.loop-place.run.items run place c.requires.pairs c.begin_run.ensures.run
    c.loop-place.invariant.run c.loop-place.invariant.has
    in
    let mine = All-get_or (IsKeyed names) pairs place (0, 0) c.loop-place-test.true c.requires.pairs.keyed in
    record {
      inside = omega (arith, mine.0, c.len-count.ensures.named.one_each);
      leaders = begun.0;
      found = leader_found chunks names pairs run place c.len-count.ensures.named c.requires.pairs begun.1 c.loop-place-test.true;
    }

pub loop-place-preserved : goal.loop-place-preserved
loop-place-preserved c =
    let chunks = c.args.items.now.chunks in
    let names = c.args.items.now.names in
    let pairs = c.args.pairs.now in
    let place = c.loop-place.place in
    let run = c.begin_run.new.run.items in
    let more = c.leader_in.new.run.items in
    let leaders = c.loop-place.leaders.items in
    let leader = c.in_ok-leaders-2.field-0 in
    let begun =
    run_begun chunks names pairs c.loop-place.run.items run place c.requires.pairs c.begin_run.ensures.run
    c.loop-place.invariant.run c.loop-place.invariant.has
    in
    let mine = All-get_or (IsKeyed names) pairs place (0, 0) c.loop-place-test.true c.requires.pairs.keyed in
    let inside : number_at pairs place < length leaders =
    omega (arith, mine.0, c.len-count.ensures.named.one_each, c.loop-place.invariant.len)
    in
    record {
      len = length-set leaders (number_at pairs place) leader ∙ c.loop-place.invariant.len;
      run = c.in_ok-leaders-2.ensures.leaders;
      has = has_more chunks pairs run more place begun.1 c.in_ok-leaders-2.ensures.kept
          (subst (λ l. Contains more l) c.in_ok-leaders-2.ensures.leader c.in_ok-leaders-2.ensures.added);
      done = done_more chunks pairs leaders place leader c.loop-place.invariant.done inside c.in_ok-leaders-2.ensures.leader;
    }

pub returns : goal.returns
returns c =
    let pairs = c.args.pairs.now in
    let all : c.loop-place.place ≡ length pairs = omega (arith, c.loop-place-test.false, c.loop-place.auto.place-end) in
    record {
      leaders = all_done c.args.items.now.chunks c.args.items.now.names pairs c.loop-place.leaders.items c.len-count.ensures.named
          c.requires.pairs c.loop-place.invariant.len
          (subst (λ p. AreDone c.args.items.now.chunks pairs c.loop-place.leaders.items p) all c.loop-place.invariant.done);
    }
