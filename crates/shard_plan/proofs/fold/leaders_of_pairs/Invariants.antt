use Rattle.std.proofs.Common.{◌≡◌, length}
use Rattle.std.specs.Prelude.{All}
use Rattle.shard_plan.proofs.Runs.{AreDone}
use Rattle.shard_plan.specs.Runs.{HasLeaders, IsLeader}
use Rattle.shard_plan.proofs.fold.leaders_of_pairs.Given as goal

abbrev pub invariant-loop-place : goal.invariant-loop-place
invariant-loop-place l = record {
  len : length l.leaders.items ≡ length l.items.chunks;
  run : All (IsLeader l.items.chunks) l.run.items;
  has : HasLeaders l.items.chunks l.pairs l.run.items l.place;
  done : AreDone l.items.chunks l.pairs l.leaders.items l.place;
}
