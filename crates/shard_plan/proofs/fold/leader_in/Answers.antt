use Rattle.std.proofs.Common.{All, subst, sym}
use Rattle.std.proofs.lemmas.List.Elements.{All-push}
use Rattle.shard_plan.proofs.Runs.{found_leader, own_leader}
use Rattle.shard_plan.specs.Runs.{IsLeader}
use Rattle.shard_plan.proofs.fold.leader_in.Goals as goal

pub returns-in-Some-clause-leader : goal.returns-in-Some-clause-leader
returns-in-Some-clause-leader c =
    found_leader c.args.items.now.chunks c.args.run.now.items c.deref.result.now c.in-Some.leader c.args.item c.deref.ensures.value
    c.requires.leaders c.in-Some.ensures.same.0 c.in-Some.ensures.same.1

pub returns-clause-leader : goal.returns-clause-leader
returns-clause-leader c =
    sym (own_leader c.args.items.now.chunks c.args.run.now.items c.deref.result.now c.args.item c.deref.ensures.value c.requires.inside
    c.in_default.ensures.none c.requires.found)

pub returns-clause-leaders : goal.returns-clause-leaders
returns-clause-leaders c =
    let chunks = c.args.items.now.chunks in
    let run = c.args.run.now.items in
    let own =
    own_leader chunks run c.deref.result.now c.args.item c.deref.ensures.value c.requires.inside c.in_default.ensures.none
    c.requires.found
    in
    subst (λ ls. All (IsLeader chunks) ls) (sym c.in_ok-push.ensures.items)
    (All-push (IsLeader chunks) run c.args.item c.requires.leaders (c.requires.inside, own))
