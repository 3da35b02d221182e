use Rattle.std.proofs.Common.{◌<◌, arith, rules, subst, sym}
use Rattle.std.specs.List.{All}
use Rattle.store_core.specs.Counting.{CountPlaces, places_at}
use Rattle.store_core.proofs.CountLemmas.{places-known, room-for_next, taken-one_more}
use Rattle.store_core.proofs.store.counting.counts_of.Goals as goal

pub count_session-requires-clause-known : goal.count_session-requires-clause-known
count_session-requires-clause-known c =
    let sessions = c.args.book.now.sessions in
    subst (λ n. All (λ p. p < n) (places_at sessions c.loop-session.session)) (sym c.loop-session.invariant.chunks)
    (places-known sessions c.loop-session.session c.requires.recipes)

pub count_session-requires-clause-room : goal.count_session-requires-clause-room
count_session-requires-clause-room c =
    room-for_next c.args.book.now.sessions c.loop-session.session c.loop-session.counts
    (omega (arith, c.loop-session-test.true, c.sessions-session-end.ensures))
    c.requires.few_places c.loop-session.invariant.counted

pub loop-session-preserved : goal.loop-session-preserved
loop-session-preserved c = record {
  counted = subst (λ places. CountPlaces places c.count_session.new.counts)
      (sym (taken-one_more c.args.book.now.sessions c.loop-session.session
      (omega (arith, c.loop-session-test.true, c.sessions-session-end.ensures))))
      (c.count_session.ensures.counted _ c.loop-session.invariant.counted);
  chunks = search rules;
}
