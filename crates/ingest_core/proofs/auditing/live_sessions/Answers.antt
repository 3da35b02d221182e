use Rattle.std.proofs.Common.{◌<◌, ◌∙◌, arith, length, sym}
use Rattle.ingest_core.proofs.LiveSessions.{live-more, live-same}
use Rattle.ingest_core.proofs.auditing.live_sessions.Goals.{then-live, else-live}
use Rattle.ingest_core.proofs.auditing.live_sessions.Goals as goal

pub loop-session-preserved : goal.loop-session-preserved
loop-session-preserved c =
    let sessions = c.args.book.now.sessions in
    let k = c.loop-session.session in
    let was = c.loop-session.invariant.counted in
    let few = c.loop-session.invariant.few in
    let within : k < length sessions = omega (arith, c.loop-session-test.true, c.sessions-session-end.ensures) in
    elim c.if-live.branch [
      | then-live w ↦
          let more = live-more sessions k within (sym c.live.ensures ∙ w.if-live.true) in
          record { counted = omega (arith, w.live-is, was, more); few = omega (arith, w.live-is, few) }
      | else-live w ↦
          let same = live-same sessions k within (sym c.live.ensures ∙ w.if-live.false) in
          record { counted = omega (arith, w.live-is, was, same); few = omega (arith, w.live-is, few) }
    ]
