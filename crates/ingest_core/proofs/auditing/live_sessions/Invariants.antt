use Rattle.std.proofs.Common.{◌≡◌, ◌≤◌, take}
use Rattle.std.specs.List.{count_by}
use Rattle.ingest_core.proofs.auditing.live_sessions.Given as goal

abbrev pub invariant-loop-session : goal.invariant-loop-session
invariant-loop-session l = record {
  counted : l.live ≡ count_by (λ session. session.live) (take l.session l.book.sessions);
  few : l.live ≤ l.session;
}
