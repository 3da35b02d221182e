use Rattle.std.proofs.Common.{◌≡◌}
use Rattle.sd_base.specs.Firsts.{HoldsAtPlaces}
use Rattle.sd_base.specs.Flaws.{IsInOrder, chunks_before, places_and_end}
use Rattle.ingest_core.proofs.auditing.order.order_flaw.Given as goal

abbrev pub invariant-loop-session : goal.invariant-loop-session
invariant-loop-session l = record {
  counted : l.known ≡ chunks_before l.book l.session;
  in_order : HoldsAtPlaces l.session (places_and_end l.book) (IsInOrder l.book);
}
