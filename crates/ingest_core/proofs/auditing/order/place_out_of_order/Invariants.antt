use Rattle.std.proofs.Common.{◌≤◌, take}
use Rattle.sd_base.specs.Firsts.{HoldsBelow}
use Rattle.ingest_core.specs.AuditOrder.{IsPlaceInOrder}
use Rattle.ingest_core.proofs.OrderLemmas.{IsWalked}
use Rattle.ingest_core.proofs.auditing.order.place_out_of_order.Given as goal

abbrev pub invariant-loop-place : goal.invariant-loop-place
invariant-loop-place l = record {
  walked : IsWalked l.known (take l.place l.recipe) l.occurred;
  enough : l.occurred ≤ l.total;
  in_order : HoldsBelow l.place (IsPlaceInOrder l.known l.recipe l.total);
}
