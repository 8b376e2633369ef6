use Rattle.std.proofs.Common.{◌≡◌, []}
use Rattle.ad_maps.specs.Seen.{AreNew}
use Rattle.ad_maps.specs.Opening.{mover_dealt}
use Rattle.ad_maps.proofs.open.deal.Given as goal

abbrev pub invariant-loop-worker : goal.invariant-loop-worker
invariant-loop-worker l = record {
  at : l.mover.table_id ≡ l.fn.mover.table_id;
  view : l.mover.me ≡ (mover_dealt l.table.shared.key l.worker, []);
  seats : AreNew l.table.shared.table_id l.worker l.seats.items;
}
