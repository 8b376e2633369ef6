use Rattle.std.proofs.Common.{◌≡◌, []}
use Rattle.ad_stacks.specs.Seen.{AreNew}
use Rattle.ad_stacks.specs.Opening.{mover_dealt}
use Rattle.ad_stacks.proofs.open.deal.Given as goal

abbrev pub invariant-loop-lane : goal.invariant-loop-lane
invariant-loop-lane l = record {
  at : l.mover.table_id ≡ l.fn.mover.table_id;
  view : l.mover.me ≡ (mover_dealt l.table.shared.key.items l.lane, []);
  seats : AreNew l.table.shared.table_id l.lane l.seats.items;
}
