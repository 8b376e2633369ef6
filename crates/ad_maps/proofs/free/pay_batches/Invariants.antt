use Rattle.std.proofs.Common.{◌≡◌}
use Rattle.ad_maps.specs.Seen.{AddsUnmaps}
use Rattle.ad_maps.specs.Steps.{left_with}
use Rattle.ad_maps.specs.Private.Handles.{acts_of, worker_of, IsWorker}
use Rattle.ad_maps.proofs.free.pay_batches.Given as goal

abbrev pub invariant-loop-paid : goal.invariant-loop-paid
invariant-loop-paid l = record {
  at : l.seat.table_id ≡ l.fn.seat.table_id;
  left : IsWorker l.seat.me l.slot (left_with l.paid l.last);
  worker : worker_of l.seat.me.0 ≡ worker_of l.fn.seat.me.0;
  acts : AddsUnmaps (acts_of l.fn.seat.me.0) (acts_of l.seat.me.0);
}
