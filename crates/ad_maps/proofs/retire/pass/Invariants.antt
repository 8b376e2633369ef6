use Rattle.std.proofs.Common.{◌≡◌}
use Rattle.ad_maps.specs.Private.Handles.{plan_of, Passes}
use Rattle.ad_maps.proofs.retire.pass.Given as goal

abbrev pub invariant-loop-slot : goal.invariant-loop-slot
invariant-loop-slot l = record {
  at : l.seat.table_id ≡ l.fn.seat.table_id;
  passes : Passes (plan_of l.fn.seat.me.0) l.slot l.seat.me;
}
