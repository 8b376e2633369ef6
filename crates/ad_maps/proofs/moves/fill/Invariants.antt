use Rattle.std.proofs.Common.{◌≡◌, []}
use Rattle.ad_maps.specs.declared.view.Doing.TheVariants.{Mover}
use Rattle.ad_maps.specs.Private.Handles.{filled, plan_of}
use Rattle.ad_maps.proofs.moves.fill.Given as goal

abbrev pub invariant-loop-entry : goal.invariant-loop-entry
invariant-loop-entry l = record {
  at : l.seat.table_id ≡ l.fn.seat.table_id;
  view : l.seat.me ≡ (Mover (filled l.made l.entry (plan_of l.fn.seat.me.0)), []);
}
