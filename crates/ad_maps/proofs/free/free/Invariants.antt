use Rattle.std.proofs.Common.{◌≡◌}
use Rattle.ad_maps.specs.Steps.{freeing_from}
use Rattle.ad_maps.specs.Private.Handles.{Frees}
use Rattle.ad_maps.proofs.free.free.Given as goal

abbrev pub invariant-loop-member : goal.invariant-loop-member
invariant-loop-member l = record {
  at : l.seat.table_id ≡ l.fn.seat.table_id;
  frees : Frees l.fn.seat.me.0 (freeing_from l.batch l.member) l.seat.me;
}
