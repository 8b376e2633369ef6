use Rattle.std.proofs.Common.{◌≡◌, ◌++◌}
use Rattle.ad_maps.specs.Private.Handles.{plan_of}
use Rattle.ad_maps.specs.Private.Numbered.{HasBack}
use Rattle.ad_maps.proofs.close.gather.Given as goal

abbrev pub invariant-loop-one : goal.invariant-loop-one
invariant-loop-one l = record {
  at : l.mover.table_id ≡ l.fn.mover.table_id;
  order : l.fn.seats.items ≡ l.yielded ++ l.one-iterator.rest.items;
  back : HasBack (plan_of l.fn.mover.me.0) l.yielded l.mover.me;
}
