use Rattle.std.proofs.Common.{◌≡◌, [], ◌++◌, map}
use Rattle.ad_stacks.specs.declared.view.Doing.TheVariants.{Mover}
use Rattle.ad_stacks.specs.Private.Handles.{plan_of, gathered_plan}
use Rattle.ad_stacks.specs.Private.Rows.{hand_of}
use Rattle.ad_stacks.proofs.close.gather.Given as goal

abbrev pub invariant-loop-one : goal.invariant-loop-one
invariant-loop-one l = record {
  at : l.mover.table_id ≡ l.fn.mover.table_id;
  order : l.fn.seats.items ≡ l.yielded ++ l.one-iterator.rest.items;
  view : l.mover.me ≡ (Mover (gathered_plan (plan_of l.fn.mover.me.0) (map hand_of l.yielded)), []);
}
