use Rattle.std.proofs.Common.{◌≡◌, ◌++◌, map}
use Rattle.ad_turns.specs.Private.Handles.{back_of, turns_in, turns_shown, IsGatherer}
use Rattle.ad_turns.proofs.close.gather.Given as goal

abbrev pub invariant-loop-one : goal.invariant-loop-one
invariant-loop-one l = record {
  at : l.gatherer.table_id ≡ l.fn.gatherer.table_id;
  order : l.fn.seats.items ≡ l.yielded ++ l.one-iterator.rest.items;
  gatherer : IsGatherer l.gatherer.me;
  turns : map turns_in (back_of l.gatherer.me.0) ≡ map turns_shown l.yielded;
}
