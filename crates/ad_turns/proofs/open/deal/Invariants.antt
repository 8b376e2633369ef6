use Rattle.std.proofs.Common.{◌≡◌, [], ◌++◌, length}
use Rattle.ad_turns.specs.declared.view.Doing.TheVariants.{Dealer}
use Rattle.ad_turns.specs.Seen.{AreNew}
use Rattle.ad_turns.proofs.open.deal.Given as goal

abbrev pub invariant-loop-left : goal.invariant-loop-left
invariant-loop-left l = record {
  at : l.dealer.table_id ≡ l.fn.dealer.table_id;
  order : l.fn.calls.items ≡ l.yielded ++ l.left-iterator.rest.items;
  count : l.worker ≡ length l.yielded;
  view : l.dealer.me ≡ (Dealer l.worker l.fn.calls.items, []);
  seats : AreNew l.table.shared.table_id l.yielded l.seats.items;
}
