use Rattle.std.proofs.Common.{◌≡◌, length}
use Rattle.ad_turns.proofs.tests.turn_at_each.Given as goal

abbrev pub invariant-loop-module : goal.invariant-loop-module
invariant-loop-module g l = record {
  table : l.seat.table ≡ l.initial.seat.table;
  worker : l.seat.worker ≡ l.worker;
  wide : length l.seat.left ≡ l.modules;
}
