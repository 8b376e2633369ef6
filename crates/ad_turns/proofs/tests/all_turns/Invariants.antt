use Rattle.std.proofs.Common.{◌≡◌, length}
use Rattle.ad_turns.proofs.tests.all_turns.Given as goal

abbrev pub invariant-loop-line : goal.invariant-loop-line
invariant-loop-line g l = record {
  table : l.seat.table ≡ l.initial.seat.table;
  worker : l.seat.worker ≡ l.worker;
  wide : length l.seat.left ≡ l.modules;
}
