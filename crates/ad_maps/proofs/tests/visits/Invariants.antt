use Rattle.std.proofs.Common.{◌≡◌}
use Rattle.ad_maps.proofs.tests.visits.Given as goal

abbrev pub invariant-loop-round : goal.invariant-loop-round
invariant-loop-round g l = record {
  table : l.seat.table ≡ l.initial.seat.table;
  worker : l.seat.worker ≡ l.initial.seat.worker;
}
