use Rattle.std.proofs.Common.{◌≡◌, ◌+◌}
use Rattle.ad_stacks.specs.History.{IsAbove}
use Rattle.ad_stacks.proofs.tests.renew_from.Given as goal

abbrev pub invariant-loop-more : goal.invariant-loop-more
invariant-loop-more l = record {
  table : l.mover.table ≡ l.initial.mover.table;
  lanes : l.mover.lanes ≡ l.initial.mover.lanes;
  above : IsAbove l.stacks.openings l.mover.refreshes (l.first + l.more);
}
