use Rattle.std.proofs.Common.{◌≡◌, ◌+◌}
use Rattle.ad_stacks.specs.History.{IsAbove}
use Rattle.ad_stacks.proofs.tests.all_renewed.Given as goal

abbrev pub invariant-loop-more : goal.invariant-loop-more
invariant-loop-more l = record {
  table : l.mover.table ≡ l.initial.mover.table;
  lanes : l.mover.lanes ≡ l.lanes;
  above : IsAbove l.stacks.openings l.mover.refreshes (l.lanes + 1 + l.more);
}
