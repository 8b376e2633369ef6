use Rattle.std.proofs.Common.{◌≡◌}
use Rattle.ad_maps.proofs.tests.second_frames.Given as goal

abbrev pub invariant-loop-module : goal.invariant-loop-module
invariant-loop-module l = l.mover.table ≡ l.fn.mover.table
