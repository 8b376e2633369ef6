use Rattle.std.proofs.Common.{◌+◌}
use Rattle.ad_maps.specs.Private.Trials.{MayMove}
use Rattle.ad_maps.proofs.tests.each_moved.Given as goal

abbrev pub invariant-loop-module : goal.invariant-loop-module
invariant-loop-module l = MayMove l.maps l.mover l.outs.items (1 + l.modules + l.module)
