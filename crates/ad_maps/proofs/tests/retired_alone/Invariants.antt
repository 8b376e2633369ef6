use Rattle.std.proofs.Common.{◌+◌}
use Rattle.ad_maps.specs.Private.Trials.{MayMove}
use Rattle.ad_maps.proofs.tests.retired_alone.Given as goal

abbrev pub invariant-loop-more : goal.invariant-loop-more
invariant-loop-more l = MayMove l.maps l.mover l.outs.items (4 + l.more)
