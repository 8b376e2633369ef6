use Rattle.std.proofs.Common.{◌≡◌}
use Rattle.ad_events.proofs.OpeningWorld.{mappings_of}
use Rattle.ad_events.proofs.world.World.new.Given as goal

abbrev pub invariant-loop-module : goal.invariant-loop-module
invariant-loop-module l = l.mappings ≡ mappings_of l.current l.module
