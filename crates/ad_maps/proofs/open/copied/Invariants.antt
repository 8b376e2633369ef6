use Rattle.std.proofs.Common.{◌≡◌, take}
use Rattle.ad_maps.proofs.open.copied.Given as goal

abbrev pub invariant-loop-module : goal.invariant-loop-module
invariant-loop-module l = l.copy.items ≡ take l.module l.modules
