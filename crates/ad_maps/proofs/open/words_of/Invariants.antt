use Rattle.ad_maps.specs.Private.Laid.{Laid}
use Rattle.ad_maps.proofs.open.words_of.Given as goal

abbrev pub invariant-loop-module : goal.invariant-loop-module
invariant-loop-module l = Laid l.shape l.module l.words.items
