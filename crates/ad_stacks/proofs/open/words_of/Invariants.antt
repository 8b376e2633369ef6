use Rattle.ad_stacks.specs.Names.{AreWords}
use Rattle.ad_stacks.specs.Private.Opening.{laid}
use Rattle.ad_stacks.proofs.open.words_of.Given as goal

abbrev pub invariant-loop-lane : goal.invariant-loop-lane
invariant-loop-lane l = AreWords l.words.items (laid l.places l.lane)
