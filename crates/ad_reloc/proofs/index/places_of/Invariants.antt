use Rattle.ad_reloc.specs.Private.Indexed.{IsIndexed}
use Rattle.ad_reloc.proofs.index.places_of.Given as goal

abbrev pub invariant-loop-k : goal.invariant-loop-k
invariant-loop-k l = IsIndexed l.k l.symbols l.places
