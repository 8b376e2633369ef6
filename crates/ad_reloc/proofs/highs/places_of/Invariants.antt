use Rattle.ad_reloc.specs.Private.HighPlaces.{ArePlaces}
use Rattle.ad_reloc.proofs.highs.places_of.Given as goal

abbrev pub invariant-loop-k : goal.invariant-loop-k
invariant-loop-k l = ArePlaces l.k l.relas l.places
