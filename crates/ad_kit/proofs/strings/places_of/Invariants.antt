use Rattle.std.proofs.Common.{◌≡◌, List, ℕ, map, take}
use Rattle.ad_kit.specs.ObjectFile.{place}
use Rattle.ad_kit.specs.Private.Written.{AreFound}
use Rattle.ad_kit.proofs.strings.places_of.Given as goal

abbrev pub invariant-loop-k : goal.invariant-loop-k
invariant-loop-k l = (ns : List (List ℕ)) → AreFound ns l.found → l.places.items ≡ map (place ns) (take l.k l.names)
