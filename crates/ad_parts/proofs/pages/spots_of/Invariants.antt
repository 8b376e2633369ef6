use Rattle.std.proofs.Common.{◌≡◌, [], ◌++◌, drop, take}
use Rattle.ad_parts.specs.Ends.{AreEnds, AreShort}
use Rattle.ad_parts.specs.Layout.{spots_behind}
use Rattle.ad_parts.proofs.pages.spots_of.Given as goal

abbrev pub invariant-loop-k : goal.invariant-loop-k
invariant-loop-k l = record {
  ends : AreEnds (take l.k l.sections) l.ends;
  short : AreShort (take l.k l.sections) l.ends;
  rest : l.spots.items ++ spots_behind l.sizes (take l.k l.sections) (drop l.k l.sections) ≡ spots_behind l.sizes [] l.sections;
}
