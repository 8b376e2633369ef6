use Rattle.std.proofs.Common.{take}
use Rattle.ad_parts.specs.Ends.{AreEnds, AreShort}
use Rattle.ad_parts.proofs.ends.ends_of.Given as goal

abbrev pub invariant-loop-k : goal.invariant-loop-k
invariant-loop-k l = record {
  ends : AreEnds (take l.k l.sections) l.ends;
  short : AreShort (take l.k l.sections) l.ends;
}
