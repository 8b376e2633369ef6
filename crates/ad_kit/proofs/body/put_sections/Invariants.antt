use Rattle.std.proofs.Common.{◌≡◌, take}
use Rattle.ad_kit.specs.ObjectFile.{sections_bytes}
use Rattle.ad_kit.specs.Private.Written.{AreBegun}
use Rattle.ad_kit.proofs.body.put_sections.Given as goal

abbrev pub invariant-loop-k : goal.invariant-loop-k
invariant-loop-k l = record {
  bytes : l.body.items ≡ sections_bytes (take l.k l.sections);
  places : AreBegun l.sections l.k l.places.items;
}
