use Rattle.std.proofs.Common.{◌≡◌, ◌++◌, take}
use Rattle.ad_kit.specs.ObjectFile.{relas_bytes, to_relas}
use Rattle.std.specs.List.{All}
use Rattle.ad_kit.specs.ReadBack.{IsRelaFit}
use Rattle.ad_kit.specs.declared.object.KitSection.{KitSection}
use Rattle.ad_kit.specs.Private.Written.{AreRelasBegun}
use Rattle.ad_kit.proofs.body.put_relas.Given as goal

abbrev pub invariant-loop-k : goal.invariant-loop-k
invariant-loop-k l = record {
  bytes : l.body.items ≡ to_relas l.sections ++ relas_bytes (take l.k l.sections);
  places : AreRelasBegun l.sections l.k l.places.items;
  fit : All (λ (s : KitSection). All IsRelaFit s.relas) (take l.k l.sections);
}
