use Rattle.std.proofs.Common.{◌≡◌, ◌++◌, flat_map, take}
use Rattle.std.specs.List.{All}
use Rattle.ad_kit.specs.ObjectFile.{rela}
use Rattle.ad_kit.specs.ReadBack.{IsRelaFit}
use Rattle.ad_kit.proofs.body.put_relas_of.Given as goal

abbrev pub invariant-loop-k : goal.invariant-loop-k
invariant-loop-k l = record {
  bytes : l.body.items ≡ l.fn.body.items ++ flat_map rela (take l.k l.relas);
  fit : All IsRelaFit (take l.k l.relas);
}
