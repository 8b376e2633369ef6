use Rattle.std.proofs.Common.{◌<◌, ◌^◌, take}
use Rattle.std.specs.List.{All}
use Rattle.ad_kit.specs.declared.object.KitRela.{KitRela}
use Rattle.ad_kit.proofs.writable.are_low.Given as goal

abbrev pub invariant-loop-k : goal.invariant-loop-k
invariant-loop-k l = All (λ (r : KitRela). r.symbol < 2 ^ 32) (take l.k l.relas)
