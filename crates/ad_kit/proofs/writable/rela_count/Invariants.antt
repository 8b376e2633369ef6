use Rattle.std.proofs.Common.{◌≡◌, ◌-◌, ◌^◌, length, min, sum_by, take}
use Rattle.ad_kit.specs.declared.object.KitSection.{KitSection}
use Rattle.ad_kit.proofs.writable.rela_count.Given as goal

abbrev pub invariant-loop-k : goal.invariant-loop-k
invariant-loop-k l = l.total ≡ min (sum_by (λ (x : KitSection). length x.relas) (take l.k l.sections)) (2 ^ 64 - 1)
