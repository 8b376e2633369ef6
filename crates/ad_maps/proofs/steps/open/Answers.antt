use Rattle.std.proofs.Common.{ℕ, ◌<◌, ◌+◌, ◌*◌, arith, ap}
use Rattle.ad_maps.proofs.Allowed.{allows_open, stands}
use Rattle.ad_maps.proofs.steps.open.Goals as goal

pub store-requires : goal.store-requires
store-requires c =
    let few : c.args.batch < 4096 = c.requires.few in
    (c.requires.at.same, stands (131224 + c.args.batch) c.requires.at (omega arith), allows_open c.args.table.now.shared.key _ _ _ _ c.args.members _ _ (ap (λ (n : ℕ). n * 4294967296) c.requires.slots) (ap (λ (b : ℕ). 131224 + b) c.requires.batch) c.requires.mover c.requires.listed)
