use Rattle.std.proofs.Common.{ℕ, ◌<◌, ◌+◌, arith, ap, refl}
use Rattle.ad_maps.proofs.Allowed.{allows_settle, stands}
use Rattle.ad_maps.proofs.steps.settle.Goals as goal

pub fetch_sub-requires : goal.fetch_sub-requires
fetch_sub-requires c =
    let few : c.args.batch < 4096 = c.requires.few in
    (c.requires.at.same, stands (131224 + c.args.batch) c.requires.at (omega arith), allows_settle _ _ _ _ c.args.slot c.args.inside _ _ refl (ap (λ (b : ℕ). 131224 + b) c.requires.batch) c.requires.mover c.requires.pushed c.requires.free)
