use Rattle.std.proofs.Common.{◌≡◌, ℕ, ◌<◌, ◌+◌, arith, ap}
use Rattle.ad_maps.proofs.Allowed.{allows_give, stands}
use Rattle.ad_maps.proofs.steps.give.Goals as goal

pub store-requires : goal.store-requires
store-requires c =
    let few : c.args.place.now.frame < 128 = c.requires.frame in
    let is : c.from-frame.result ≡ c.args.place.now.frame = c.from-frame.ensures in
    (c.requires.at.same, stands (65560 + c.from-frame.result) c.requires.at (omega arith), allows_give _ _ _ _ c.args.place.now _ (ap (λ (k : ℕ). 65560 + k) is) c.requires.gives c.requires.slots)
