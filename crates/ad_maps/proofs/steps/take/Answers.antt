use Rattle.std.proofs.Common.{◌≡◌, ℕ, ◌+◌, ◌<◌, arith, ap}
use Rattle.ad_maps.proofs.Allowed.{allows_take, stands}
use Rattle.ad_maps.proofs.steps.take.Goals as goal

pub store-requires : goal.store-requires
store-requires g c =
    let few : c.args.made.place.frame < 128 = c.requires.frame in
    let is : c.from-frame.result ≡ c.args.made.place.frame = c.from-frame.ensures in
    (c.requires.at.same, stands (65560 + c.from-frame.result) c.requires.at (omega arith), allows_take _ _ _ _ c.args.made _ _ _ c.requires.noted c.from.ensures (ap (λ (k : ℕ). 65560 + k) is) c.requires.mover c.requires.idle c.requires.may)
