use Rattle.std.proofs.Common.{◌≡◌, ℕ, ◌+◌, ◌<◌, arith, ap}
use Rattle.ad_maps.proofs.Allowed.{allows_map, stands}
use Rattle.ad_maps.proofs.steps.map.Goals as goal

pub store-requires : goal.store-requires
store-requires c =
    let low : c.args.made.place.region < 65536 = c.requires.place.region_to in
    let is : c.from-region.result ≡ c.args.made.place.region = c.from-region.ensures in
    (c.requires.at.same, stands (24 + c.from-region.result) c.requires.at (omega arith), allows_map _ _ _ _ c.args.made _ _ (ap (λ (k : ℕ). 24 + k) is) (c.pack-word.ensures.value c.requires.place) c.requires.mover c.requires.filled)
