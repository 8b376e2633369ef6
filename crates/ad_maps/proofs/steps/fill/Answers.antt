use Rattle.std.proofs.Common.{◌≡◌, ℕ, ◌+◌, ◌*◌, ◌<◌, arith, ap}
use Rattle.ad_maps.proofs.Allowed.{allows_fill, stands}
use Rattle.ad_maps.proofs.steps.fill.Goals as goal

pub store-requires : goal.store-requires
store-requires c =
    let few : c.args.made.place.frame < 128 = c.requires.frame in
    let low : c.args.entry < 512 = c.requires.in_range in
    let is : c.from.result ≡ c.args.made.place.frame = c.from.ensures in
    (c.requires.at.same, stands (65688 + (512 * c.from.result + c.args.entry)) c.requires.at (omega arith), allows_fill _ _ _ _ c.args.made c.args.entry c.args.word _ (ap (λ (k : ℕ). 65688 + (512 * k + c.args.entry)) is) c.requires.word c.requires.mover c.requires.taken c.requires.within)
