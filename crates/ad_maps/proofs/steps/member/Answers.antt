use Rattle.std.proofs.Common.{◌<◌, ◌+◌, ◌*◌, arith, refl}
use Rattle.ad_maps.proofs.Allowed.{allows_member, stands}
use Rattle.ad_maps.proofs.steps.member.Goals as goal

pub load-requires : goal.load-requires
load-requires c =
    let few : c.args.batch < 4096 = c.requires.few in
    let low : c.args.member < 8 = c.requires.in_range in
    (c.requires.at.same, stands (135320 + (8 * c.args.batch + c.args.member)) c.requires.at (omega arith), allows_member _ _ _ _ c.args.batch c.args.member _ refl c.requires.frees)
