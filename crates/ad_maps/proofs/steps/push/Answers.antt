use Rattle.std.proofs.Common.{◌<◌, arith}
use Rattle.ad_maps.proofs.Allowed.{allows_push, stands}
use Rattle.ad_maps.proofs.steps.push.Goals as goal

pub fetch_add-requires : goal.fetch_add-requires
fetch_add-requires c =
    let few : c.args.slot < 16 = c.requires.slot in
    (c.requires.at.same, stands c.args.slot c.requires.at (omega arith), allows_push _ _ _ _ c.args.slot c.requires.mover c.requires.settled)
