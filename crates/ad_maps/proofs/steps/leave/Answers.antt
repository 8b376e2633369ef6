use Rattle.std.proofs.Common.{◌<◌, arith}
use Rattle.ad_maps.proofs.Allowed.{allows_leave, stands}
use Rattle.ad_maps.proofs.steps.leave.Goals as goal

pub fetch_sub-requires : goal.fetch_sub-requires
fetch_sub-requires c =
    let few : c.args.slot < 16 = c.requires.pinned.few in
    (c.requires.at.same, stands c.args.slot c.requires.at (omega arith), allows_leave _ _ _ _ _ c.args.slot c.args.place.now c.requires.pinned)
