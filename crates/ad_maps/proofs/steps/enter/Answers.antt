use Rattle.std.proofs.Common.{◌<◌, arith}
use Rattle.ad_maps.proofs.Allowed.{allows_enter, stands}
use Rattle.ad_maps.proofs.steps.enter.Goals as goal

pub fetch_add-requires : goal.fetch_add-requires
fetch_add-requires c =
    let few : c.args.slot < 16 = c.requires.away.few in
    (c.requires.at.same, stands c.args.slot c.requires.at (omega arith), allows_enter _ _ _ _ _ c.requires.away)
