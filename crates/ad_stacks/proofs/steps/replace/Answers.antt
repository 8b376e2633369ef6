use Rattle.std.proofs.Common.{◌<◌, arith}
use Rattle.ad_stacks.proofs.Allowed.{allows_refresh, stands}
use Rattle.ad_stacks.proofs.steps.replace.Goals as goal

pub swap-requires : goal.swap-requires
swap-requires c =
    let few : c.args.given.lane < 64 = c.requires.lane in
    (c.requires.at.same, stands c.args.given.lane c.requires.at (omega arith), allows_refresh _ _ _ _ _ c.args.given _ (c.pack-word.ensures.value c.requires.place.place) c.requires.mover c.requires.recorded)
