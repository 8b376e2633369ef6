use Rattle.std.proofs.Common.{◌+◌, ◌<◌, arith}
use Rattle.ad_maps.proofs.Allowed.{allows_switch, stands}
use Rattle.ad_maps.proofs.steps.switch.Goals as goal

pub swap-requires : goal.swap-requires
swap-requires g c =
    let low : c.args.made.of_module < 8 = c.requires.in_range in
    (c.requires.at.same, stands (16 + c.args.made.of_module) c.requires.at (omega arith), allows_switch _ _ _ _ _ c.args.made _ _ _ c.requires.noted.0 c.requires.noted.1 (c.pack-word.ensures.value c.requires.place) c.requires.mover c.requires.fresh c.requires.above)
