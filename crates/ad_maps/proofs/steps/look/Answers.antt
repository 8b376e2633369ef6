use Rattle.std.proofs.Common.{◌+◌, ◌<◌, arith}
use Rattle.ad_maps.proofs.Allowed.{allows_look, stands}
use Rattle.ad_maps.proofs.steps.look.Goals as goal

pub load-requires : goal.load-requires
load-requires g c =
    let few : c.args.frame < 128 = c.requires.frame in
    (c.requires.at.same, stands (65560 + c.args.frame) c.requires.at (omega arith), allows_look _ _ _ _ _ c.args.frame _ _ c.requires.noted.0 c.requires.noted.1 c.requires.mover few)
