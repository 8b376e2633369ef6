use Rattle.std.proofs.Common.{◌+◌, arith}
use Rattle.ad_maps.proofs.Allowed.{allows_read, stands}
use Rattle.ad_maps.proofs.steps.read.Goals as goal

pub load-requires : goal.load-requires
load-requires g c =
    let few = c.requires.modules in
    let low = c.requires.in_range in
    (c.requires.at.same, stands (16 + c.args.module) c.requires.at (omega arith), allows_read _ _ _ _ _ c.args.slot c.args.module _ _ c.requires.noted.0 c.requires.noted.1 c.requires.entered c.requires.in_range)
