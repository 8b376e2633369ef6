use Rattle.std.proofs.Common.{◌<◌, arith}
use Rattle.ad_stacks.proofs.Allowed.{allows_take, stands}
use Rattle.ad_stacks.proofs.steps.take.Goals as goal

pub swap-requires : goal.swap-requires
swap-requires c =
    let few : c.args.worker < 64 = c.requires.rest.few in
    (c.requires.at.same, stands c.args.worker c.requires.at (omega arith), allows_take _ _ _ _ _ _ c.requires.rest)
