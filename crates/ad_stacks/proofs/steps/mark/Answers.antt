use Rattle.std.proofs.Common.{◌+◌, ◌<◌, arith, refl}
use Rattle.ad_stacks.proofs.Allowed.{allows_mark, stands}
use Rattle.ad_stacks.proofs.steps.mark.Goals as goal

pub store-requires : goal.store-requires
store-requires c =
    let few : c.args.number < 4096 = c.requires.number in
    (c.requires.at.same, stands (4160 + c.args.number) c.requires.at (omega arith), allows_mark _ _ _ _ c.args.number c.args.line _ _ refl c.requires.mover c.requires.replaced)
