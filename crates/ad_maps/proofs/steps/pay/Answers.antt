use Rattle.std.proofs.Common.{◌<◌, ◌+◌, arith, refl}
use Rattle.ad_maps.proofs.Allowed.{allows_pay, stands}
use Rattle.ad_maps.proofs.steps.pay.Goals as goal

pub fetch_sub-requires : goal.fetch_sub-requires
fetch_sub-requires c =
    let few : c.args.paid + 1 < 4096 = c.requires.few in
    (c.requires.at.same, stands (131224 + (c.args.paid + 1)) c.requires.at (omega arith), allows_pay _ _ _ _ c.args.slot c.args.paid c.args.last _ refl c.requires.paying)
