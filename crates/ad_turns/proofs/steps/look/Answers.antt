use Rattle.std.proofs.Common.{◌+◌, ◌<◌, arith}
use Rattle.ad_turns.proofs.Allowed.{allows_look, inside}
use Rattle.ad_turns.proofs.steps.look.Goals as goal

pub load-serving-requires : goal.load-serving-requires
load-serving-requires g c =
    let few : c.args.module < 8 = c.requires.of_module in
    (c.requires.at.same, inside (9 + c.args.module) c.requires.at (omega arith), allows_look _ _ _ _ _ _ _ c.args.module c.args.ticket c.requires.openings c.requires.waits)
