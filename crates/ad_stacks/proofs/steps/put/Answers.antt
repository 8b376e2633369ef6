use Rattle.std.proofs.Common.{◌<◌, arith}
use Rattle.ad_stacks.proofs.Allowed.{allows_put, stands}
use Rattle.ad_stacks.proofs.steps.put.Goals as goal

pub compare_exchange-requires : goal.compare_exchange-requires
compare_exchange-requires c =
    let few : c.args.worker < 64 = c.requires.holds.few in
    (c.requires.at.same, stands c.args.worker c.requires.at (omega arith), allows_put _ _ _ _ _ _ _ (c.pack-word.ensures.value c.requires.place.place) c.requires.holds)
