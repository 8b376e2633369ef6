use Rattle.std.proofs.Common.{◌<◌, arith, ◌∙◌}
use Rattle.ad_stacks.proofs.Allowed.{allows_split, stands}
use Rattle.ad_stacks.proofs.open.deal.Goals as goal

pub split_seat-seat-requires : goal.split_seat-seat-requires
split_seat-seat-requires c =
    let i = c.loop-lane.invariant in
    let before : c.loop-lane.lane < c.args.lanes = c.loop-lane-test.true in
    let lanes = c.requires.lanes in
    (i.at ∙ c.requires.at.same, stands 0 c.requires.at (omega arith), allows_split _ _ _ c.loop-lane.lane i.view (omega arith))
