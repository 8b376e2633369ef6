use Rattle.std.proofs.Common.{◌<◌, arith, ◌∙◌}
use Rattle.ad_maps.proofs.Allowed.{allows_split, stands}
use Rattle.ad_maps.proofs.open.deal.Goals as goal

pub split_seat-seat-requires : goal.split_seat-seat-requires
split_seat-seat-requires c =
    let i = c.loop-worker.invariant in
    let before : c.loop-worker.worker < c.args.workers = c.loop-worker-test.true in
    let workers = c.requires.workers in
    (i.at ∙ c.requires.at.same, stands 0 c.requires.at (omega arith), allows_split _ _ _ c.loop-worker.worker i.view (omega arith))
