use Rattle.std.proofs.Common.{◌≡◌, ◌+◌, subst, arith}
use Rattle.ad_maps.specs.Private.Trials.{MayMove}
use Rattle.ad_maps.proofs.tests.moves.Goals as goal

pub loop-more-preserved : goal.loop-more-preserved
loop-more-preserved c = subst (MayMove c.args.maps.now c.retired.new.mover c.retired.new.outs.items) (let e : 1 + c.args.modules + c.loop-more.more + 1 ≡ 1 + c.args.modules + (c.loop-more.more + 1) = omega arith in e) c.retired.ensures
