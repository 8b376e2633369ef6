use Rattle.std.proofs.Common.{◌≡◌, ◌+◌, subst, arith}
use Rattle.ad_maps.specs.Private.Trials.{MayMove}
use Rattle.ad_maps.proofs.tests.each_moved.Goals as goal

pub loop-module-preserved : goal.loop-module-preserved
loop-module-preserved c = subst (MayMove c.args.maps.now c.moved.new.mover c.moved.new.outs.items) (let e : 1 + c.args.modules + c.loop-module.module + 1 ≡ 1 + c.args.modules + (c.loop-module.module + 1) = omega arith in e) c.in_ok-busy.ensures
