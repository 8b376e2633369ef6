use Rattle.std.proofs.Common.{◌≡◌, ◌+◌, subst, arith}
use Rattle.ad_maps.specs.Private.Trials.{MayMove}
use Rattle.ad_maps.proofs.tests.retired_alone.Goals as goal

pub loop-more-preserved : goal.loop-more-preserved
loop-more-preserved c = subst (MayMove c.args.maps.now c.retired.new.mover c.retired.new.outs.items) (let e : 5 + c.loop-more.more ≡ 4 + (c.loop-more.more + 1) = omega arith in e) c.retired.ensures

pub retired-requires-clause-may : goal.retired-requires-clause-may
retired-requires-clause-may c = subst (MayMove c.args.maps.now c.moved.new.mover c.moved.new.outs.items) (let e : 4 + c.loop-more.more + 1 ≡ 5 + c.loop-more.more = omega arith in e) c.in_ok-busy.ensures
