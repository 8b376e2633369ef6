use Rattle.std.proofs.Common.{◌∙◌, ap}
use Rattle.ad_wrapper.proofs.Composed.{over, performed}
use Rattle.ad_wrapper.proofs.call.perform.Goals as goal

pub leave-left-requires : goal.leave-left-requires
leave-left-requires g c = over c.args.shared.now c.args.step.now c.begin-under.result c.run-under.result c.begin-under.ensures.under c.run-under.ensures

pub put_back-requires : goal.put_back-requires
put_back-requires g c = ap (λ k. k.seat.table) (c.leave-left.ensures.stack ∙ c.run-under.ensures.stack) ∙ c.begin-under.ensures.under.in_stacks

pub returns : goal.returns
returns g c =
    performed c.args.shared.now c.args.step.now c.args.hands c.begin-under.result c.run-under.result c.leave-left.result c.put_back.result
    c.begin-under.ensures.under c.begin-under.ensures.began c.run-under.ensures c.leave-left.ensures c.put_back.ensures
