use Rattle.std.proofs.Common.{◌≡◌, ap, ◌∙◌, sym, arith}
use Rattle.ad_isa.specs.Numbers.{numbers}
use Rattle.ad_isa.specs.Services.{served}
use Rattle.ad_core.proofs.service.make_service.Goals as goal

pub returns-in-0 : goal.returns-in-0
unfolding served
returns-in-0 c = c.note.ensures c.args.device.now ∙ ap (λ n. served numbers n c.args.a0 (record { notes = c.args.notes.now; queue = c.args.device.now })) (sym c.in-0.is)

pub returns-in-1 : goal.returns-in-1
unfolding served
returns-in-1 c = ap (λ n. served numbers n c.args.a0 (record { notes = c.args.notes.now; queue = c.args.device.now })) (sym c.in-1.is)

pub returns-in-2 : goal.returns-in-2
unfolding served
returns-in-2 c = c.send.ensures c.args.notes.now ∙ ap (λ n. served numbers n c.args.a0 (record { notes = c.args.notes.now; queue = c.args.device.now })) (sym c.in-2.is)

pub returns-in_default : goal.returns-in_default
unfolding served
returns-in_default c =
    let last : c.args.number ≡ 3 = grind (arith, c.in_default, c.requires) in
    c.take.ensures c.args.notes.now ∙ ap (λ n. served numbers n c.args.a0 (record { notes = c.args.notes.now; queue = c.args.device.now })) (sym last)
