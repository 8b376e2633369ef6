use Rattle.std.proofs.Common.{◌≡◌, ap, ◌∙◌, sym, arith}
use Rattle.ad_isa.specs.Services.{served}
use Rattle.ad_symbolic.specs.Value.{values}
use Rattle.ad_symbolic.proofs.service.make_service.Goals as goal

pub returns-in-0 : goal.returns-in-0
unfolding served
returns-in-0 c size =
    c.note.ensures size c.args.queue.now.items ∙ ap (λ n. served (values size) n c.args.a0 (record { notes = c.args.notes.now.items; queue = c.args.queue.now.items })) (sym c.in-0.is)

pub returns-in-1 : goal.returns-in-1
unfolding served
returns-in-1 c size = ap (λ n. served (values size) n c.args.a0 (record { notes = c.args.notes.now.items; queue = c.args.queue.now.items })) (sym c.in-1.is)

pub returns-in-2 : goal.returns-in-2
unfolding served
returns-in-2 c size =
    c.send.ensures size c.args.notes.now.items ∙ ap (λ n. served (values size) n c.args.a0 (record { notes = c.args.notes.now.items; queue = c.args.queue.now.items })) (sym c.in-2.is)

pub returns-in_default : goal.returns-in_default
unfolding served
returns-in_default c size =
    let last : c.args.number ≡ 3 = grind (arith, c.in_default, c.requires) in
    c.take.ensures size c.args.notes.now.items ∙ ap (λ n. served (values size) n c.args.a0 (record { notes = c.args.notes.now.items; queue = c.args.queue.now.items })) (sym last)
