use Rattle.std.proofs.Common.{◌∙◌, ap, sym, Ok}
use Rattle.ad_isa.specs.Finish.{Returns}
use Rattle.ad_symbolic.specs.Private.Made.{memory_in}
use Rattle.ad_symbolic.specs.Private.Reached.{fetched_as}
use Rattle.ad_symbolic.proofs.Runs.{at-gate, elsewhere, spent-found, spent-number, spent-unclear}
use Rattle.ad_symbolic.proofs.machine.Machine.stop.Goals as goal

pub returns-then-is_gate : goal.returns-then-is_gate
returns-then-is_gate c =
    let m = memory_in c.args.self.now in
    at-gate c.args.hart.now.registers c.args.hart.now.pc m _ (sym c.is_gate.ensures ∙ c.if-is_gate.true)
    ∙ ap (λ v. Ok (record { finish = Returns v; memory = m })) (sym c.first_argument.ensures)

pub returns-in-Num : goal.returns-in-Num
returns-in-Num c =
    let h = c.args.hart.now in
    let m = memory_in c.args.self.now in
    elsewhere h.registers h.pc m _ (sym c.is_gate.ensures ∙ c.if-is_gate.false) ∙ spent-number c.args.made h.registers h.pc m c.in-Num.field-0 c.in-Num.is

pub returns-in-Ok : goal.returns-in-Ok
returns-in-Ok c =
    let h = c.args.hart.now in
    let m = memory_in c.args.self.now in
    elsewhere h.registers h.pc m _ (sym c.is_gate.ensures ∙ c.if-is_gate.false)
    ∙ spent-found c.args.made h.registers h.pc m c.in-At.field-0 c.in-At.field-1 c.in-Ok.field-0 c.in-At.is (c.fetch.ensures.found ∙ ap fetched_as c.in-Ok.is)

pub returns-in-Err : goal.returns-in-Err
returns-in-Err c =
    let h = c.args.hart.now in
    let m = memory_in c.args.self.now in
    elsewhere h.registers h.pc m _ (sym c.is_gate.ensures ∙ c.if-is_gate.false)
    ∙ spent-unclear c.args.made h.registers h.pc m c.in-At.field-0 c.in-At.field-1 c.in-Err.field-0 c.in-At.is (c.fetch.ensures.found ∙ ap fetched_as c.in-Err.is)
