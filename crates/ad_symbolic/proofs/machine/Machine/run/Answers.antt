use Rattle.std.proofs.Common.{◌≡◌, ◌∙◌, ◌+◌, ◌-◌, ap, sym, Ok, arith}
use Rattle.ad_isa.specs.Finish.{Returns}
use Rattle.ad_symbolic.specs.Machine.{continue, symbolic_run}
use Rattle.ad_symbolic.specs.Private.Made.{memory_in, next_of, state_of}
use Rattle.ad_symbolic.proofs.Runs.{run-at-gate, run-continues, run-spent}
use Rattle.ad_symbolic.proofs.machine.Machine.run.Goals as goal

pub returns-then-is_gate-clause-made : goal.returns-then-is_gate-clause-made
returns-then-is_gate-clause-made c =
    let l = c.loop-made in
    let m = memory_in l.self in
    sym l.invariant.0
    ∙ run-at-gate (c.args.fuel - l.made) l.made l.hart.registers l.hart.pc m (sym c.is_gate.ensures ∙ c.if-is_gate.true)
    ∙ ap (λ v. Ok (record { finish = Returns v; memory = m })) (sym c.first_argument.ensures)

pub returns-in-Ok-Some-clause-made : goal.returns-in-Ok-Some-clause-made
returns-in-Ok-Some-clause-made c =
    let l = c.loop-made in
    let after = memory_in c.step.new.self in
    sym l.invariant.0
    ∙ run-continues l.self l.hart c.step.new.hart after c.step.result c.args.fuel l.made (omega arith) (sym c.is_gate.ensures ∙ c.if-is_gate.false) c.step.ensures.made
    ∙ ap (λ r. continue l.made (symbolic_run (c.args.fuel - (l.made + 1)) (l.made + 1)) (next_of r c.step.new.hart after)) (c.in-Ok-Some.is ∙ ap Ok c.in-Ok-Some.field-0-is)

pub returns-in-Err-clause-made : goal.returns-in-Err-clause-made
returns-in-Err-clause-made c =
    let l = c.loop-made in
    let after = memory_in c.step.new.self in
    sym l.invariant.0
    ∙ run-continues l.self l.hart c.step.new.hart after c.step.result c.args.fuel l.made (omega arith) (sym c.is_gate.ensures ∙ c.if-is_gate.false) c.step.ensures.made
    ∙ ap (λ r. continue l.made (symbolic_run (c.args.fuel - (l.made + 1)) (l.made + 1)) (next_of r c.step.new.hart after)) c.in-Err.is

pub loop-made-preserved : goal.loop-made-preserved
loop-made-preserved c =
    let l = c.loop-made in
    let after = memory_in c.step.new.self in
    let stays = c.step.ensures.stays in (
      sym
          (run-continues l.self l.hart c.step.new.hart after c.step.result c.args.fuel l.made (omega arith) (sym c.is_gate.ensures ∙ c.if-is_gate.false) c.step.ensures.made
          ∙ ap (λ r. continue l.made (symbolic_run (c.args.fuel - (l.made + 1)) (l.made + 1)) (next_of r c.step.new.hart after)) (c.in-Ok-None.is ∙ ap Ok c.in-Ok-None.field-0-is))
          ∙ l.invariant.0,
      record { image = stays.image ∙ l.invariant.1.image; kept = λ of_image. stays.kept (l.invariant.1.kept of_image) },
    )

pub returns-clause-made : goal.returns-clause-made
returns-clause-made c =
    let l = c.loop-made in
    let m = memory_in l.self in
    let made : c.args.fuel ≡ l.made = omega arith in
    let none : c.args.fuel - l.made ≡ 0 = omega arith in
    sym l.invariant.0
    ∙ (λ j. symbolic_run (none j) (sym made j) (state_of l.hart) m)
    ∙ run-spent c.args.fuel (state_of l.hart) m ∙ c.stop.ensures
