use Rattle.std.proofs.Common.{ap, ◌∙◌, ◌-◌, ◌^◌, bit_and, subst, sym}
use Rattle.ad_core.specs.Bus.{answer_of}
use Rattle.ad_core.specs.Memory.{channels_of}
use Rattle.ad_core.proofs.Made.{IsAt, made-answer}
use Rattle.ad_core.proofs.step.serve.Goals as goal

pub returns-in-Answer-clause-made : goal.returns-in-Answer-clause-made
returns-in-Answer-clause-made g c =
    let bus = c.args.bus.now in
    let left = c.service.new.self in
    made-answer g.B.Bus.rule (g.B.Bus.memory bus) (g.B.Bus.memory left) (g.B.Bus.track bus) (g.B.Bus.track left) c.args.hart.now c.args.number c.get.result c.in-Answer.a0 c.set.new.self.registers c.go.result c.go.new.self
    c.get.ensures ((λ j. (answer_of (sym c.in-Answer.is j), channels_of (g.B.Bus.memory left))) ∙ c.service.ensures.answer) c.service.ensures.segments c.service.ensures.track
    (ap (λ h. h.registers) c.set.ensures) (subst (λ v. IsAt c.set.new.self.registers (bit_and v (2 ^ 64 - 2)) c.go.result c.go.new.self) c.get-in-Answer.ensures c.go.ensures.next)
