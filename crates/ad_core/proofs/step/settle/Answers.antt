use Rattle.std.proofs.Common.{ap, ◌∙◌, sym}
use Rattle.ad_core.specs.Plain.{untouched}
use Rattle.ad_core.specs.Private.Code.{effect_of, end_of_store}
use Rattle.ad_core.proofs.Made.{made-still, made-load, made-store, settled-passes, settled-writes, settled-jumps}
use Rattle.ad_core.proofs.step.settle.Goals as goal

pub returns-in-Passes-clause-made : goal.returns-in-Passes-clause-made
returns-in-Passes-clause-made g c =
    let bus = c.args.bus.now in
    made-still g.B.Bus.rule (g.B.Bus.memory bus) (g.B.Bus.track bus) _ c.go.result c.go.new.self
    (settled-passes c.args.hart.now (effect_of c.args.effect) c.args.next c.requires.aligned c.go.result c.go.new.self (ap effect_of c.in-Passes.is) c.go.ensures.next)

pub returns-in-Writes-clause-made : goal.returns-in-Writes-clause-made
returns-in-Writes-clause-made g c =
    let bus = c.args.bus.now in
    let go = c.go-in-Writes in
    made-still g.B.Bus.rule (g.B.Bus.memory bus) (g.B.Bus.track bus) _ go.result go.new.self
    (settled-writes c.args.hart.now (effect_of c.args.effect) c.args.next c.requires.aligned go.result go.new.self c.in-Writes.rd c.in-Writes.value c.set.new.self.registers
    (ap effect_of c.in-Writes.is) (ap (λ h. h.registers) c.set.ensures) go.ensures.next)

pub returns-in-Jumps-clause-made : goal.returns-in-Jumps-clause-made
returns-in-Jumps-clause-made g c =
    let bus = c.args.bus.now in
    let go = c.go-in-Jumps in
    let set = c.set-in-Jumps in
    made-still g.B.Bus.rule (g.B.Bus.memory bus) (g.B.Bus.track bus) _ go.result go.new.self
    (settled-jumps c.args.hart.now (effect_of c.args.effect) c.args.next c.requires.aligned go.result go.new.self c.in-Jumps.rd c.in-Jumps.link c.in-Jumps.target set.new.self.registers
    (ap effect_of c.in-Jumps.is) (ap (λ h. h.registers) set.ensures) go.ensures.next)

pub returns-in-Ok-clause-made : goal.returns-in-Ok-clause-made
returns-in-Ok-clause-made g c =
    let bus = c.args.bus.now in
    let left = c.load.new.bus in
    let go = c.go-in-Ok in
    let set = c.set-in-Ok in
    let loads = c.in-Loads in
    made-load c.args.hart.now (effect_of c.args.effect) c.args.next c.requires.aligned go.result go.new.self
    g.B.Bus.rule (g.B.Bus.memory bus) (g.B.Bus.memory left) (g.B.Bus.track bus) (g.B.Bus.track left)
    loads.size loads.signed loads.rd loads.address c.in-Ok.value set.new.self.registers
    (ap effect_of loads.is) (sym c.load.ensures.found ∙ c.in-Ok.is) c.load.ensures.memory c.load.ensures.track (ap (λ h. h.registers) set.ensures) go.ensures.next

pub returns-in-Ok-store-clause-made : goal.returns-in-Ok-store-clause-made
returns-in-Ok-store-clause-made g c =
    let bus = c.args.bus.now in
    let left = c.store.new.bus in
    let go = c.go-in-Ok-store in
    let stores = c.in-Stores in
    made-store c.args.hart.now (effect_of c.args.effect) c.args.next c.requires.aligned go.result go.new.self
    g.B.Bus.rule (g.B.Bus.memory bus) (g.B.Bus.memory left) (g.B.Bus.track bus) (g.B.Bus.track left)
    stores.size stores.value stores.address
    (ap effect_of stores.is) (c.store.ensures.left ∙ (λ j. (end_of_store (c.in-Ok-store.is j), untouched (g.B.Bus.memory left)))) c.store.ensures.track go.ensures.next
