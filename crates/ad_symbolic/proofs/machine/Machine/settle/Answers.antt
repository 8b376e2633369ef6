use Rattle.std.proofs.Common.{ap, ◌∙◌, sym, Ok}
use Rattle.ad_isa.specs.Step.{settle, to_target}
use Rattle.ad_symbolic.specs.Machine.{symbolic_storage}
use Rattle.ad_symbolic.specs.Private.Code.{effect_of, sizes}
use Rattle.ad_symbolic.specs.Private.Made.{memory_in, state_of}
use Rattle.ad_symbolic.specs.Value.{values}
use Rattle.ad_symbolic.proofs.machine.Machine.settle.Goals as goal

pub returns-in-Jumps-clause-made : goal.returns-in-Jumps-clause-made
returns-in-Jumps-clause-made c =
    let d = values (sizes c.args.self.now.memory.movable_bytes) in
    let m = memory_in c.args.self.now in
    ap (λ e. settle d symbolic_storage (state_of c.args.hart.now) m c.args.next (effect_of e)) c.in-Jumps.is
    ∙ ap (λ h. Ok (to_target d symbolic_storage h.registers m c.in-Jumps.target)) (sym c.set-in-Jumps.ensures)
    ∙ c.go.ensures c.args.self.now.memory.movable_bytes m

pub returns-in-Branches-clause-made : goal.returns-in-Branches-clause-made
returns-in-Branches-clause-made c =
    let d = values (sizes c.args.self.now.memory.movable_bytes) in
    let m = memory_in c.args.self.now in
    ap (λ e. settle d symbolic_storage (state_of c.args.hart.now) m c.args.next (effect_of e)) c.in-Branches.is
    ∙ c.go-in-Branches.ensures c.args.self.now.memory.movable_bytes m
