use Rattle.std.proofs.Common.{◌^◌, ◌-◌, ap, ◌∙◌, sym, Ok, Result}
use Rattle.ad_isa.specs.Domain.{◌>>=◌}
use Rattle.ad_isa.specs.Rows.{with_register}
use Rattle.ad_isa.specs.Services.{served}
use Rattle.ad_isa.specs.Step.{return_from_service, to_target}
use Rattle.ad_symbolic.specs.AddressSpace.{part_bytes}
use Rattle.ad_symbolic.specs.Machine.{after_service, channels_of, symbolic_storage, values_in}
use Rattle.ad_symbolic.specs.Private.Code.{sizes}
use Rattle.ad_symbolic.specs.Private.Made.{answer_of, memory_in, state_of}
use Rattle.ad_symbolic.specs.Value.{conjunction_of, values}
use Rattle.ad_symbolic.specs.declared.value.Reason.{Reason}
use Rattle.ad_symbolic.specs.declared.value.Value.{Value}
use Rattle.ad_symbolic.specs.declared.value.Value.TheVariants.{Num}
use Rattle.ad_symbolic.proofs.machine.Machine.serve.Goals as goal

pub returns-in_ok-target-in-Ok-clause-made : goal.returns-in_ok-target-in-Ok-clause-made
returns-in_ok-target-in-Ok-clause-made c =
    let size = c.args.self.now.memory.movable_bytes in
    let d = values (sizes size) in
    let h = c.args.hart.now in
    let m = memory_in c.args.self.now in
    let left = record m { notes = c.make_service.new.notes.items; queue = c.make_service.new.queue.items } in
    let answers =
    (λ j. (answer_of (sym c.in-Ok.is j), record { notes = c.make_service.new.notes.items; queue = c.make_service.new.queue.items }))
    ∙ c.make_service.ensures (part_bytes m.space.image)
    ∙ ap (λ given. served (values_in m) c.args.number given (channels_of m)) c.get-given.ensures in
    ap (λ x. return_from_service d symbolic_storage (state_of h) (after_service m x).1 (after_service m x).0) (sym answers)
    ∙ ap (λ (t : Result Value Reason). t >>= λ target. Ok (to_target d symbolic_storage (with_register d h.registers 10 c.in-Ok.a0) left target)) (ap (λ v. conjunction_of v (Num (2 ^ 64 - 2))) (sym c.get.ensures) ∙ sym c.even.ensures ∙ c.in_ok-target-in-Ok.was)
    ∙ ap (λ h. Ok (to_target d symbolic_storage h.registers left c.in_ok-target-in-Ok.target)) (sym c.set.ensures)
    ∙ c.go.ensures size left
