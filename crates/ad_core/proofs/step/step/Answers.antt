use Rattle.std.proofs.Common.{ap, ◌∙◌, sym, subst, refl, Ok, Err, Some}
use Rattle.ad_base.specs.declared.end.End.TheVariants as ends
use Rattle.ad_base.specs.declared.layout.TheConstants.{INSTRUCTION_BYTES}
use Rattle.ad_isa.specs.Numbers.{numbers}
use Rattle.ad_isa.specs.Step.{Service, Word, execute, perform}
use Rattle.ad_core.specs.Plain.{certain, found_or_end, plain_storage}
use Rattle.ad_core.specs.Private.Code.{IsMade, came_to, state_of}
use Rattle.ad_core.proofs.Made.{gate-there, made-fetched, made-still, service-few}
use Rattle.ad_core.proofs.step.step.Goals as goal

pub serve-requires : goal.serve-requires
serve-requires g c = service-few (g.B.Bus.memory c.args.bus.now).segments c.args.hart.now.pc c.in-Service.number (sym c.fetch.ensures.found ∙ c.in-Service.is)

pub unreachable-requires : goal.unreachable-requires
unreachable-requires g c = c.requires.running (gate-there (g.B.Bus.memory c.args.bus.now).segments c.args.hart.now.pc (sym c.fetch.ensures.found ∙ c.in-Gate.is))

pub returns-in-Some-clause-made : goal.returns-in-Some-clause-made
returns-in-Some-clause-made g c =
    let b = g.B.Bus in
    let bus = c.args.bus.now in
    let seen = c.fetch.new.self in
    let h = c.args.hart.now in
    made-fetched b.rule (b.memory bus) (b.memory seen) (b.memory c.execute.new.bus) (b.track bus) (b.track seen) (b.track c.execute.new.bus) h c.execute.result c.execute.new.hart
    (Ok (Word c.in-Word.word)) (ap found_or_end (sym c.fetch.ensures.found ∙ c.in-Word.is)) c.fetch.ensures.memory c.fetch.ensures.track
    (subst (λ i. IsMade b.rule (λ m. execute numbers plain_storage (state_of h) m INSTRUCTION_BYTES i) (b.memory seen) (b.track seen) c.execute.result c.execute.new.hart (b.memory c.execute.new.bus) (b.track c.execute.new.bus))
    (sym c.in-Some.is ∙ c.decode.ensures.value) c.execute.ensures.made)

pub returns-in-None-clause-made : goal.returns-in-None-clause-made
returns-in-None-clause-made g c =
    let b = g.B.Bus in
    let bus = c.args.bus.now in
    let seen = c.fetch.new.self in
    let h = c.args.hart.now in
    made-fetched b.rule (b.memory bus) (b.memory seen) (b.memory seen) (b.track bus) (b.track seen) (b.track seen) h (Some ends.Illegal) h
    (Ok (Word c.in-Word.word)) (ap found_or_end (sym c.fetch.ensures.found ∙ c.in-Word.is)) c.fetch.ensures.memory c.fetch.ensures.track
    (made-still b.rule (b.memory seen) (b.track seen) (λ m. perform numbers plain_storage (state_of h) m (Ok (Word c.in-Word.word))) (Some ends.Illegal) h
    (λ m. ap (λ i. came_to (certain (execute numbers plain_storage (state_of h) m INSTRUCTION_BYTES i))) (sym c.decode.ensures.value ∙ c.in-None.is)))

pub returns-in-Service-clause-made : goal.returns-in-Service-clause-made
returns-in-Service-clause-made g c =
    let b = g.B.Bus in
    let bus = c.args.bus.now in
    let seen = c.fetch.new.self in
    let h = c.args.hart.now in
    made-fetched b.rule (b.memory bus) (b.memory seen) (b.memory c.serve.new.bus) (b.track bus) (b.track seen) (b.track c.serve.new.bus) h c.serve.result c.serve.new.hart
    (Ok (Service c.in-Service.number)) (ap found_or_end (sym c.fetch.ensures.found ∙ c.in-Service.is)) c.fetch.ensures.memory c.fetch.ensures.track
    (c.serve.ensures.made)

pub returns-in-Fault-clause-made : goal.returns-in-Fault-clause-made
returns-in-Fault-clause-made g c =
    let b = g.B.Bus in
    let bus = c.args.bus.now in
    let seen = c.fetch.new.self in
    let h = c.args.hart.now in
    made-fetched b.rule (b.memory bus) (b.memory seen) (b.memory seen) (b.track bus) (b.track seen) (b.track seen) h (Some ends.Fault) h
    (Err ends.Fault) (ap found_or_end (sym c.fetch.ensures.found ∙ c.in-Fault.is)) c.fetch.ensures.memory c.fetch.ensures.track
    (made-still b.rule (b.memory seen) (b.track seen) (λ m. perform numbers plain_storage (state_of h) m (Err ends.Fault)) (Some ends.Fault) h (λ m. refl))

pub returns-in-Denied-clause-made : goal.returns-in-Denied-clause-made
returns-in-Denied-clause-made g c =
    let b = g.B.Bus in
    let bus = c.args.bus.now in
    let seen = c.fetch.new.self in
    let h = c.args.hart.now in
    made-fetched b.rule (b.memory bus) (b.memory seen) (b.memory seen) (b.track bus) (b.track seen) (b.track seen) h (Some ends.Denied) h
    (Err ends.Denied) (ap found_or_end (sym c.fetch.ensures.found ∙ c.in-Denied.is)) c.fetch.ensures.memory c.fetch.ensures.track
    (made-still b.rule (b.memory seen) (b.track seen) (λ m. perform numbers plain_storage (state_of h) m (Err ends.Denied)) (Some ends.Denied) h (λ m. refl))
