use Rattle.std.proofs.Common.{◌≡◌, ◌%◌, ◌-◌, ◌++◌, IfNone, subst, arith}
use Rattle.ad_base.specs.declared.layout.TheConstants.{FETCH_BYTES}
use Rattle.ad_core.specs.Plain.{plain_run, untouched}
use Rattle.ad_core.specs.Private.Code.{state_of}
use Rattle.ad_core.proofs.Runs.{comes_ended, comes_spent, run_goes, runs_to_gate, track_on}
use Rattle.ad_core.proofs.run.run.Goals as goal

pub returns-then-hart-eq-GATE : goal.returns-then-hart-eq-GATE
returns-then-hart-eq-GATE g c =
    let i = c.loop.invariant in
    runs_to_gate g.B.Bus.rule (g.B.Bus.track c.args.bus.now) (g.B.Bus.memory c.loop.bus) i.0 (g.B.Bus.track c.loop.bus) (c.args.fuel - c.loop.counter) (state_of c.loop.hart)
    (plain_run c.args.fuel (state_of c.args.hart.now) (untouched (g.B.Bus.memory c.args.bus.now))) i.2 i.3
    c.first_argument.result c.if-hart-eq-GATE.true c.first_argument.ensures

pub returns-then-hart-eq-GATE-2 : goal.returns-then-hart-eq-GATE-2
returns-then-hart-eq-GATE-2 g c =
    let i = c.loop.invariant in
    let answer = c.first_argument-then-hart-eq-GATE-2 in
    runs_to_gate g.B.Bus.rule (g.B.Bus.track c.args.bus.now) (g.B.Bus.memory c.loop.bus) i.0 (g.B.Bus.track c.loop.bus) (c.args.fuel - c.loop.counter) (state_of c.loop.hart)
    (plain_run c.args.fuel (state_of c.args.hart.now) (untouched (g.B.Bus.memory c.args.bus.now))) i.2 i.3
    answer.result c.if-hart-eq-GATE-2.true answer.ensures

pub returns-else-hart-eq-GATE-2 : goal.returns-else-hart-eq-GATE-2
returns-else-hart-eq-GATE-2 g c =
    let i = c.loop.invariant in
    comes_spent g.B.Bus.rule (g.B.Bus.track c.args.bus.now) (g.B.Bus.memory c.loop.bus) i.0 (g.B.Bus.track c.loop.bus) (c.args.fuel - c.loop.counter) (state_of c.loop.hart)
    (plain_run c.args.fuel (state_of c.args.hart.now) (untouched (g.B.Bus.memory c.args.bus.now))) i.2 i.3
    (omega arith) c.if-hart-eq-GATE-2.false

pub returns-in-Some : goal.returns-in-Some
returns-in-Some g c =
    let i = c.loop.invariant in
    comes_ended g.B.Bus.rule (g.B.Bus.track c.args.bus.now) (g.B.Bus.memory c.loop.bus) i.0 (g.B.Bus.track c.loop.bus) c.args.fuel c.loop.counter c.loop.hart
    (plain_run c.args.fuel (state_of c.args.hart.now) (untouched (g.B.Bus.memory c.args.bus.now))) (omega arith) c.if-hart-eq-GATE.false i.2 i.3
    c.step.result c.step.new.hart (g.B.Bus.memory c.step.new.bus) (g.B.Bus.track c.step.new.bus) c.step.ensures.made
    c.in-Some.end c.in-Some.is

pub loop-preserved : goal.loop-preserved
loop-preserved g c =
    let b = g.B.Bus in
    let i = c.loop.invariant in
    let first = b.track c.args.bus.now in
    let outcome = plain_run c.args.fuel (state_of c.args.hart.now) (untouched (b.memory c.args.bus.now)) in
    let made = c.step.ensures.made in (
      i.0 ++ made.accesses,
      subst (λ r. IfNone r (c.step.new.hart.pc % FETCH_BYTES ≡ 0)) c.in_default.is c.step.ensures.aligned,
      track_on b.rule first (b.memory c.loop.bus) i.0 (b.track c.loop.bus) c.args.fuel c.loop.counter c.loop.hart outcome (omega arith) c.if-hart-eq-GATE.false i.2 i.3
          c.step.result c.step.new.hart (b.memory c.step.new.bus) (b.track c.step.new.bus) made,
      run_goes b.rule first (b.memory c.loop.bus) i.0 (b.track c.loop.bus) c.args.fuel c.loop.counter c.loop.hart outcome (omega arith) c.if-hart-eq-GATE.false i.2 i.3
          c.step.result c.step.new.hart (b.memory c.step.new.bus) (b.track c.step.new.bus) made c.in_default.is,
    )
