use Rattle.std.proofs.Common.{◌≡◌, ◌-◌}
use Rattle.ad_symbolic.specs.Machine.{symbolic_run}
use Rattle.ad_symbolic.specs.Private.Made.{memory_in, state_of, Stays}
use Rattle.ad_symbolic.proofs.machine.Machine.run.Given as goal

-- what is left to run, from here on, is the whole run
abbrev pub invariant-loop-made : goal.invariant-loop-made
invariant-loop-made l =
    (symbolic_run (l.fuel - l.made) l.made (state_of l.hart) (memory_in l.self) ≡ symbolic_run l.fuel 0 (state_of l.fn.hart) (memory_in l.fn.self)) × Stays l.fn.self l.self
