use Rattle.std.proofs.Common.{◌≡◌, ◌%◌, ◌-◌, fold, List}
use Rattle.ad_base.specs.declared.layout.TheConstants.{FETCH_BYTES}
use Rattle.ad_base.specs.Segments.{Access}
use Rattle.ad_core.specs.Plain.{plain_run, untouched}
use Rattle.ad_core.specs.Private.Code.{state_of, tracked}
use Rattle.ad_core.proofs.run.run.Given as goal

-- what is left to run, from here on, is the whole run; and the track is that of the accesses so far
abbrev pub invariant-loop : goal.invariant-loop
invariant-loop g l =
    let b = g.B.Bus in
    (accesses : List Access) × (l.hart.pc % FETCH_BYTES ≡ 0) × (b.track l.bus ≡ fold b.rule (b.track l.fn.bus) accesses)
    × (plain_run (l.fuel - l.counter) (state_of l.hart) (tracked (b.memory l.bus) accesses) ≡ plain_run l.fuel (state_of l.fn.hart) (untouched (b.memory l.fn.bus)))
