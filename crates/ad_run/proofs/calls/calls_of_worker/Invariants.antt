use Rattle.std.proofs.Common.{◌≡◌, take}
use Rattle.ad_run.specs.Calls.{calls_of_worker}
use Rattle.ad_run.proofs.calls.calls_of_worker.Given as goal

-- the calls of the steps so far
abbrev pub invariant-loop-step : goal.invariant-loop-step
invariant-loop-step l = l.calls.items ≡ calls_of_worker l.worker (take l.step-index l.steps)
