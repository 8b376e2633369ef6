use Rattle.std.proofs.Common.{◌≡◌, map}
use Rattle.std.specs.List.{range_with_len}
use Rattle.ad_run.specs.Calls.{calls_at}
use Rattle.ad_run.proofs.calls.draws_for.Given as goal

-- the counts of the modules so far
abbrev pub invariant-loop-module : goal.invariant-loop-module
invariant-loop-module l = l.numbers.items ≡ map (λ m. calls_at m l.calls) (range_with_len 0 l.«module»)
