use Rattle.std.proofs.Common.{ℕ, ◌<◌, ◌^◌}
use Rattle.ad_turns.specs.Turns.{draws_of}
use Rattle.ad_turns.proofs.open.do_fit.Given as goal

abbrev pub invariant-loop-module : goal.invariant-loop-module
invariant-loop-module l = (m : ℕ) → m < l.module → draws_of l.calls m < 2 ^ 64
