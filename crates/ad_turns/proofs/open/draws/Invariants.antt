use Rattle.std.proofs.Common.{◌≡◌, take}
use Rattle.ad_turns.specs.Turns.{draws_of}
use Rattle.ad_turns.proofs.open.draws.Given as goal

abbrev pub invariant-loop-left : goal.invariant-loop-left
invariant-loop-left l = l.sum ≡ draws_of (take l.left-index l.calls) l.module
