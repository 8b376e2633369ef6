use Rattle.std.proofs.Common.{◌≡◌, take}
use Rattle.ad_turns.proofs.open.copied.Given as goal

abbrev pub invariant-loop-left : goal.invariant-loop-left
invariant-loop-left l = l.copy.items ≡ take l.left-index l.calls
