use Rattle.std.proofs.Common.{◌≡◌, length}
use Rattle.ad_script.specs.Private.Seen.{texts}
use Rattle.ad_script.specs.Script.{has_repeats}
use Rattle.ad_script.proofs.said.has_repeats.Given as goal

abbrev pub invariant-loop-rest : goal.invariant-loop-rest
invariant-loop-rest l = has_repeats (texts l.rest) ≡ has_repeats (texts l.fn.names)

abbrev pub decreases-loop-rest : goal.decreases-loop-rest
decreases-loop-rest l = length l.rest
