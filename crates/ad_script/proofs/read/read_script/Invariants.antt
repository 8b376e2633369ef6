use Rattle.std.proofs.Common.{◌≡◌, ◌≤◌, ◌+◌, length}
use Rattle.ad_script.specs.declared.script.TheConstants.{SCRIPT_LINES}
use Rattle.ad_script.specs.Lines.{lines_of}
use Rattle.ad_script.specs.Private.Seen.{said_seen}
use Rattle.ad_script.specs.Script.{after_lines, nothing_said}
use Rattle.ad_script.proofs.read.read_script.Given as goal

-- what was said goes on with the lines that are left
abbrev pub invariant-loop-rest : goal.invariant-loop-rest
invariant-loop-rest l =
    (after_lines (said_seen l.reading) l.number (lines_of l.rest) ≡ after_lines nothing_said 1 (lines_of l.fn.bytes)) × (l.number ≤ SCRIPT_LINES + 1)

abbrev pub decreases-loop-rest : goal.decreases-loop-rest
decreases-loop-rest l = length l.rest
