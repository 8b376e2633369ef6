use Rattle.std.proofs.Common.{◌≡◌, ◌%◌, ◌^◌, take}
use Rattle.ad_report.specs.Summary.{returned_sum}
use Rattle.ad_report.proofs.totals.returned_by.Given as goal

-- what the calls so far returned is summed
abbrev pub invariant-loop-entry : goal.invariant-loop-entry
invariant-loop-entry l = l.sum ≡ returned_sum (take l.entry-index l.history) % 2 ^ 64
