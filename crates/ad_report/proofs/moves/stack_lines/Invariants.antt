use Rattle.std.proofs.Common.{◌≡◌, ◌++◌, take}
use Rattle.std.specs.List.{flat_map}
use Rattle.ad_report.specs.Report.{stack_line}
use Rattle.ad_report.proofs.moves.stack_lines.Given as goal

-- the moves so far are printed
abbrev pub invariant-loop-moved : goal.invariant-loop-moved
invariant-loop-moved l = l.text.items ≡ l.fn.text.items ++ flat_map (stack_line) (take l.moved-index l.moved-items)
