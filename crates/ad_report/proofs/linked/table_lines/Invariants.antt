use Rattle.std.proofs.Common.{◌≡◌, ◌++◌, drop}
use Rattle.std.specs.List.{enumerate_from, flat_map}
use Rattle.ad_report.specs.Listing.{table_line}
use Rattle.ad_report.proofs.linked.table_lines.Given as goal

-- the words so far are printed
abbrev pub invariant-loop-entry : goal.invariant-loop-entry
invariant-loop-entry l = l.text.items ++ flat_map table_line (enumerate_from l.entry (drop l.entry l.words)) ≡ l.fn.text.items ++ flat_map table_line (enumerate_from 0 l.words)
