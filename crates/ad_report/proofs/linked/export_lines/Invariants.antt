use Rattle.std.proofs.Common.{◌≡◌, ◌++◌, take}
use Rattle.std.specs.List.{flat_map}
use Rattle.ad_report.specs.Listing.{export_line}
use Rattle.ad_report.proofs.linked.export_lines.Given as goal

-- the exports so far are printed
abbrev pub invariant-loop-export : goal.invariant-loop-export
invariant-loop-export l = l.text.items ≡ l.fn.text.items ++ flat_map export_line (take l.export-index l.exports)
