use Rattle.std.proofs.Common.{◌≡◌, ◌++◌, take}
use Rattle.std.specs.List.{flat_map}
use Rattle.ad_report.specs.Mapping.{map_line}
use Rattle.ad_report.proofs.mappings.map_lines.Given as goal

-- the rows so far are printed
abbrev pub invariant-loop-row : goal.invariant-loop-row
invariant-loop-row l = l.text.items ≡ l.fn.text.items ++ flat_map (map_line l.script) (take l.row-index l.rows)
