use Rattle.std.proofs.Common.{append_assoc}
use Rattle.ad_report.specs.Mapping.{map_line}
use Rattle.ad_report.proofs.mappings.map_line.Goals as goal

-- each part is appended to those before it
pub returns : goal.returns
unfolding map_line
returns c =
    rw (c.in_ok-print-2.ensures, c.in_ok-who_text.ensures, c.in_ok-extend_from_slice-2.ensures.items, c.in_ok-extend_from_slice.ensures.items, c.kind_text.ensures, c.in_ok-print.ensures)
    (simp append_assoc)
