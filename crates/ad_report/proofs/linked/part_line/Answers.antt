use Rattle.std.proofs.Common.{append_assoc}
use Rattle.ad_report.specs.Listing.{part_line}
use Rattle.ad_report.proofs.linked.part_line.Goals as goal

-- each piece is appended to those before it
pub returns : goal.returns
unfolding part_line
returns c = rw (c.in_ok-print.ensures, c.in_ok-extend_from_slice.ensures.items) (simp append_assoc)
