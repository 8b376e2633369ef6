use Rattle.std.proofs.Common.{append_assoc}
use Rattle.ad_report.specs.Summary.{summary_line}
use Rattle.ad_report.proofs.totals.summary_line.Goals as goal

-- each part is appended to those before it
pub returns : goal.returns
unfolding summary_line
returns c = rw (c.in_ok-print-2.ensures, c.in_ok-print.ensures) (simp append_assoc)
