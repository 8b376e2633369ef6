use Rattle.std.proofs.Common.{arith}
use Rattle.std.proofs.lemmas.Grind.{common_steps}
use Rattle.ad_report.specs.Report.{report}
use Rattle.ad_report.proofs.text.report.Goals as goal

pub returns : goal.returns
unfolding report
returns c = grind (arith, common_steps)
