use Rattle.std.proofs.Common.{arith}
use Rattle.std.proofs.lemmas.Grind.{common_steps}
use Rattle.ad_report.specs.Summary.{summary}
use Rattle.ad_report.proofs.totals.summary.Goals as goal

pub returns : goal.returns
unfolding summary
returns c = grind (arith, common_steps)
