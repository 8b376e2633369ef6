use Rattle.ad_script.proofs.Kept.{in_range}
use Rattle.ad_script.proofs.laws.law_in_range.Goals as goal

pub returns : goal.returns
returns c = in_range
