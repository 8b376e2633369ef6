use Rattle.ad_stacks.proofs.ReadingLaws.{quiet_law}
use Rattle.ad_stacks.proofs.laws.law_quiet.Goals as goal

pub returns : goal.returns
returns c = quiet_law
