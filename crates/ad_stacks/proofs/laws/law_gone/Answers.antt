use Rattle.ad_stacks.proofs.StepLaws.{gone_law}
use Rattle.ad_stacks.proofs.laws.law_gone.Goals as goal

pub returns : goal.returns
returns c = gone_law
