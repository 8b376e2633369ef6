use Rattle.ad_stacks.proofs.StepLaws.{refresh_law}
use Rattle.ad_stacks.proofs.laws.law_refresh.Goals as goal

pub returns : goal.returns
returns c = refresh_law
