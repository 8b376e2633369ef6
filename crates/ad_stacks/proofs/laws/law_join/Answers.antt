use Rattle.ad_stacks.proofs.StepLaws.{join_law}
use Rattle.ad_stacks.proofs.laws.law_join.Goals as goal

pub returns : goal.returns
returns c = join_law
