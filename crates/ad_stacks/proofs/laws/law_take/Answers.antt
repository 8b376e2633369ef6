use Rattle.ad_stacks.proofs.StepLaws.{take_law}
use Rattle.ad_stacks.proofs.laws.law_take.Goals as goal

pub returns : goal.returns
returns c = take_law
