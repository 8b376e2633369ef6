use Rattle.ad_stacks.proofs.StepLaws.{split_law}
use Rattle.ad_stacks.proofs.laws.law_split.Goals as goal

pub returns : goal.returns
returns c = split_law
