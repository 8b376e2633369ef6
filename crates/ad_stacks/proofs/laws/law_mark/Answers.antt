use Rattle.ad_stacks.proofs.StepLaws.{mark_law}
use Rattle.ad_stacks.proofs.laws.law_mark.Goals as goal

pub returns : goal.returns
returns c = mark_law
