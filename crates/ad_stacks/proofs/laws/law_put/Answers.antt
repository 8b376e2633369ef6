use Rattle.ad_stacks.proofs.StepLaws.{put_law}
use Rattle.ad_stacks.proofs.laws.law_put.Goals as goal

pub returns : goal.returns
returns c = put_law
