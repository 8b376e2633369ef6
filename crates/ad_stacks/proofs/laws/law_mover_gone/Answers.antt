use Rattle.ad_stacks.proofs.StepLaws.{mover_gone_law}
use Rattle.ad_stacks.proofs.laws.law_mover_gone.Goals as goal

pub returns : goal.returns
returns c = mover_gone_law
