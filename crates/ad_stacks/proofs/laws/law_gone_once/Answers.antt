use Rattle.ad_stacks.proofs.ReadingLaws.{gone_once_law}
use Rattle.ad_stacks.proofs.laws.law_gone_once.Goals as goal

pub returns : goal.returns
returns c = gone_once_law
