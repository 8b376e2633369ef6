use Rattle.ad_turns.proofs.StepLaws.{miss_law}
use Rattle.ad_turns.proofs.laws.law_miss.Goals as goal

pub returns : goal.returns
returns c = miss_law
