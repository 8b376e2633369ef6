use Rattle.ad_turns.proofs.StepLaws.{look_law}
use Rattle.ad_turns.proofs.laws.law_look.Goals as goal

pub returns : goal.returns
returns c = look_law
