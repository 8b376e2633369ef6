use Rattle.ad_turns.proofs.TurnLaws.{pass_law}
use Rattle.ad_turns.proofs.laws.law_pass.Goals as goal

pub returns : goal.returns
returns c = pass_law
