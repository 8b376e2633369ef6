use Rattle.ad_turns.proofs.DrawLaws.{draws_law}
use Rattle.ad_turns.proofs.laws.law_draws.Goals as goal

pub returns : goal.returns
returns c = draws_law
