use Rattle.ad_turns.proofs.StepLaws.{draw_law}
use Rattle.ad_turns.proofs.laws.law_draw.Goals as goal

pub returns : goal.returns
returns c = draw_law
