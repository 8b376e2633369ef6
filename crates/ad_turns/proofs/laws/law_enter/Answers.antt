use Rattle.ad_turns.proofs.SeatLaws.{enter_law}
use Rattle.ad_turns.proofs.laws.law_enter.Goals as goal

pub returns : goal.returns
returns c = enter_law
