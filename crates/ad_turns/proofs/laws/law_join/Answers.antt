use Rattle.ad_turns.proofs.SeatLaws.{join_law}
use Rattle.ad_turns.proofs.laws.law_join.Goals as goal

pub returns : goal.returns
returns c = join_law
