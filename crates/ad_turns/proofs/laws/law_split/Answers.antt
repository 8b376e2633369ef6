use Rattle.ad_turns.proofs.SeatLaws.{split_law}
use Rattle.ad_turns.proofs.laws.law_split.Goals as goal

pub returns : goal.returns
returns c = split_law
