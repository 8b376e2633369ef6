use Rattle.ad_turns.proofs.HeldLaws.{held_law}
use Rattle.ad_turns.proofs.laws.law_held.Goals as goal

pub returns : goal.returns
returns c = held_law
