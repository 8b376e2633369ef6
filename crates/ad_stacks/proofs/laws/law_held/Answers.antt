use Rattle.ad_stacks.proofs.ReadingLaws.{held_law}
use Rattle.ad_stacks.proofs.laws.law_held.Goals as goal

pub returns : goal.returns
returns c = held_law
