use Rattle.ad_stacks.proofs.ReadingLaws.{lanes_law, hands_law}
use Rattle.ad_stacks.proofs.laws.law_lanes.Goals as goal

pub returns-clause-lanes : goal.returns-clause-lanes
returns-clause-lanes c = lanes_law

pub returns-clause-hands : goal.returns-clause-hands
returns-clause-hands c = hands_law
