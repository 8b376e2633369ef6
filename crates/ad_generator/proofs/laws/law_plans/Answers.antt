use Rattle.ad_generator.proofs.Linked.{each_planned}
use Rattle.ad_generator.proofs.laws.law_plans.Goals as goal

pub returns : goal.returns
returns c = each_planned
