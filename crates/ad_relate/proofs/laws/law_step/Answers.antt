use Rattle.ad_relate.proofs.Steps.{step-leaves, step-stands}
use Rattle.ad_relate.proofs.laws.law_step.Goals as goal

pub returns : goal.returns
returns c = record { stands = step-stands; ready = step-leaves }
