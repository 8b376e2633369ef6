use Rattle.ad_events.proofs.ReclaimSteps.{Holds-after}
use Rattle.ad_events.proofs.ReclaimRuns.{Holds-opening}
use Rattle.ad_events.proofs.reclaim.law_steps_keep.Goals as goal

pub returns-clause-opening : goal.returns-clause-opening
returns-clause-opening c = Holds-opening

pub returns-clause-step : goal.returns-clause-step
returns-clause-step c = Holds-after
