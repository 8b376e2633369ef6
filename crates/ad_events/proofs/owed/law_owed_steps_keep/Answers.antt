use Rattle.ad_events.proofs.OwedRuns.{Holds-opening, Holds-step}
use Rattle.ad_events.proofs.owed.law_owed_steps_keep.Goals as goal

pub returns-clause-opening : goal.returns-clause-opening
returns-clause-opening c = Holds-opening

pub returns-clause-step : goal.returns-clause-step
returns-clause-step c = Holds-step
