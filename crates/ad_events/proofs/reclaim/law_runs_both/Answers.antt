use Rattle.ad_events.specs.ReclaimLaws.{LawfulInBoth}
use Rattle.ad_events.proofs.ReclaimRuns.{after_every_run, each-runs_both, lawful-in_both}
use Rattle.ad_events.proofs.reclaim.law_runs_both.Goals as goal

pub returns-clause-lawful : goal.returns-clause-lawful
returns-clause-lawful c = after_every_run LawfulInBoth lawful-in_both

pub returns-clause-runs : goal.returns-clause-runs
returns-clause-runs c = each-runs_both
