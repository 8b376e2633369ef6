use Rattle.ad_events.specs.OwedLaws.{InsideIsCounted}
use Rattle.ad_events.proofs.OwedLaws.{after_every_run, inside_is_counted as counted_here}
use Rattle.ad_events.proofs.owed.law_inside_is_counted.Goals as goal

pub returns : goal.returns
returns c = record { counted = after_every_run InsideIsCounted counted_here }
