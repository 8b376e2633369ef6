use Rattle.ad_events.specs.OwedLaws.{CountsAreOwed}
use Rattle.ad_events.proofs.OwedLaws.{after_every_run}
use Rattle.ad_events.proofs.owed.law_counts_are_owed.Goals as goal

pub returns : goal.returns
returns c = record { counted = after_every_run CountsAreOwed (λ w h. h.counted) }
