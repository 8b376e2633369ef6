use Rattle.ad_events.specs.OwedLaws.{ZeroIsDone}
use Rattle.ad_events.proofs.OwedLaws.{after_every_run, zero_is_done as zero_is_done_here}
use Rattle.ad_events.proofs.owed.law_zero_is_done.Goals as goal

pub returns : goal.returns
returns c = record { done = after_every_run ZeroIsDone zero_is_done_here }
