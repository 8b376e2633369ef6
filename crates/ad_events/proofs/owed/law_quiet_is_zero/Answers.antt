use Rattle.ad_events.specs.OwedLaws.{QuietIsZero}
use Rattle.ad_events.proofs.OwedLaws.{after_every_run, quiet_is_zero as zero_here}
use Rattle.ad_events.proofs.owed.law_quiet_is_zero.Goals as goal

pub returns : goal.returns
returns c = record { zero = after_every_run QuietIsZero zero_here }
