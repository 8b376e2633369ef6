use Rattle.ad_events.specs.OwedLaws.{SlotsTell}
use Rattle.ad_events.proofs.OwedLaws.{after_every_run, slots_tell as told_here}
use Rattle.ad_events.proofs.owed.law_slots_tell.Goals as goal

pub returns : goal.returns
returns c = record { told = after_every_run SlotsTell told_here }
