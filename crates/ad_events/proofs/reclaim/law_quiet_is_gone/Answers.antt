use Rattle.ad_events.proofs.ReclaimLaws.{quiet_is_gone}
use Rattle.ad_events.proofs.reclaim.law_quiet_is_gone.Goals as goal

pub returns : goal.returns
returns c = record { gone = quiet_is_gone }
