use Rattle.ad_events.specs.ReclaimLaws.{InIsInside}
use Rattle.ad_events.proofs.ReclaimLaws.{in_is_inside}
use Rattle.ad_events.proofs.ReclaimRuns.{after_every_run}
use Rattle.ad_events.proofs.reclaim.law_in_is_inside.Goals as goal

pub returns : goal.returns
returns c = record { inside = after_every_run InIsInside in_is_inside }
