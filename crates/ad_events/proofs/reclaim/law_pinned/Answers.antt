use Rattle.ad_events.specs.ReclaimLaws.{NotGoneInside, Pinned}
use Rattle.ad_events.proofs.ReclaimLaws.{not_gone_inside, pinned as pinned_here}
use Rattle.ad_events.proofs.ReclaimRuns.{after_every_run}
use Rattle.ad_events.proofs.reclaim.law_pinned.Goals as goal

pub returns-clause-pinned : goal.returns-clause-pinned
returns-clause-pinned c = after_every_run Pinned pinned_here

pub returns-clause-not_gone : goal.returns-clause-not_gone
returns-clause-not_gone c = after_every_run NotGoneInside not_gone_inside
