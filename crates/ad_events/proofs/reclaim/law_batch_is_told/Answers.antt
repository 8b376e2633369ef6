use Rattle.ad_events.specs.ReclaimLaws.{AboveUntilOpen, BatchIsTold, BatchStays}
use Rattle.ad_events.proofs.ReclaimLaws.{above_until_open, batch_is_told, batch_stays}
use Rattle.ad_events.proofs.ReclaimRuns.{after_every_run}
use Rattle.ad_events.proofs.reclaim.law_batch_is_told.Goals as goal

pub returns-clause-told : goal.returns-clause-told
returns-clause-told c = after_every_run BatchIsTold batch_is_told

pub returns-clause-above : goal.returns-clause-above
returns-clause-above c = after_every_run AboveUntilOpen above_until_open

pub returns-clause-stays : goal.returns-clause-stays
returns-clause-stays c = after_every_run BatchStays batch_stays
