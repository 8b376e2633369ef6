use Rattle.ad_events.proofs.WorldLaws.{gone_once as once_here, not_gone_never}
use Rattle.ad_events.proofs.laws.law_gone_once.Goals as goal

pub returns-clause-once : goal.returns-clause-once
returns-clause-once c = once_here

pub returns-clause-never : goal.returns-clause-never
returns-clause-never c = not_gone_never
