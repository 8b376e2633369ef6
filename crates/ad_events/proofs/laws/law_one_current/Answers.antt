use Rattle.ad_events.specs.WorldLaws.{OneCurrent}
use Rattle.ad_events.proofs.WorldLaws.{after_all_events, one_current as one_current_here}
use Rattle.ad_events.proofs.laws.law_one_current.Goals as goal

pub returns : goal.returns
returns c = record { current = after_all_events OneCurrent one_current_here }
