use Rattle.ad_events.proofs.WorldReads.{opening-has}
use Rattle.ad_events.proofs.laws.law_opening_has_the_given.Goals as goal

pub returns : goal.returns
returns c = record { given = opening-has }
