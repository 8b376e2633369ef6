use Rattle.ad_events.specs.WorldLaws.{EnteredIsApart}
use Rattle.ad_events.proofs.WorldLaws.{after_all_events}
use Rattle.ad_events.proofs.laws.law_entered_is_apart.Goals as goal

pub returns : goal.returns
returns c = record { apart = after_all_events EnteredIsApart (λ w is. is.fits.apart) }
