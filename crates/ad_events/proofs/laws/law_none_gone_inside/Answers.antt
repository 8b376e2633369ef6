use Rattle.ad_events.specs.WorldLaws.{InsideIsHeld, NoneGoneInside}
use Rattle.ad_events.proofs.WorldLaws.{after_all_events, none_gone_inside as none_here}
use Rattle.ad_events.proofs.laws.law_none_gone_inside.Goals as goal

pub returns-clause-held : goal.returns-clause-held
returns-clause-held c = after_all_events InsideIsHeld (λ w is. is.fits.held)

pub returns-clause-none : goal.returns-clause-none
returns-clause-none c = after_all_events NoneGoneInside none_here
