use Rattle.ad_events.specs.OwedLaws.{TakesToZero, ZeroStays}
use Rattle.ad_events.proofs.OwedLaws.{after_every_run}
use Rattle.ad_events.proofs.Zeros.{one_zero, no_zero, takes_to_zero, zero_stays}
use Rattle.ad_events.proofs.owed.law_zero_comes_once.Goals as goal

pub returns-clause-one : goal.returns-clause-one
returns-clause-one c = one_zero

pub returns-clause-none : goal.returns-clause-none
returns-clause-none c = no_zero

pub returns-clause-stays : goal.returns-clause-stays
returns-clause-stays c = after_every_run ZeroStays zero_stays

pub returns-clause-step : goal.returns-clause-step
returns-clause-step c = after_every_run TakesToZero takes_to_zero
