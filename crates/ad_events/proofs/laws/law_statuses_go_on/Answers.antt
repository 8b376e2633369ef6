use Rattle.ad_events.specs.WorldLaws.{EachGoesOn, NeverBack}
use Rattle.ad_events.proofs.WorldLaws.{after_all_events, each_goes_on, never_back}
use Rattle.ad_events.proofs.laws.law_statuses_go_on.Goals as goal

pub returns-clause-each : goal.returns-clause-each
returns-clause-each c = after_all_events EachGoesOn each_goes_on

pub returns-clause-never_back : goal.returns-clause-never_back
returns-clause-never_back c = after_all_events NeverBack never_back
