use Rattle.std.proofs.Common.{refl}
use Rattle.ad_events.specs.Owed.{owed_opening}
use Rattle.ad_events.specs.OwedExamples.{schedule}
use Rattle.ad_events.proofs.OwedTests.{MayRun-tested}
use Rattle.ad_events.proofs.owed.law_schedule_of_two.Goals as goal

pub returns-clause-possible : goal.returns-clause-possible
returns-clause-possible c = MayRun-tested (owed_opening 2 2) schedule refl
