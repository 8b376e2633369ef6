use Rattle.std.proofs.Common.{refl}
use Rattle.ad_events.specs.Owed.{owed_opening}
use Rattle.ad_events.specs.OwedExamples.{one_owes_steps}
use Rattle.ad_events.proofs.OwedTests.{MayRun-tested}
use Rattle.ad_events.proofs.owed.law_entry_number_is_not_owed.Goals as goal

pub returns-clause-possible : goal.returns-clause-possible
returns-clause-possible c = MayRun-tested (owed_opening 1 2) one_owes_steps refl
