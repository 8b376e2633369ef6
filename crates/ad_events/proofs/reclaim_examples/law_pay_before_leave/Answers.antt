use Rattle.std.proofs.Common.{[], ◌∷◌, refl}
use Rattle.ad_events.specs.Reclaim.{Worker}
use Rattle.ad_events.specs.ReclaimExamples.{retired_inside, paid_inside}
use Rattle.ad_events.proofs.WorkedRuns.{status-shown, shown, owed-zeroed, freed-inside}
use Rattle.ad_events.proofs.reclaim_examples.law_pay_before_leave.Goals as goal

pub returns-clause-owed : goal.returns-clause-owed
returns-clause-owed c = owed-zeroed paid_inside 0 1 (Worker 0) refl refl

pub returns-clause-unmapped : goal.returns-clause-unmapped
returns-clause-unmapped c =
    let s = shown 1 1 (1 ∷ []) retired_inside in
    freed-inside paid_inside 0 1 1 (Worker 0) (s.inside 0) (status-shown _ _ s 1) refl refl
