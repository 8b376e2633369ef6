use Rattle.std.proofs.Common.{[], ◌∷◌, ◌++◌, refl}
use Rattle.ad_events.specs.declared.event.Event.TheVariants as event
use Rattle.ad_events.specs.Reclaim.{Worker, Enter, Read}
use Rattle.ad_events.specs.ReclaimExamples.{retired_inside, paid_too_much}
use Rattle.ad_events.proofs.Pictures.{shows-effect}
use Rattle.ad_events.proofs.WorkedRuns.{status-shown, shown, owed-zeroed, freed-inside}
use Rattle.ad_events.proofs.reclaim_examples.law_entry_number_is_paid.Goals as goal

pub returns-clause-owed : goal.returns-clause-owed
returns-clause-owed c = owed-zeroed paid_too_much 0 1 (Worker 1) refl refl

pub returns-clause-unmapped : goal.returns-clause-unmapped
returns-clause-unmapped c =
    let s = shows-effect _ _ (shown 1 2 (1 ∷ []) (retired_inside ++ Enter 1 0 ∷ Read 1 0 2 ∷ [])) (event.Leave 1) in
    freed-inside paid_too_much 0 1 1 (Worker 1) (s.inside 0) (status-shown _ _ s 1) refl refl
