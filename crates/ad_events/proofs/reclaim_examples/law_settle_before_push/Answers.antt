use Rattle.std.proofs.Common.{[], ◌∷◌, refl}
use Rattle.ad_events.specs.Reclaim.{Mover, Enter, Read, Map, Switch, Retire, Open}
use Rattle.ad_events.specs.ReclaimExamples.{settled_before_push}
use Rattle.ad_events.proofs.WorkedRuns.{status-shown, shown, owed-zeroed, freed-inside}
use Rattle.ad_events.proofs.reclaim_examples.law_settle_before_push.Goals as goal

pub returns-clause-owed : goal.returns-clause-owed
returns-clause-owed c = owed-zeroed settled_before_push 0 1 Mover refl refl

pub returns-clause-unmapped : goal.returns-clause-unmapped
returns-clause-unmapped c =
    let s = shown 1 1 (1 ∷ []) (Enter 0 0 ∷ Read 0 0 1 ∷ Map 0 2 ∷ Switch 0 2 ∷ Retire 1 ∷ Open ∷ []) in
    freed-inside settled_before_push 0 1 1 Mover (s.inside 0) (status-shown _ _ s 1) refl refl
