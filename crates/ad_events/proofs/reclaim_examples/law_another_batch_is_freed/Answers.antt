use Rattle.std.proofs.Common.{List, [], ◌∷◌, refl}
use Rattle.ad_events.specs.Reclaim.{Step, Mover, Enter, Read, Map, Switch, Retire, Open, Push, Settle, Unmap}
use Rattle.ad_events.specs.ReclaimExamples.{freed_another}
use Rattle.ad_events.proofs.WorkedRuns.{status-shown, shown, gone-unzeroed, gone-inside}
use Rattle.ad_events.proofs.reclaim_examples.law_another_batch_is_freed.Goals as goal

abbrev steps : List Step
steps = Map 0 2 ∷ Switch 0 2 ∷ Retire 1 ∷ Open ∷ Push 0 ∷ Settle 0 ∷ Enter 0 0 ∷ Read 0 0 2 ∷ Map 0 3 ∷ Switch 0 3 ∷ Retire 2 ∷ Open ∷ Push 0 ∷ Settle 0 ∷ Unmap 2 Mover ∷ []

pub returns-clause-unpaid : goal.returns-clause-unpaid
returns-clause-unpaid c = gone-unzeroed freed_another 2 2 (status-shown _ _ (shown 1 1 (1 ∷ []) steps) 2) refl refl

pub returns-clause-broken : goal.returns-clause-broken
returns-clause-broken c =
    let s = shown 1 1 (1 ∷ []) steps in
    gone-inside freed_another 0 2 (s.inside 0) (status-shown _ _ s 2)
