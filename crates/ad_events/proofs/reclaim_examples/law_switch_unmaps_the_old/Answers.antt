use Rattle.std.proofs.Common.{[], ◌∷◌}
use Rattle.ad_events.specs.Reclaim.{Mover, Enter, Read, Map, Switch, Unmap}
use Rattle.ad_events.specs.ReclaimExamples.{unmapped_at_switch}
use Rattle.ad_events.proofs.WorkedRuns.{status-shown, shown, gone-inside}
use Rattle.ad_events.proofs.reclaim_examples.law_switch_unmaps_the_old.Goals as goal

pub returns : goal.returns
returns c =
    let s = shown 1 1 (1 ∷ []) (Enter 0 0 ∷ Read 0 0 1 ∷ Map 0 2 ∷ Switch 0 2 ∷ Unmap 1 Mover ∷ []) in
    record { broken = gone-inside unmapped_at_switch 0 1 (s.inside 0) (status-shown _ _ s 1) }
