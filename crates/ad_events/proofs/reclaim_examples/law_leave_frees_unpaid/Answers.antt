use Rattle.std.proofs.Common.{[], ◌∷◌, ◌++◌, refl}
use Rattle.ad_events.specs.Reclaim.{Worker, Enter, Read, Leave, Unmap}
use Rattle.ad_events.specs.ReclaimExamples.{retired_inside, freed_unpaid}
use Rattle.ad_events.proofs.WorkedRuns.{status-shown, shown, gone-unzeroed, gone-inside}
use Rattle.ad_events.proofs.reclaim_examples.law_leave_frees_unpaid.Goals as goal

pub returns-clause-unpaid : goal.returns-clause-unpaid
returns-clause-unpaid c =
    let s = shown 1 2 (1 ∷ []) (Enter 1 0 ∷ Read 1 0 1 ∷ retired_inside ++ Leave 0 ∷ Unmap 1 (Worker 0) ∷ []) in
    gone-unzeroed freed_unpaid 1 1 (status-shown _ _ s 1) refl refl

pub returns-clause-broken : goal.returns-clause-broken
returns-clause-broken c =
    let s = shown 1 2 (1 ∷ []) (Enter 1 0 ∷ Read 1 0 1 ∷ retired_inside ++ Leave 0 ∷ Unmap 1 (Worker 0) ∷ []) in
    gone-inside freed_unpaid 1 1 (s.inside 1) (status-shown _ _ s 1)
