use Rattle.std.proofs.Common.{[], ◌∷◌, refl, ap, inr}
use Rattle.std.specs.Option.{is_some}
use Rattle.ad_events.specs.declared.event.Event.TheVariants as event
use Rattle.ad_events.specs.Owed.{seat_at}
use Rattle.ad_events.specs.Reclaim.{Mover, Map, Switch, Retire, Open, Push, Settle, Unmap}
use Rattle.ad_events.specs.ReclaimExamples.{read_uncounted, unmapped_uncounted}
use Rattle.ad_events.proofs.OwedWrites.{inside-away}
use Rattle.ad_events.proofs.Pictures.{Shows, opening_picture, picture_run, shows-opening, shows-effect, shows-run}
use Rattle.ad_events.proofs.WorkedRuns.{status-shown, gone-inside}
use Rattle.ad_events.proofs.reclaim_examples.law_read_before_counted.Goals as goal

first : Shows read_uncounted.world (picture_run (opening_picture (1 ∷ [])) (event.Enter 0 ∷ event.Read 0 0 1 ∷ []))
first = shows-effect _ _ (shows-effect _ _ (shows-opening 1 (1 ∷ [])) (event.Enter 0)) (event.Read 0 0 1)

pub returns-clause-uncounted : goal.returns-clause-uncounted
returns-clause-uncounted c law =
    let is = (law 0).0 (inr (ap is_some (first.inside 0))) in
    inside-away (seat_at read_uncounted.owed 0) is.0 is.1 is.2 refl

pub returns-clause-broken : goal.returns-clause-broken
returns-clause-broken c =
    let s = shows-run read_uncounted (picture_run (opening_picture (1 ∷ [])) (event.Enter 0 ∷ event.Read 0 0 1 ∷ [])) first (Map 0 2 ∷ Switch 0 2 ∷ Retire 1 ∷ Open ∷ Push 0 ∷ Settle 0 ∷ Unmap 1 Mover ∷ []) in
    gone-inside unmapped_uncounted 0 1 (s.inside 0) (status-shown _ _ s 1)
