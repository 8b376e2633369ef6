use Rattle.std.proofs.Common.{◌≡◌, ℕ, List, [], ◌∷◌, refl, ap₂}
use Rattle.std.specs.Option.{option_map}
use Rattle.ad_events.specs.World.{status_of}
use Rattle.ad_events.specs.Reclaim.{reclaim_run}
use Rattle.ad_events.specs.ReclaimLaws.{events_of}
use Rattle.ad_events.specs.ReclaimExamples.{opening_of_three, schedule}
use Rattle.ad_events.proofs.Pictures.{opening_picture, picture_run}
use Rattle.ad_events.proofs.WorkedRuns.{status-shown, shown, possible}
use Rattle.ad_events.proofs.reclaim_examples.law_schedule_of_three.Goals as goal

-- equal heads and tails make equal lists
listed : {A : Type 0} {x y : A} {xs ys : List A} → x ≡ y → xs ≡ ys → x ∷ xs ≡ y ∷ ys
listed e f = ap₂ (λ x xs. x ∷ xs) e f

pub returns-clause-possible : goal.returns-clause-possible
returns-clause-possible c = possible 2 3 (1 ∷ 2 ∷ []) schedule refl

pub returns-clause-statuses : goal.returns-clause-statuses
returns-clause-statuses c =
    let s = shown 2 3 (1 ∷ 2 ∷ []) schedule in
    let w = (reclaim_run opening_of_three schedule).world in
    let at : (p : ℕ) → status_of w p ≡ option_map (λ x. x.status) ((picture_run (opening_picture (1 ∷ 2 ∷ [])) (events_of schedule)).mapping p) = λ p. status-shown w (picture_run (opening_picture (1 ∷ 2 ∷ [])) (events_of schedule)) s p in
    listed (at 1) (listed (at 2) (listed (at 3) (listed (at 4) (listed (at 5) (listed (at 6) refl)))))
