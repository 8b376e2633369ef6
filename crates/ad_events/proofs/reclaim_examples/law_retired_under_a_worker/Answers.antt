use Rattle.std.proofs.Common.{◌≡◌, ℕ, [], ◌∷◌, ◌++◌, Some, None, refl, sym, ap, ◌∙◌, inl, inr, arith, rules}
use Rattle.ad_events.specs.declared.mapping.Status.TheVariants.{Gone}
use Rattle.ad_events.specs.World.{status_of}
use Rattle.ad_events.specs.Reclaim.{reclaim_run}
use Rattle.ad_events.specs.ReclaimExamples.{opening_of_one, retired_inside, then_left}
use Rattle.ad_events.proofs.OwedTests.{idle}
use Rattle.ad_events.proofs.Functions.{some≢none, changed-told}
use Rattle.ad_events.proofs.WorkedRuns.{status-shown, shown, possible}
use Rattle.ad_events.proofs.reclaim_examples.law_retired_under_a_worker.Goals as goal

pub returns-clause-possible : goal.returns-clause-possible
returns-clause-possible c = possible 1 1 (1 ∷ []) (retired_inside ++ then_left) refl

pub returns-clause-retired : goal.returns-clause-retired
returns-clause-retired c = status-shown _ _ (shown 1 1 (1 ∷ []) retired_inside) 1

gone : status_of (reclaim_run opening_of_one (retired_inside ++ then_left)).world 1 ≡ Some Gone
gone = status-shown _ _ (shown 1 1 (1 ∷ []) (retired_inside ++ then_left)) 1

pub returns-clause-gone : goal.returns-clause-gone
returns-clause-gone c = gone

pub returns-clause-current : goal.returns-clause-current
returns-clause-current c = status-shown _ _ (shown 1 1 (1 ∷ []) (retired_inside ++ then_left)) 2

pub returns-clause-quiet : goal.returns-clause-quiet
returns-clause-quiet c =
    let j = reclaim_run opening_of_one (retired_inside ++ then_left) in
    let one : (p b : ℕ) → j.batch p ≡ Some b → (p ≡ 1) × (1 ≡ b) =
    λ p b is. elim (changed-told (λ _. None) 1 1 p b is) [ inl told ↦ told | inr none ↦ absurd (some≢none b (sym none)) ] in
    record {
      away = λ i. search rules;
      nothing_left = λ a p b listed freed. ap (status_of j.world) (one p b listed).0 ∙ gone;
      idle = idle j.owed refl;
      none_above = λ p b listed. (let same = (one p b listed).1 in omega arith);
    }
