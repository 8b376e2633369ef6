use Rattle.std.proofs.Common.{◌≡◌, [], ◌∷◌, Some, refl, sym, ◌∙◌, arith}
use Rattle.ad_events.specs.declared.mapping.Status.TheVariants.{Retired, Gone}
use Rattle.ad_events.specs.Mapping.{rank_of}
use Rattle.ad_events.specs.World.{status_of}
use Rattle.ad_events.specs.Reclaim.{reclaim_run}
use Rattle.ad_events.specs.ReclaimExamples.{opening_of_one, put_off}
use Rattle.ad_events.proofs.WorldLemmas.{status≢}
use Rattle.ad_events.proofs.WorkedRuns.{status-shown, shown, possible}
use Rattle.ad_events.proofs.reclaim_examples.law_zero_is_put_off.Goals as goal

pub returns-clause-possible : goal.returns-clause-possible
returns-clause-possible c = possible 1 1 (1 ∷ []) put_off refl

retired : status_of (reclaim_run opening_of_one put_off).world 1 ≡ Some Retired
retired = status-shown _ _ (shown 1 1 (1 ∷ []) put_off) 1

pub returns-clause-retired : goal.returns-clause-retired
returns-clause-retired c = retired

pub returns-clause-left : goal.returns-clause-left
returns-clause-left c law = status≢ Retired Gone rank_of (λ e. absurd (omega arith)) (sym retired ∙ law 1 1 refl refl)
