use Rattle.std.proofs.Common.{◌≡◌, ℕ, refl, arith}
use Rattle.std.specs.List.{count_by}
use Rattle.ad_events.specs.WorldLaws.{unmaps}
use Rattle.ad_events.specs.ReclaimLaws.{events_of}
use Rattle.ad_events.specs.ReclaimExamples.{freed_twice}
use Rattle.ad_events.proofs.reclaim_examples.law_batch_is_freed_twice.Goals as goal

two_is_one : (n m : ℕ) → n ≡ 2 → m ≡ 1 → n ≡ m → ⊥
two_is_one n m e f g = absurd (omega arith)

pub returns-clause-broken : goal.returns-clause-broken
returns-clause-broken c law = two_is_one (count_by (unmaps 1) (events_of freed_twice)) 1 refl refl (law.gone 1 1 refl).1
