-- Which steps bring a batch to zero, told by the count before the step, and what is noted of it.
use Rattle.std.proofs.Common.{◌≡◌, ◌≢◌, ℕ, ◌+◌, ◌-◌, ◌<◌, Some, refl, sym, ap, ◌∙◌, subst, inl, inr, arith, unwrap_or}
use Rattle.ad_events.specs.Owed as owing
use Rattle.ad_events.specs.Owed.{seat_at, count_of, last_batch, IsOpened, takes_from, answer}
use Rattle.ad_events.specs.Reclaim.{Worker, Mover, ReclaimState, Step, Pay, Settle, owed_after, MayStep, after}
use Rattle.ad_events.specs.ReclaimInvariant.{Holds}
use Rattle.ad_events.specs.ReclaimLaws.{BringsToZero, MayIfSome}
use Rattle.ad_events.proofs.OwedReads.{pay-due}
use Rattle.ad_events.proofs.OwedWords.{pay-takes, settle-takes}
use Rattle.ad_events.proofs.OwingFacts.{taken}
use Rattle.ad_events.proofs.ReclaimSteps.{noted-here, noted-cases}
use Rattle.ad_events.proofs.ReclaimRuns.{lawful-in_both}

-- a step that brings a batch to zero takes from the count of an opened one, which wasn't zero and is
pub record Brought (j : ReclaimState) (x : Step) (b : ℕ) : Type 0 where
  pub opened : IsOpened j.owed b
  pub some : 0 < count_of j.owed b
  pub zero : count_of (after j x).owed b ≡ 0

pub brought : (j : ReclaimState) → Holds j → (x : Step) → MayStep j x → (b : ℕ) → BringsToZero j x b → Brought j x b
brought j h x may b brings =
    let y = brings.0 in
    let may_owe : owing.MayStep j.owed y = subst (MayIfSome j.owed) brings.1 (lawful-in_both j h x may).1 in
    let t = taken j.owed h.owed y may_owe brings.2 in
    record {
      opened = subst (IsOpened j.owed) brings.3 t.opened;
      some = subst (λ c. 0 < count_of j.owed c) brings.3 t.some;
      zero = ap (λ o. count_of (owed_after j.owed o) b) brings.1 ∙ ap (count_of (owing.after j.owed y)) (sym brings.3) ∙ sym t.answers ∙ brings.4;
    }

-- ---- a pay: it brings its batch to zero exactly where one was left

module _ (j : ReclaimState) (h : Holds j) (i s paid last : ℕ) (is : seat_at j.owed i ≡ owing.Paying s paid last) where
  due : takes_from j.owed (owing.Pay i) ≡ paid + 1
  due = pay-due j.owed i s paid last is

  pay-left : answer j.owed (owing.Pay i) + 1 ≡ count_of j.owed (paid + 1)
  pay-left = let left = ap (count_of (owing.after j.owed (owing.Pay i))) due in let takes = pay-takes j.owed h.owed i s paid last is in omega arith

  pub pay-brings : count_of j.owed (paid + 1) ≡ 1 → BringsToZero j (Pay i) (paid + 1)
  pay-brings one = (owing.Pay i, refl, tt, due, let left = pay-left in omega arith)

  pub pay-notes : count_of j.owed (paid + 1) ≡ 1 → (after j (Pay i)).zeroed (paid + 1) ≡ Some (Worker i)
  pay-notes one = noted-here j.zeroed (takes_from j.owed (owing.Pay i)) (Worker i) (answer j.owed (owing.Pay i)) (paid + 1) (let left = pay-left in omega arith) (sym due)

  pub pay-brings_none : count_of j.owed (paid + 1) ≢ 1 → (b : ℕ) → BringsToZero j (Pay i) b → ⊥
  pay-brings_none more b brings =
      absurd (more (none-left brings.0 brings.1 brings.4))
    where
      none-left : (y : owing.Step) → Some (owing.Pay i) ≡ Some y → answer j.owed y ≡ 0 → count_of j.owed (paid + 1) ≡ 1
      none-left y e zero =
          let same = ap (λ o. unwrap_or o (owing.Pay i)) e in
          let none = ap (answer j.owed) same ∙ zero in
          let left = pay-left in omega arith

  pub pay-notes_none : count_of j.owed (paid + 1) ≢ 1 → (b : ℕ) → (after j (Pay i)).zeroed b ≡ j.zeroed b
  pay-notes_none more b =
      elim (noted-cases j.zeroed (takes_from j.owed (owing.Pay i)) (Worker i) (answer j.owed (owing.Pay i)) b) [
        | inl new ↦ absurd (more (let left = pay-left in let none = new.0 in omega arith))
        | inr same ↦ same
      ]

-- ---- a settle: it brings the mover's batch to zero exactly where it takes all that was left

module _ (j : ReclaimState) (h : Holds j) (s found : ℕ) (may : MayStep j (Settle s)) (is : owing.passage_of j.owed (last_batch j.owed) s ≡ owing.Pushed found) where
  settle-left : answer j.owed (owing.Settle s) + (owing.slot_share - found) ≡ count_of j.owed (last_batch j.owed)
  settle-left = settle-takes j.owed h.owed s may found is

  pub settle-brings : count_of j.owed (last_batch j.owed) ≡ owing.slot_share - found → BringsToZero j (Settle s) (last_batch j.owed)
  settle-brings all = (owing.Settle s, refl, tt, refl, let left = settle-left in omega arith)

  pub settle-notes : count_of j.owed (last_batch j.owed) ≡ owing.slot_share - found → (after j (Settle s)).zeroed (last_batch j.owed) ≡ Some Mover
  settle-notes all = noted-here j.zeroed (last_batch j.owed) Mover (answer j.owed (owing.Settle s)) (last_batch j.owed) (let left = settle-left in omega arith) refl

  pub settle-brings_none : count_of j.owed (last_batch j.owed) ≢ owing.slot_share - found → (b : ℕ) → BringsToZero j (Settle s) b → ⊥
  settle-brings_none more b brings = absurd (more (none-left brings.0 brings.1 brings.4))
    where
      none-left : (y : owing.Step) → Some (owing.Settle s) ≡ Some y → answer j.owed y ≡ 0 → count_of j.owed (last_batch j.owed) ≡ owing.slot_share - found
      none-left y e zero =
          let same = ap (λ o. unwrap_or o (owing.Settle s)) e in
          let none = ap (answer j.owed) same ∙ zero in
          let left = settle-left in omega arith

  pub settle-notes_none : count_of j.owed (last_batch j.owed) ≢ owing.slot_share - found → (b : ℕ) → (after j (Settle s)).zeroed b ≡ j.zeroed b
  settle-notes_none more b =
      elim (noted-cases j.zeroed (last_batch j.owed) Mover (answer j.owed (owing.Settle s)) b) [
        | inl new ↦ absurd (more (let left = settle-left in let none = new.0 in omega arith))
        | inr same ↦ same
      ]
