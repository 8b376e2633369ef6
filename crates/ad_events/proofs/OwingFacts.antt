-- What the joined machine asks of what is owed, for any one step: who is inside, for which seats a batch waits, and when a
-- count is zero. A form of owing without numbers has to show these again, and nothing else.
use Rattle.std.proofs.Common.{get_or, ◌≡◌, ◌≢◌, ◌⊎◌, ℕ, ◌+◌, ◌<◌, [], ◌∷◌, refl, sym, ap, ◌∙◌, subst, inl, inr, arith, eq-eqb, true≢false}
use Rattle.std.proofs.lemmas.Bool.{cases_eq, cases_lt}
use Rattle.ad_events.specs.Owed.{State, Seat, Step, Open, Push, Settle, Enter, Leave, Pay, seat_at, count_of, last_batch, IsOpened, WaitsFor, is_inside, to_pay, IsInside, MayStep, takes_from, due_of, answer, after, Batch, Passage, Ahead, Settled, passage_of, is_passed}
use Rattle.ad_events.specs.OwedInvariant.{Holds}
use Rattle.ad_events.specs.OwedLaws.{Takes}
use Rattle.ad_events.proofs.OwedWrites.{inside-away, inside-paying}
use Rattle.ad_events.proofs.OwedReads.{last-after, opens, enter-seat_other, leave-seat, leave-seat_other, pay-seat, pay-seat_other, open-passage, push-passage_other, settle-passage, settle-passage_other, leave-batch, pay-passage}
use Rattle.ad_events.proofs.OpenStep.{open-count_new}
use Rattle.ad_events.proofs.SettleStep.{settle-positive}
use Rattle.ad_events.proofs.SeatSteps.{to_pay-outside}
use Rattle.ad_events.proofs.PayStep.{pay-opened, pay-within}
use Rattle.ad_events.proofs.OwedRuns.{Holds-step}
use Rattle.ad_events.proofs.Zeros.{zero_stays, takes_to_zero}
use Rattle.ad_events.proofs.OwedLaws.{waits-entry, entry-waits, waits-positive}

-- ---- who is inside

-- the step is that of seat i leaving, or entering
abbrev pub Leaves : ℕ → Step → Type 0
Leaves i Open = ⊥
Leaves i (Push s) = ⊥
Leaves i (Settle s) = ⊥
Leaves i (Enter k s) = ⊥
Leaves i (Leave k) = k ≡ i
Leaves i (Pay k) = ⊥

abbrev pub Enters : ℕ → Step → Type 0
Enters i Open = ⊥
Enters i (Push s) = ⊥
Enters i (Settle s) = ⊥
Enters i (Enter k s) = k ≡ i
Enters i (Leave k) = ⊥
Enters i (Pay k) = ⊥

pub inside-same : (seat seat' : Seat) → seat' ≡ seat → IsInside seat → IsInside seat'
inside-same seat seat' e is = (is.0, is.1, e ∙ is.2)

-- a seat that is inside stays as it is until it leaves
pub stays-inside : (w : State) (x : Step) → MayStep w x → (i : ℕ) → IsInside (seat_at w i) → (Leaves i x → ⊥) → seat_at (after w x) i ≡ seat_at w i
stays-inside w Open may i is stays = refl
stays-inside w (Push s) may i is stays = refl
stays-inside w (Settle s) may i is stays = refl
stays-inside w (Enter k s) may i is stays =
    elim (cases_eq i k) [
      | inl e ↦ absurd (inside-away (seat_at w i) is.0 is.1 is.2 (ap (seat_at w) e ∙ may.away))
      | inr apart ↦ enter-seat_other w k s may i apart
    ]
stays-inside w (Leave k) may i is stays = leave-seat_other w k may.0 may.1 may.2 i (λ e. stays (sym e))
stays-inside w (Pay k) may i is stays =
    elim (cases_eq i k) [
      | inl e ↦ absurd (inside-paying (seat_at w i) is.0 is.1 may.0 may.1 may.2 is.2 (ap (seat_at w) e ∙ may.3))
      | inr apart ↦ pay-seat_other w k may.0 may.1 may.2 may.3 i apart
    ]

-- a seat that has left is inside no slot
to_pay-not_inside : (w : State) → Holds w → (s paid last : ℕ) → IsInside (to_pay s paid last) → ⊥
to_pay-not_inside w h s paid last is = true≢false (sym (eq-eqb is.0 is.0 refl) ∙ ap (is_inside is.0) (sym is.2) ∙ to_pay-outside w h is.0 s paid last)

-- a seat is inside after a step only if it was, or entered
pub came-inside : (w : State) → Holds w → (x : Step) → MayStep w x → (i : ℕ) → IsInside (seat_at (after w x) i) → (Enters i x → ⊥) → IsInside (seat_at w i)
came-inside w h Open may i is not = is
came-inside w h (Push s) may i is not = is
came-inside w h (Settle s) may i is not = is
came-inside w h (Enter k s) may i is not = inside-same _ _ (sym (enter-seat_other w k s may i (λ e. not (sym e)))) is
came-inside w h (Leave k) may i is not =
    elim (cases_eq i k) [
      | inl e ↦ absurd (to_pay-not_inside w h _ _ _ (inside-same _ _ (sym (leave-seat w k may.0 may.1 may.2 i e)) is))
      | inr apart ↦ inside-same _ _ (sym (leave-seat_other w k may.0 may.1 may.2 i apart)) is
    ]
came-inside w h (Pay k) may i is not =
    elim (cases_eq i k) [
      | inl e ↦ absurd (to_pay-not_inside w h _ _ _ (inside-same _ _ (sym (pay-seat w k may.0 may.1 may.2 may.3 i e)) is))
      | inr apart ↦ inside-same _ _ (sym (pay-seat_other w k may.0 may.1 may.2 may.3 i apart)) is
    ]

-- a seat that has left isn't inside
pub leave-out : (w : State) → Holds w → (i : ℕ) → IsInside (seat_at w i) → (k : ℕ) → k ≡ i → IsInside (seat_at (after w (Leave i)) k) → ⊥
leave-out w h i may k e is = to_pay-not_inside w h _ _ _ (inside-same _ _ (sym (leave-seat w i may.0 may.1 may.2 k e)) is)

-- ---- for which seats a batch waits

-- until a seat leaves, a batch that waits for it goes on waiting
pub waits-after : (w : State) → Holds w → (x : Step) → MayStep w x → (i b : ℕ) → IsInside (seat_at w i) → (Leaves i x → ⊥) → 0 < b → WaitsFor w b i → WaitsFor (after w x) b i
waits-after w h x may i b is stays positive waits =
    let early = waits-entry w h i is.0 is.1 b is.2 positive waits in
    entry-waits (after w x) (Holds-step w h x may) i is.0 is.1 b (stays-inside w x may i is stays ∙ is.2) positive early

-- a batch that isn't opened waits for each seat
pub waits-unopened : (w : State) (b i : ℕ) → last_batch w < b → WaitsFor w b i
waits-unopened w b i behind = inl (λ opened. let within = opened.within in absurd (omega arith))

-- an opened batch that waits for a seat inside has a count that isn't zero
pub waits-some : (w : State) → Holds w → (i b : ℕ) → IsInside (seat_at w i) → IsOpened w b → WaitsFor w b i → count_of w b ≢ 0
waits-some w h i b is opened waits = waits-positive w h i is.0 is.1 b is.2 opened.positive opened waits

-- ---- when a count is zero

pub opened-after : (w : State) → Holds w → (x : Step) → MayStep w x → (b : ℕ) → IsOpened w b → IsOpened (after w x) b
opened-after w h x may b opened = record { positive = opened.positive; within = (let last = last-after w h x may in let within = opened.within in omega arith) }

-- a count that is zero stays zero
pub zero-after : (w : State) → Holds w → (x : Step) → MayStep w x → (b : ℕ) → IsOpened w b → count_of w b ≡ 0 → count_of (after w x) b ≡ 0
zero-after w h x may b opened zero = (zero_stays w h (x ∷ []) (may, tt) b opened zero).1

-- a step that takes from a count takes from that of an opened batch, which isn't zero, and answers what is left
pub record Taken (w : State) (x : Step) : Type 0 where
  pub opened : IsOpened w (takes_from w x)
  pub some : 0 < count_of w (takes_from w x)
  pub answers : answer w x ≡ count_of (after w x) (takes_from w x)

pub taken : (w : State) → Holds w → (x : Step) → MayStep w x → Takes x → Taken w x
taken w h Open may takes = absurd takes
taken w h (Push s) may takes = absurd takes
taken w h (Settle s) may takes = record { opened = record { positive = may.opened; within = omega arith }; some = settle-positive w h s may; answers = refl }
taken w h (Enter i s) may takes = absurd takes
taken w h (Leave i) may takes = absurd takes
taken w h (Pay i) may takes =
    let due = ap due_of may.3 in
    record {
      opened = subst (IsOpened w) (sym due) (pay-opened w h i may.0 may.1 may.2 may.3);
      some = subst (λ b. 0 < count_of w b) (sym due) (pay-within w h i may.0 may.1 may.2 may.3);
      answers = refl;
    }

-- an opened batch whose count becomes zero was opened before, and the step took from its count
pub became-zero : (w : State) → Holds w → (x : Step) → MayStep w x → (b : ℕ) → IsOpened (after w x) b → count_of (after w x) b ≡ 0
    → IsOpened w b × ((count_of w b ≡ 0) ⊎ (Takes x × (takes_from w x ≡ b) × (answer w x ≡ 0)))
became-zero w h x may b opened zero =
    elim (cases_lt (last_batch w) b) [
      | inl behind ↦ absurd (new-some w h x may b behind opened zero)
      | inr within ↦
          let old : IsOpened w b = record { positive = opened.positive; within = within } in
          (old, elim (cases_eq (count_of w b) 0) [ inl was ↦ inl was | inr some ↦ inr (takes_to_zero w h x may b old some zero) ])
    ]
  where
    not_new : (w : State) → Holds w → (x : Step) → MayStep w x → (b : ℕ) → last_batch w < b → IsOpened (after w x) b → opens x ≡ 0 → ⊥
    not_new w h x may b behind opened none = let last = last-after w h x may in let within = opened.within in absurd (omega arith)

    -- a batch that is new has a count that isn't zero
    new-some : (w : State) → Holds w → (x : Step) → MayStep w x → (b : ℕ) → last_batch w < b → IsOpened (after w x) b → count_of (after w x) b ≡ 0 → ⊥
    new-some w h Open may b behind opened zero =
        let last = last-after w h Open may in let within = opened.within in
        let same : b ≡ last_batch w + 1 = omega arith in
        let count = sym (ap (count_of (after w Open)) same) ∙ zero in
        let new = open-count_new w h may in
        let slots = h.sized.some_slot in absurd (omega arith)
    new-some w h (Push s) may b behind opened zero = not_new w h (Push s) may b behind opened refl
    new-some w h (Settle s) may b behind opened zero = not_new w h (Settle s) may b behind opened refl
    new-some w h (Enter i s) may b behind opened zero = not_new w h (Enter i s) may b behind opened refl
    new-some w h (Leave i) may b behind opened zero = not_new w h (Leave i) may b behind opened refl
    new-some w h (Pay i) may b behind opened zero = not_new w h (Pay i) may b behind opened refl

-- ---- a batch that is settled on a slot stays so

pub settled-after : (w : State) → Holds w → (x : Step) → MayStep w x → (b s : ℕ) → IsOpened w b → passage_of w b s ≡ Settled → passage_of (after w x) b s ≡ Settled
settled-after w h Open may b s opened is = open-passage w h may b s opened ∙ is
settled-after w h (Push t) may b s opened is =
    elim (cases_eq b (last_batch w)) [
      | inl e ↦
          elim (cases_eq s t) [
            | inl e' ↦ absurd (not_ahead _ is (ap (λ c. passage_of w c s) e ∙ ap (passage_of w (last_batch w)) e' ∙ may.ahead))
            | inr apart ↦ push-passage_other w h t may b s opened (λ _. apart) ∙ is
          ]
      | inr apart ↦ push-passage_other w h t may b s opened (λ same _. apart same) ∙ is
    ]
  where
    not_ahead : (p : Passage) → p ≡ Settled → p ≡ Ahead → ⊥
    not_ahead p e f = true≢false (ap is_passed (sym e ∙ f))
settled-after w h (Settle t) may b s opened is =
    elim (cases_eq b (last_batch w)) [
      | inl e ↦
          elim (cases_eq s t) [
            | inl e' ↦ ap (λ c. passage_of (after w (Settle t)) c s) e ∙ ap (passage_of (after w (Settle t)) (last_batch w)) e' ∙ settle-passage w h t may
            | inr apart ↦ settle-passage_other w h t may b s opened (λ _. apart) ∙ is
          ]
      | inr apart ↦ settle-passage_other w h t may b s opened (λ same _. apart same) ∙ is
    ]
settled-after w h (Enter i t) may b s opened is = is
settled-after w h (Leave i) may b s opened is = ap (λ (x : Batch). get_or x.passages s Ahead) (leave-batch w i may.0 may.1 may.2 b) ∙ is
settled-after w h (Pay i) may b s opened is = pay-passage w h i may.0 may.1 may.2 may.3 b s opened.positive ∙ is
