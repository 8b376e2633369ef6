-- What a state has after a step: lengths, slots, counts, passages and seats. What isn't here is as before by computation, but
-- for counts after an open, a push and a settle of another batch, which stand beside the proofs of these steps.
use Rattle.std.proofs.Common.{◌≡◌, ◌≢◌, ℕ, ◌+◌, ◌-◌, ◌<◌, length, get_or, refl, sym, ap, ◌∙◌, inl, inr, arith, length-set}
use Rattle.std.proofs.lemmas.Bool.{cases_eq}
use Rattle.ad_events.specs.Owed.{State, Slot, Batch, Passage, Ahead, Pushed, Settled, Inside, Paying, Step, Open, Push, Settle, Enter, Leave, Pay, slot_at, batch_at, seat_at, inside_of, pushed_on, count_of, passage_of, last_batch, IsOpened, put_slot, put_seat, put_count, slot_share, to_pay, left, paid_by, found_by, takes_from, due_of, MayPush, MaySettle, MayEnter, SettledEverywhere, IsIdle, MayStep, after}
use Rattle.ad_events.specs.OwedInvariant.{PassageFits, Holds}
use Rattle.ad_events.proofs.OwedWrites.{inside-within, paying-within, slot_at-put_same, slot_at-put_other, seat_at-put_same, seat_at-put_other, passage-put_same, passage-put_other, count-put_same, batch_at-put_same, batch_at-put_other}
use Rattle.ad_events.proofs.OpenStep.{open-last, open-batch, open-ahead}
use Rattle.ad_events.proofs.PayStep.{pay-opened, pay-last, pay-count_other}

-- the mover's batch is opened, where there is one
pub last-opened : (w : State) → 0 < last_batch w → IsOpened w (last_batch w)
last-opened w positive = record { positive = positive; within = omega arith }

-- ---- leaving and paying, of a seat that is inside or paying

pub leave-is : (w : State) (i s entry : ℕ) → seat_at w i ≡ Inside s entry → after w (Leave i) ≡ put_seat (put_slot w s (record { inside = inside_of w s - 1; pushed = pushed_on w s })) i (to_pay s entry (pushed_on w s))
leave-is w i s entry is = ap (left w i) is

pub pay-is : (w : State) (i s paid last : ℕ) → seat_at w i ≡ Paying s paid last → after w (Pay i) ≡ put_seat (put_count w (paid + 1) (count_of w (paid + 1) - 1)) i (to_pay s (paid + 1) last)
pay-is w i s paid last is = ap (paid_by w i) is

-- ---- lengths

-- how many batches a step opens
abbrev pub opens : Step → ℕ
opens Open = 1
opens (Push s) = 0
opens (Settle s) = 0
opens (Enter i s) = 0
opens (Leave i) = 0
opens (Pay i) = 0

pub slots-after : (w : State) (x : Step) → MayStep w x → length (after w x).slots ≡ length w.slots
slots-after w Open may = refl
slots-after w (Push s) may = length-set w.slots s _
slots-after w (Settle s) may = refl
slots-after w (Enter i s) may = length-set w.slots s _
slots-after w (Leave i) may = ap (λ (v : State). length v.slots) (leave-is w i may.0 may.1 may.2) ∙ length-set w.slots may.0 _
slots-after w (Pay i) may = ap (λ (v : State). length v.slots) (pay-is w i may.0 may.1 may.2 may.3)

pub seats-after : (w : State) (x : Step) → MayStep w x → length (after w x).seats ≡ length w.seats
seats-after w Open may = refl
seats-after w (Push s) may = refl
seats-after w (Settle s) may = refl
seats-after w (Enter i s) may = length-set w.seats i _
seats-after w (Leave i) may = ap (λ (v : State). length v.seats) (leave-is w i may.0 may.1 may.2) ∙ length-set w.seats i _
seats-after w (Pay i) may = ap (λ (v : State). length v.seats) (pay-is w i may.0 may.1 may.2 may.3) ∙ length-set w.seats i _

pub last-after : (w : State) → Holds w → (x : Step) → MayStep w x → last_batch (after w x) ≡ last_batch w + opens x
last-after w h Open may = open-last w h may
last-after w h (Push s) may = let same : last_batch (after w (Push s)) ≡ last_batch w = length-set w.batches (last_batch w - 1) _ in omega arith
last-after w h (Settle s) may = let same : last_batch (after w (Settle s)) ≡ last_batch w = length-set w.batches (last_batch w - 1) _ in omega arith
last-after w h (Enter i s) may = omega arith
last-after w h (Leave i) may = let same : last_batch (after w (Leave i)) ≡ last_batch w = ap last_batch (leave-is w i may.0 may.1 may.2) in omega arith
last-after w h (Pay i) may =
    let same : last_batch (after w (Pay i)) ≡ last_batch w = ap last_batch (pay-is w i may.0 may.1 may.2 may.3) ∙ pay-last w h i may.0 may.1 may.2 may.3 in omega arith

-- ---- open

pub open-passage : (w : State) → Holds w → IsIdle w → (b s : ℕ) → IsOpened w b → passage_of (after w Open) b s ≡ passage_of w b s
open-passage w h idle b s opened = ap (λ (x : Batch). get_or x.passages s Ahead) (open-batch w h idle b opened)

pub open-passage_new : (w : State) → Holds w → IsIdle w → (s : ℕ) → s < length w.slots → passage_of (after w Open) (last_batch w + 1) s ≡ Ahead
open-passage_new w h idle s l = open-ahead w h idle (last_batch w + 1) s refl l

-- where the last batch is settled everywhere, each one is
pub idle-from_last : (w : State) → Holds w → (0 < last_batch w → SettledEverywhere w (last_batch w)) → IsIdle w
idle-from_last w h last b opened s l =
    elim (cases_eq b (last_batch w)) [
      | inl e ↦ ap (λ c. passage_of w c s) e ∙ last (let positive = opened.positive in let within = opened.within in omega arith) s l
      | inr apart ↦ older (last_batch w) (pushed_on w s) (length w.seats) b (passage_of w b s) apart (h.passages b s opened l)
    ]
  where
    older : (last pushed seats b : ℕ) (p : Passage) → b ≢ last → PassageFits last pushed seats b p → p ≡ Settled
    older last pushed seats b Ahead apart fits = absurd (apart fits.0)
    older last pushed seats b (Pushed found) apart fits = absurd (apart fits.0)
    older last pushed seats b Settled apart fits = refl

-- ---- push

module _ (w : State) (h : Holds w) (s : ℕ) (may : MayPush w s) where
  push-slot : slot_at (after w (Push s)) s ≡ record { inside = inside_of w s; pushed = pushed_on w s + 1 }
  push-slot = slot_at-put_same w s (record { inside = inside_of w s; pushed = pushed_on w s + 1 }) may.slot

  pub push-slot_other : (t : ℕ) → t ≢ s → slot_at (after w (Push s)) t ≡ slot_at w t
  push-slot_other t apart = slot_at-put_other w s t (record { inside = inside_of w s; pushed = pushed_on w s + 1 }) apart

  pub push-inside : inside_of (after w (Push s)) s ≡ inside_of w s
  push-inside = ap (λ (x : Slot). x.inside) push-slot

  pub push-pushed : pushed_on (after w (Push s)) s ≡ pushed_on w s + 1
  push-pushed = ap (λ (x : Slot). x.pushed) push-slot

  pub push-passage : passage_of (after w (Push s)) (last_batch w) s ≡ Pushed (inside_of w s)
  push-passage =
      passage-put_same w (last_batch w) (count_of w (last_batch w)) s (Pushed (inside_of w s)) (last-opened w may.opened)
      (let lengths = h.lengths (last_batch w) (last-opened w may.opened) in let l = may.slot in omega arith)

  pub push-passage_other : (b t : ℕ) → IsOpened w b → (b ≡ last_batch w → t ≡ s → ⊥) → passage_of (after w (Push s)) b t ≡ passage_of w b t
  push-passage_other b t opened apart = passage-put_other w (last_batch w) b (count_of w (last_batch w)) s t (Pushed (inside_of w s)) (last-opened w may.opened) opened apart

-- ---- settle

module _ (w : State) (h : Holds w) (s : ℕ) (may : MaySettle w s) where
  pub settle-count : count_of (after w (Settle s)) (last_batch w) ≡ count_of w (last_batch w) - (slot_share - found_by (passage_of w (last_batch w) s))
  settle-count = count-put_same w (last_batch w) _ _ (last-opened w may.opened)

  -- what the push found is given back
  pub settle-count_found : (found : ℕ) → passage_of w (last_batch w) s ≡ Pushed found → count_of (after w (Settle s)) (last_batch w) ≡ count_of w (last_batch w) - (slot_share - found)
  settle-count_found found is = settle-count ∙ ap (λ p. count_of w (last_batch w) - (slot_share - found_by p)) is

  pub settle-passage : passage_of (after w (Settle s)) (last_batch w) s ≡ Settled
  settle-passage =
      passage-put_same w (last_batch w) _ s Settled (last-opened w may.opened)
      (let lengths = h.lengths (last_batch w) (last-opened w may.opened) in let l = may.slot in omega arith)

  pub settle-passage_other : (b t : ℕ) → IsOpened w b → (b ≡ last_batch w → t ≡ s → ⊥) → passage_of (after w (Settle s)) b t ≡ passage_of w b t
  settle-passage_other b t opened apart = passage-put_other w (last_batch w) b _ s t Settled (last-opened w may.opened) opened apart

-- ---- enter

module _ (w : State) (i s : ℕ) (may : MayEnter w i s) where
  enter-slot : slot_at (after w (Enter i s)) s ≡ record { inside = inside_of w s + 1; pushed = pushed_on w s }
  enter-slot = slot_at-put_same w s (record { inside = inside_of w s + 1; pushed = pushed_on w s }) may.slot

  pub enter-slot_other : (t : ℕ) → t ≢ s → slot_at (after w (Enter i s)) t ≡ slot_at w t
  enter-slot_other t apart = slot_at-put_other w s t (record { inside = inside_of w s + 1; pushed = pushed_on w s }) apart

  pub enter-inside : inside_of (after w (Enter i s)) s ≡ inside_of w s + 1
  enter-inside = ap (λ (x : Slot). x.inside) enter-slot

  pub enter-pushed : pushed_on (after w (Enter i s)) s ≡ pushed_on w s
  enter-pushed = ap (λ (x : Slot). x.pushed) enter-slot

  pub enter-seat : (k : ℕ) → k ≡ i → seat_at (after w (Enter i s)) k ≡ Inside s (pushed_on w s)
  enter-seat k e = ap (seat_at (after w (Enter i s))) e ∙ seat_at-put_same w i (Inside s (pushed_on w s)) may.seat

  pub enter-seat_other : (k : ℕ) → k ≢ i → seat_at (after w (Enter i s)) k ≡ seat_at w k
  enter-seat_other k apart = seat_at-put_other w i k (Inside s (pushed_on w s)) apart

-- ---- leave

module _ (w : State) (h : Holds w) (i s entry : ℕ) (is : seat_at w i ≡ Inside s entry) (a_slot : s < length w.slots) where
  leave-slot : slot_at (after w (Leave i)) s ≡ record { inside = inside_of w s - 1; pushed = pushed_on w s }
  leave-slot = ap (λ v. slot_at v s) (leave-is w i s entry is) ∙ slot_at-put_same w s (record { inside = inside_of w s - 1; pushed = pushed_on w s }) a_slot

  pub leave-inside : inside_of (after w (Leave i)) s ≡ inside_of w s - 1
  leave-inside = ap (λ (x : Slot). x.inside) leave-slot

  pub leave-pushed : pushed_on (after w (Leave i)) s ≡ pushed_on w s
  leave-pushed = ap (λ (x : Slot). x.pushed) leave-slot

module _ (w : State) (i s entry : ℕ) (is : seat_at w i ≡ Inside s entry) where
  pub leave-slot_other : (t : ℕ) → t ≢ s → slot_at (after w (Leave i)) t ≡ slot_at w t
  leave-slot_other t apart = ap (λ v. slot_at v t) (leave-is w i s entry is) ∙ slot_at-put_other w s t (record { inside = inside_of w s - 1; pushed = pushed_on w s }) apart

  pub leave-batch : (b : ℕ) → batch_at (after w (Leave i)) b ≡ batch_at w b
  leave-batch b = ap (λ v. batch_at v b) (leave-is w i s entry is)

  pub leave-seat : (k : ℕ) → k ≡ i → seat_at (after w (Leave i)) k ≡ to_pay s entry (pushed_on w s)
  leave-seat k e = ap (λ v. seat_at v k) (leave-is w i s entry is) ∙ ap (λ x. seat_at (put_seat w i (to_pay s entry (pushed_on w s))) x) e ∙ seat_at-put_same w i (to_pay s entry (pushed_on w s)) (inside-within w i s entry is)

  pub leave-seat_other : (k : ℕ) → k ≢ i → seat_at (after w (Leave i)) k ≡ seat_at w k
  leave-seat_other k apart = ap (λ v. seat_at v k) (leave-is w i s entry is) ∙ seat_at-put_other w i k (to_pay s entry (pushed_on w s)) apart

-- ---- pay

module _ (w : State) (i s paid last : ℕ) (is : seat_at w i ≡ Paying s paid last) where
  pub pay-slot : (t : ℕ) → slot_at (after w (Pay i)) t ≡ slot_at w t
  pay-slot t = ap (λ v. slot_at v t) (pay-is w i s paid last is)

  pub pay-seat : (k : ℕ) → k ≡ i → seat_at (after w (Pay i)) k ≡ to_pay s (paid + 1) last
  pay-seat k e = ap (λ v. seat_at v k) (pay-is w i s paid last is) ∙ ap (λ x. seat_at (put_seat w i (to_pay s (paid + 1) last)) x) e ∙ seat_at-put_same w i (to_pay s (paid + 1) last) (paying-within w i s paid last is)

  pub pay-seat_other : (k : ℕ) → k ≢ i → seat_at (after w (Pay i)) k ≡ seat_at w k
  pay-seat_other k apart = ap (λ v. seat_at v k) (pay-is w i s paid last is) ∙ seat_at-put_other w i k (to_pay s (paid + 1) last) apart

  pub pay-due : takes_from w (Pay i) ≡ paid + 1
  pay-due = ap due_of is

module _ (w : State) (h : Holds w) (i s paid last : ℕ) (is : seat_at w i ≡ Paying s paid last) where
  pub pay-count : count_of (after w (Pay i)) (paid + 1) ≡ count_of w (paid + 1) - 1
  pay-count = ap (λ v. count_of v (paid + 1)) (pay-is w i s paid last is) ∙ count-put_same w (paid + 1) (count_of w (paid + 1) - 1) _ (pay-opened w h i s paid last is)

  pub pay-count_else : (b : ℕ) → 0 < b → b ≢ paid + 1 → count_of (after w (Pay i)) b ≡ count_of w b
  pay-count_else b positive apart = ap (λ v. count_of v b) (pay-is w i s paid last is) ∙ pay-count_other w h i s paid last is b positive apart

  pub pay-passage : (b t : ℕ) → 0 < b → passage_of (after w (Pay i)) b t ≡ passage_of w b t
  pay-passage b t positive =
      let new : Batch = record { count = count_of w (paid + 1) - 1; passages = (batch_at w (paid + 1)).passages } in
      let v = put_count w (paid + 1) (count_of w (paid + 1) - 1) in
      let read = λ (x : Batch). get_or x.passages t Ahead in
      ap (λ u. passage_of u b t) (pay-is w i s paid last is)
      ∙ elim (cases_eq b (paid + 1)) [
        | inl e ↦ ap (λ c. passage_of v c t) e ∙ ap read (batch_at-put_same w (paid + 1) new (pay-opened w h i s paid last is)) ∙ ap (λ c. passage_of w c t) (sym e)
        | inr apart ↦ ap read (batch_at-put_other w (paid + 1) b new (omega arith) positive apart)
      ]
