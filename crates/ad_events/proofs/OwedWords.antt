-- The words of a table: what a step makes of a slot's word and of a count, and what a slot's word tells.
use Rattle.std.proofs.Common.{◌≡◌, ◌≢◌, ℕ, ◌+◌, ◌-◌, ◌*◌, ◌^◌, ◌/◌, ◌%◌, ◌<◌, ◌≤◌, length, ap, subst, arith}
use Rattle.ad_events.specs.Owed.{State, Slot, Pushed, Inside, Paying, Push, Settle, Enter, Leave, Pay, slot_at, seat_at, inside_of, pushed_on, count_of, passage_of, last_batch, slot_share, found_by, MayPush, MaySettle, MayEnter, after}
use Rattle.ad_events.specs.OwedInvariant.{SeatFits, Holds}
use Rattle.ad_events.specs.OwedLaws.{slot_word}
use Rattle.ad_events.proofs.OwedWrites.{inside-within}
use Rattle.ad_events.proofs.OwedReads.{push-inside, push-pushed, push-slot_other, settle-count_found, enter-inside, enter-pushed, enter-slot_other, leave-inside, leave-pushed, leave-slot_other, pay-slot, pay-count}
use Rattle.ad_events.proofs.SettleStep.{settle-within}
use Rattle.ad_events.proofs.SeatSteps.{leave-within}
use Rattle.ad_events.proofs.PayStep.{pay-within}
use Rattle.ad_events.proofs.OwedLaws.{words_fit}

-- ---- what a slot's word tells

pub word-low : (w : State) → Holds w → (s : ℕ) → s < length w.slots → slot_word w s % 2 ^ 32 ≡ inside_of w s
word-low w h s l = low (pushed_on w s) (inside_of w s) ((words_fit w h).inside s l)
  where
    low : (a b : ℕ) → b < 2 ^ 32 → (2 ^ 32 * a + b) % 2 ^ 32 ≡ b
    low a b l = omega arith

pub word-high : (w : State) → Holds w → (s : ℕ) → s < length w.slots → slot_word w s / 2 ^ 32 ≡ pushed_on w s
word-high w h s l = high (pushed_on w s) (inside_of w s) ((words_fit w h).inside s l)
  where
    high : (a b : ℕ) → b < 2 ^ 32 → (2 ^ 32 * a + b) / 2 ^ 32 ≡ a
    high a b l = omega arith

-- ---- a slot's word after a step

pub same-word : (v w : State) (s : ℕ) → slot_at v s ≡ slot_at w s → slot_word v s ≡ slot_word w s
same-word v w s e = ap (λ (x : Slot). 2 ^ 32 * x.pushed + x.inside) e

pub enter-word : (w : State) (i s : ℕ) → MayEnter w i s → slot_word (after w (Enter i s)) s ≡ slot_word w s + 1
enter-word w i s may = let inside = enter-inside w i s may in let pushed = enter-pushed w i s may in omega arith

pub enter-word_other : (w : State) (i s : ℕ) → MayEnter w i s → (t : ℕ) → t ≢ s → slot_word (after w (Enter i s)) t ≡ slot_word w t
enter-word_other w i s may t apart = same-word (after w (Enter i s)) w t (enter-slot_other w i s may t apart)

pub push-word : (w : State) → Holds w → (s : ℕ) → MayPush w s → slot_word (after w (Push s)) s ≡ slot_word w s + 2 ^ 32
push-word w h s may = let inside = push-inside w h s may in let pushed = push-pushed w h s may in omega arith

pub push-word_other : (w : State) → Holds w → (s : ℕ) → MayPush w s → (t : ℕ) → t ≢ s → slot_word (after w (Push s)) t ≡ slot_word w t
push-word_other w h s may t apart = same-word (after w (Push s)) w t (push-slot_other w h s may t apart)

-- the slot of a seat that is inside is one of the table's
pub inside-slot : (w : State) → Holds w → (i s entry : ℕ) → seat_at w i ≡ Inside s entry → s < length w.slots
inside-slot w h i s entry is = (let fits = subst (SeatFits (length w.slots) (pushed_on w)) is (h.seats i (inside-within w i s entry is)) in fits.0)

pub leave-word : (w : State) → Holds w → (i s entry : ℕ) → seat_at w i ≡ Inside s entry → slot_word (after w (Leave i)) s + 1 ≡ slot_word w s
leave-word w h i s entry is =
    let l = inside-slot w h i s entry is in
    let inside = leave-inside w h i s entry is l in let pushed = leave-pushed w h i s entry is l in
    let some = leave-within w h i s entry is in omega arith

pub leave-word_other : (w : State) (i s entry : ℕ) → seat_at w i ≡ Inside s entry → (t : ℕ) → t ≢ s → slot_word (after w (Leave i)) t ≡ slot_word w t
leave-word_other w i s entry is t apart = same-word (after w (Leave i)) w t (leave-slot_other w i s entry is t apart)

pub pay-word : (w : State) (i s paid last : ℕ) → seat_at w i ≡ Paying s paid last → (t : ℕ) → slot_word (after w (Pay i)) t ≡ slot_word w t
pay-word w i s paid last is t = same-word (after w (Pay i)) w t (pay-slot w i s paid last is t)

-- ---- a count after a settle and a pay

pub settle-takes : (w : State) → Holds w → (s : ℕ) → MaySettle w s → (found : ℕ) → passage_of w (last_batch w) s ≡ Pushed found
    → count_of (after w (Settle s)) (last_batch w) + (slot_share - found) ≡ count_of w (last_batch w)
settle-takes w h s may found is =
    let left = settle-count_found w h s may found is in
    let within = subst (λ p. slot_share - found_by p ≤ count_of w (last_batch w)) is (settle-within w h s may) in omega arith

pub pay-takes : (w : State) → Holds w → (i s paid last : ℕ) → seat_at w i ≡ Paying s paid last → count_of (after w (Pay i)) (paid + 1) + 1 ≡ count_of w (paid + 1)
pay-takes w h i s paid last is = let left = pay-count w h i s paid last is in let some = pay-within w h i s paid last is in omega arith
