-- Entering and leaving keep the invariant, and leaving finds somebody inside.
use Rattle.std.proofs.Common.{◌≡◌, ℕ, ◌+◌, ◌-◌, ◌<◌, ◌≤◌, ◌≢◌, false, cond, length, set, refl, sym, ap, ◌∙◌, subst, inl, inr, arith, length-set, eq-eqb, ne_eqb, lt-ltb, le-ltb}
use Rattle.std.specs.List.{count_by}
use Rattle.std.proofs.lemmas.Bool.{cases_eq, cases_lt}
use Rattle.std.proofs.lemmas.Bool.Decides.{nat_tests}
use Rattle.ad_events.specs.Sums.{bit}
use Rattle.ad_events.specs.Owed.{State, Slot, Passage, Ahead, Pushed, Settled, Seat, Away, Inside, Paying, slot_at, seat_at, inside_of, pushed_on, passage_of, last_batch, put_slot, put_seat, owes_on, owers, share_of, is_inside, to_pay, Enter, Leave, MayStep, left, after}
use Rattle.ad_events.proofs.SumLemmas.{count_by-changed, count_by-at}
use Rattle.ad_events.specs.OwedInvariant.{SeatFits, PassageFits, Holds}
use Rattle.ad_events.proofs.SeatLemmas.{owers-kept, owes-entered, owes-left}
use Rattle.ad_events.proofs.OwedWrites.{IsSized-same, inside-within, share-same, owed-same, slot_at-put_same, slot_at-put_other, seat_at-put_same, seat_at-put_other}

-- the same numbers, the same fit
pub SeatFits-same : (n m : ℕ) (f g : ℕ → ℕ) (seat : Seat) → m ≡ n → ((s : ℕ) → g s ≡ f s) → SeatFits n f seat → SeatFits m g seat
SeatFits-same n m f g Away e same fits = tt
SeatFits-same n m f g (Inside slot entry) e same fits = (let l = fits.0 in omega arith, (let last = same slot in let low = fits.1 in omega arith))
SeatFits-same n m f g (Paying slot paid last) e same fits = (let l = fits.0 in omega arith, fits.1, (let at = same slot in let low = fits.2 in omega arith))

pub PassageFits-same : (last p q n m b : ℕ) (passage : Passage) → q ≡ p → m ≡ n → PassageFits last p n b passage → PassageFits last q m b passage
PassageFits-same last p q n m b Ahead e e' fits = (fits.0, let at = fits.1 in omega arith)
PassageFits-same last p q n m b (Pushed found) e e' fits = (fits.0, (let at = fits.1 in omega arith), (let low = fits.2 in omega arith))
PassageFits-same last p q n m b Settled e e' fits = omega arith

-- A step of a seat that changes the number inside of one slot, and owes what it owed
module _ (w : State) (h : Holds w) (i s : ℕ) (seat : Seat) (inside : ℕ) (a_seat : i < length w.seats) (a_slot : s < length w.slots)
    (fits : SeatFits (length w.slots) (pushed_on w) seat)
    (owes : (b t : ℕ) → owes_on (pushed_on w t) b t seat ≡ owes_on (pushed_on w t) b t (seat_at w i))
    (here : inside + bit (is_inside s (seat_at w i)) ≡ inside_of w s + bit (is_inside s seat))
    (elsewhere : (t : ℕ) → t ≢ s → is_inside t seat ≡ is_inside t (seat_at w i)) where
  v : State
  v = put_seat (put_slot w s (record { inside = inside; pushed = pushed_on w s })) i seat

  slots_kept : length v.slots ≡ length w.slots
  unfolding v
  slots_kept = length-set w.slots s _

  seats_kept : length v.seats ≡ length w.seats
  unfolding v
  seats_kept = length-set w.seats i _

  slot_here : slot_at v s ≡ record { inside = inside; pushed = pushed_on w s }
  unfolding v
  slot_here = slot_at-put_same w s (record { inside = inside; pushed = pushed_on w s }) a_slot

  slot_other : (t : ℕ) → t ≢ s → slot_at v t ≡ slot_at w t
  unfolding v
  slot_other t apart = slot_at-put_other w s t (record { inside = inside; pushed = pushed_on w s }) apart

  pushed_kept : (t : ℕ) → pushed_on v t ≡ pushed_on w t
  pushed_kept t =
      elim (cases_eq t s) [
        | inl e ↦ ap (pushed_on v) e ∙ ap (λ (x : Slot). x.pushed) slot_here ∙ ap (pushed_on w) (sym e)
        | inr apart ↦ ap (λ (x : Slot). x.pushed) (slot_other t apart)
      ]

  inside_is : (t : ℕ) → t < length w.slots → inside_of v t ≡ count_by (is_inside t) (set w.seats i seat)
  inside_is t l =
      let was = h.inside t l in
      let sums = count_by-changed (is_inside t) w.seats i seat Away a_seat in
      elim (cases_eq t s) [
        | inl e ↦
            let new : inside_of v t ≡ inside = ap (inside_of v) e ∙ ap (λ (x : Slot). x.inside) slot_here in
            let old = ap (inside_of w) e in
            let bits = ap (λ x. bit (is_inside x seat)) e in
            let bits' = ap (λ x. bit (is_inside x (seat_at w i))) e in
            let change = here in omega arith
        | inr apart ↦
            let same = ap (λ (x : Slot). x.inside) (slot_other t apart) in
            let bits = ap bit (elsewhere t apart) in omega arith
      ]

  shares : (b t : ℕ) → share_of v b t ≡ share_of w b t
  unfolding v
  shares b t =
      share-same v w b t refl
      (ap (λ p. owers p b t (set w.seats i seat)) (pushed_kept t) ∙ owers-kept (pushed_on w t) b t w.seats i seat a_seat (owes b t))

  seats_fit : (j : ℕ) → j < length w.seats → SeatFits (length w.slots) (pushed_on w) (seat_at v j)
  unfolding v
  seats_fit j l =
      elim (cases_eq j i) [
        | inl e ↦ subst (SeatFits (length w.slots) (pushed_on w)) (sym (ap (seat_at v) e ∙ seat_at-put_same w i seat a_seat)) fits
        | inr apart ↦ subst (SeatFits (length w.slots) (pushed_on w)) (sym (seat_at-put_other w i j seat apart)) (h.seats j l)
      ]

  pub Holds-seat : Holds (put_seat (put_slot w s (record { inside = inside; pushed = pushed_on w s })) i seat)
  unfolding v
  Holds-seat =
      record {
        sized = IsSized-same (length w.slots) (length w.seats) (length v.slots) (length v.seats) slots_kept seats_kept h.sized;
        lengths = λ b opened. h.lengths b (record { positive = opened.positive; within = opened.within }) ∙ sym slots_kept;
        counted = λ b opened. h.counted b (record { positive = opened.positive; within = opened.within }) ∙ sym (owed-same v w b slots_kept (λ t l. shares b t));
        inside = λ t l. inside_is t (let same = slots_kept in omega arith);
        seats = λ j l. SeatFits-same (length w.slots) (length v.slots) (pushed_on w) (pushed_on v) (seat_at v j) slots_kept pushed_kept (seats_fit j (let same = seats_kept in omega arith));
        pushed = λ t l. (let below = h.pushed t (let same = slots_kept in omega arith) in let same = pushed_kept t in omega arith);
        passages = λ b t opened l.
            PassageFits-same (last_batch w) (pushed_on w t) (pushed_on v t) (length w.seats) (length v.seats) b (passage_of w b t) (pushed_kept t) seats_kept
            (h.passages b t (record { positive = opened.positive; within = opened.within }) (let same = slots_kept in omega arith));
      }

module _ (w : State) (h : Holds w) where
  pub Holds-enter : (i s : ℕ) → MayStep w (Enter i s) → Holds (after w (Enter i s))
  Holds-enter i s may =
      Holds-seat w h i s (Inside s (pushed_on w s)) (inside_of w s + 1) may.seat may.slot (may.slot, omega arith)
      (λ b t. owes-entered (pushed_on w) b t s ∙ ap (owes_on (pushed_on w t) b t) (sym may.away))
      (let one = ap bit (eq-eqb s s refl) in let none = ap (λ x. bit (is_inside s x)) may.away in omega arith)
      (λ t apart. ne_eqb s t (λ e. apart (sym e)) ∙ ap (is_inside t) (sym may.away))

  -- somebody is inside a slot that a seat leaves
  pub leave-within : (i s entry : ℕ) → seat_at w i ≡ Inside s entry → 0 < inside_of w s
  leave-within i s entry is =
      let a_seat = inside-within w i s entry is in
      let fits = subst (SeatFits (length w.slots) (pushed_on w)) is (h.seats i a_seat) in
      let number = h.inside s fits.0 in
      let counted = count_by-at (is_inside s) w.seats i Away a_seat (ap (is_inside s) is ∙ eq-eqb s s refl) in omega arith

  pub to_pay-fits : (s paid last : ℕ) → s < length w.slots → last ≤ pushed_on w s → SeatFits (length w.slots) (pushed_on w) (to_pay s paid last)
  to_pay-fits s paid last l below =
      elim (cases_lt paid last) [
        | inl less ↦ subst (λ b. SeatFits (length w.slots) (pushed_on w) (cond b (Paying s paid last) Away)) (sym (lt-ltb paid last less)) (l, less, below)
        | inr more ↦ subst (λ b. SeatFits (length w.slots) (pushed_on w) (cond b (Paying s paid last) Away)) (sym (le-ltb paid last more)) tt
      ]

  -- a seat that has left is inside no slot
  pub to_pay-outside : (t s paid last : ℕ) → is_inside t (to_pay s paid last) ≡ false
  to_pay-outside t s paid last = elim (cases_lt paid last) [ inl less ↦ grind (arith, nat_tests) | inr more ↦ grind (arith, nat_tests) ]

  Holds-left : (i s entry : ℕ) → seat_at w i ≡ Inside s entry → Holds (left w i (Inside s entry))
  Holds-left i s entry is =
      let a_seat = inside-within w i s entry is in
      let fits = subst (SeatFits (length w.slots) (pushed_on w)) is (h.seats i a_seat) in
      Holds-seat w h i s (to_pay s entry (pushed_on w s)) (inside_of w s - 1) a_seat fits.0 (to_pay-fits s entry (pushed_on w s) fits.0 (omega arith))
      (λ b t. owes-left (pushed_on w) b t s entry ∙ ap (owes_on (pushed_on w t) b t) (sym is))
      (let some = leave-within i s entry is in
      let one = ap (λ x. bit (is_inside s x)) is ∙ ap bit (eq-eqb s s refl) in
      let none = ap bit (to_pay-outside s s entry (pushed_on w s)) in omega arith)
      (λ t apart. to_pay-outside t s entry (pushed_on w s) ∙ sym (ap (is_inside t) is ∙ ne_eqb s t (λ e. apart (sym e))))

  pub Holds-leave : (i : ℕ) → MayStep w (Leave i) → Holds (after w (Leave i))
  Holds-leave i may = subst Holds (sym (ap (left w i) may.2)) (Holds-left i may.0 may.1 may.2)
