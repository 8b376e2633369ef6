-- Paying keeps the invariant, and takes from a count that isn't zero.
use Rattle.std.proofs.Common.{◌≡◌, ℕ, ◌+◌, ◌-◌, ◌<◌, ◌≤◌, ◌≢◌, true, length, get_or, set, refl, sym, ap, ◌∙◌, subst, inl, inr, arith, length-set}
use Rattle.std.specs.List.{count_by}
use Rattle.std.proofs.lemmas.Bool.{cases_eq}
use Rattle.ad_events.specs.Sums.{bit}
use Rattle.ad_events.specs.Owed.{State, Batch, Passage, Ahead, Pushed, Settled, Seat, Away, Paying, batch_at, seat_at, pushed_on, count_of, passage_of, last_batch, IsOpened, put_count, put_seat, owes_on, owers, share, share_of, owed_of, is_inside, to_pay, paid_by, Pay, MayStep, after}
use Rattle.ad_events.proofs.SumLemmas.{sum_below-at, count_by-at, count_by-changed}
use Rattle.ad_events.specs.OwedInvariant.{SeatFits, PassageFits, Holds}
use Rattle.ad_events.proofs.SeatLemmas.{owers-changed, owers-kept, owes-paying, owes-paid, owes-paid_other}
use Rattle.ad_events.proofs.OwedWrites.{IsSized-same, paying-within, share-same, owed-same, owed-changed, batch_at-put_same, batch_at-put_other, seat_at-put_same, seat_at-put_other, count-put_other, IsOpened-put}
use Rattle.ad_events.proofs.SeatSteps.{PassageFits-same, to_pay-fits, to_pay-outside}

-- a slot adds something where somebody owes
share-positive : (p : Passage) (owing : ℕ) → 0 < owing → 0 < share p owing
share-positive Ahead owing l = omega arith
share-positive (Pushed found) owing l = omega arith
share-positive Settled owing l = l

-- one that owes less is one less, where the batch is pushed
share-less : (last pushed seats b : ℕ) (p : Passage) (new old : ℕ) → PassageFits last pushed seats b p → b ≤ pushed → new + 1 ≡ old → share p new + 1 ≡ share p old
share-less last pushed seats b Ahead new old fits l e = absurd (let at = fits.1 in omega arith)
share-less last pushed seats b (Pushed found) new old fits l e = omega arith
share-less last pushed seats b Settled new old fits l e = e

module _ (w : State) (h : Holds w) (i s paid last : ℕ) (is : seat_at w i ≡ Paying s paid last) where
  a_seat : i < length w.seats
  a_seat = paying-within w i s paid last is

  fit : (s < length w.slots) × (paid < last) × (last ≤ pushed_on w s)
  fit = subst (SeatFits (length w.slots) (pushed_on w)) is (h.seats i a_seat)

  pub pay-opened : IsOpened w (paid + 1)
  pay-opened = record { positive = omega arith; within = (let most = h.pushed s fit.0 in let less = fit.1 in let below = fit.2 in omega arith) }

  owing : owes_on (pushed_on w s) (paid + 1) s (seat_at w i) ≡ true
  owing = ap (owes_on (pushed_on w s) (paid + 1) s) is ∙ owes-paying (pushed_on w s) s paid last fit.1

  -- the count has the one that is taken from it
  pub pay-within : 0 < count_of w (paid + 1)
  pay-within =
      let count = h.counted (paid + 1) pay-opened in
      let part = sum_below-at (length w.slots) (share_of w (paid + 1)) s fit.0 in
      let some = share-positive (passage_of w (paid + 1) s) (owers (pushed_on w s) (paid + 1) s w.seats) (count_by-at (owes_on (pushed_on w s) (paid + 1) s) w.seats i Away a_seat owing) in
      omega arith

  seat : Seat
  seat = to_pay s (paid + 1) last

  v : State
  v = put_seat (put_count w (paid + 1) (count_of w (paid + 1) - 1)) i seat

  batches_other : (b : ℕ) → 0 < b → b ≢ paid + 1 → batch_at v b ≡ batch_at w b
  unfolding v
  batches_other b positive apart = batch_at-put_other w (paid + 1) b _ (omega arith) positive apart

  batch_here : batch_at v (paid + 1) ≡ record { count = count_of w (paid + 1) - 1; passages = (batch_at w (paid + 1)).passages }
  unfolding v
  batch_here = batch_at-put_same w (paid + 1) (record { count = count_of w (paid + 1) - 1; passages = (batch_at w (paid + 1)).passages }) pay-opened

  passages_kept : (b : ℕ) → 0 < b → (batch_at v b).passages ≡ (batch_at w b).passages
  passages_kept b positive =
      elim (cases_eq b (paid + 1)) [
        | inl e ↦ ap (λ x. (batch_at v x).passages) e ∙ ap (λ (x : Batch). x.passages) batch_here ∙ ap (λ x. (batch_at w x).passages) (sym e)
        | inr apart ↦ ap (λ (x : Batch). x.passages) (batches_other b positive apart)
      ]

  passage_kept : (b t : ℕ) → 0 < b → passage_of v b t ≡ passage_of w b t
  passage_kept b t positive = ap (λ ps. get_or ps t Ahead) (passages_kept b positive)

  opened_in : (b : ℕ) → IsOpened v b → IsOpened w b
  unfolding v
  opened_in b opened = IsOpened-put w (paid + 1) b _ (record { positive = opened.positive; within = opened.within })

  share_other : (b t : ℕ) → 0 < b → (b ≡ paid + 1 → t ≡ s → ⊥) → share_of v b t ≡ share_of w b t
  unfolding v seat
  share_other b t positive apart =
      share-same v w b t (passage_kept b t positive)
      (owers-kept (pushed_on w t) b t w.seats i seat a_seat (owes-paid_other (pushed_on w t) b t s paid last apart ∙ ap (owes_on (pushed_on w t) b t) (sym is)))

  share_here : share_of v (paid + 1) s + 1 ≡ share_of w (paid + 1) s
  unfolding v seat
  share_here =
      let sums = owers-changed (pushed_on w s) (paid + 1) s w.seats i seat a_seat in
      let before = ap bit owing in
      let now = ap bit (owes-paid (pushed_on w s) (paid + 1) s s paid last refl) in
      let passage = ap (λ p. share p (owers (pushed_on w s) (paid + 1) s (set w.seats i seat))) (passage_kept (paid + 1) s (omega arith)) in
      let less = share-less (last_batch w) (pushed_on w s) (length w.seats) (paid + 1) (passage_of w (paid + 1) s) (owers (pushed_on w s) (paid + 1) s (set w.seats i seat)) (owers (pushed_on w s) (paid + 1) s w.seats) (h.passages (paid + 1) s pay-opened fit.0) (let more = fit.1 in let below = fit.2 in omega arith) (omega arith) in
      ap (λ x. x + 1) passage ∙ less

  counted_here : count_of v (paid + 1) ≡ owed_of v (paid + 1)
  unfolding v
  counted_here =
      let sums = owed-changed v w (paid + 1) s refl fit.0 (λ t l apart. share_other (paid + 1) t (omega arith) (λ _. apart)) in
      let count = h.counted (paid + 1) pay-opened in
      let here = ap (λ (x : Batch). x.count) batch_here in
      let less = share_here in let within = pay-within in omega arith

  counted : (b : ℕ) → IsOpened w b → count_of v b ≡ owed_of v b
  unfolding v
  counted b opened =
      elim (cases_eq b (paid + 1)) [
        | inl e ↦ ap (count_of v) e ∙ counted_here ∙ ap (owed_of v) (sym e)
        | inr apart ↦
            ap (λ (x : Batch). x.count) (batches_other b opened.positive apart) ∙ h.counted b opened
            ∙ sym (owed-same v w b refl (λ t l. share_other b t opened.positive (λ same _. apart same)))
      ]

  inside_is : (t : ℕ) → count_by (is_inside t) (set w.seats i seat) ≡ count_by (is_inside t) w.seats
  unfolding seat
  inside_is t =
      let sums = count_by-changed (is_inside t) w.seats i seat Away a_seat in
      let before = ap (λ x. bit (is_inside t x)) is in
      let now = ap bit (to_pay-outside w h t s (paid + 1) last) in omega arith

  seats_fit : (j : ℕ) → j < length w.seats → SeatFits (length w.slots) (pushed_on w) (seat_at v j)
  unfolding v seat
  seats_fit j l =
      elim (cases_eq j i) [
        | inl e ↦ subst (SeatFits (length w.slots) (pushed_on w)) (sym (ap (seat_at v) e ∙ seat_at-put_same w i seat a_seat)) (to_pay-fits w h s (paid + 1) last fit.0 fit.2)
        | inr apart ↦ subst (SeatFits (length w.slots) (pushed_on w)) (sym (seat_at-put_other w i j seat apart)) (h.seats j l)
      ]

  seats_kept : length v.seats ≡ length w.seats
  unfolding v
  seats_kept = length-set w.seats i _

  last_kept : last_batch v ≡ last_batch w
  unfolding v
  last_kept = length-set w.batches _ _

  pub Holds-paid : Holds (paid_by w i (Paying s paid last))
  unfolding v seat
  Holds-paid =
      record {
        sized = IsSized-same (length w.slots) (length w.seats) (length w.slots) (length v.seats) refl seats_kept h.sized;
        lengths = λ b opened. ap length (passages_kept b opened.positive) ∙ h.lengths b (opened_in b opened);
        counted = λ b opened. counted b (opened_in b opened);
        inside = λ t l. h.inside t l ∙ sym (inside_is t);
        seats = λ j l. seats_fit j (let same = seats_kept in omega arith);
        pushed = λ t l. (let below = h.pushed t l in let same = last_kept in omega arith);
        passages = λ b t opened l.
            subst (λ n. PassageFits n (pushed_on w t) (length v.seats) b (passage_of v b t)) (sym last_kept)
            (PassageFits-same (last_batch w) (pushed_on w t) (pushed_on w t) (length w.seats) (length v.seats) b (passage_of v b t) refl seats_kept
            (subst (PassageFits (last_batch w) (pushed_on w t) (length w.seats) b) (sym (passage_kept b t opened.positive)) (h.passages b t (opened_in b opened) l)));
      }

module _ (w : State) (h : Holds w) (i s paid last : ℕ) (is : seat_at w i ≡ Paying s paid last) where
  pub pay-last : last_batch (paid_by w i (Paying s paid last)) ≡ last_batch w
  pay-last = length-set w.batches _ _

  pub pay-count_other : (b : ℕ) → 0 < b → b ≢ paid + 1 → count_of (paid_by w i (Paying s paid last)) b ≡ count_of w b
  pay-count_other b positive apart = count-put_other w (paid + 1) b _ (omega arith) positive apart

pub Holds-pay : (w : State) (h : Holds w) (i : ℕ) → MayStep w (Pay i) → Holds (after w (Pay i))
Holds-pay w h i may = subst Holds (sym (ap (paid_by w i) may.3)) (Holds-paid w h i may.0 may.1 may.2 may.3)
