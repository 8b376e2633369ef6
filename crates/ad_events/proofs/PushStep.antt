-- Pushing a batch on a slot keeps the invariant.
use Rattle.std.proofs.Common.{◌≡◌, ℕ, ◌+◌, ◌-◌, ◌<◌, ◌≤◌, ◌≢◌, length, refl, sym, ap, ap₂, ◌∙◌, subst, inl, inr, arith, length-set}
use Rattle.std.proofs.lemmas.Bool.{cases_eq}
use Rattle.std.proofs.lemmas.List.Sums.{count_by-le-length}
use Rattle.ad_events.specs.Owed.{State, Slot, Passage, Ahead, Pushed, Settled, Seat, Away, Inside, Paying, slot_at, seat_at, inside_of, pushed_on, count_of, passage_of, last_batch, IsOpened, owers, share, share_of, slot_share, is_inside, Push, MayStep, after}
use Rattle.ad_events.specs.OwedInvariant.{SeatFits, PassageFits, Holds}
use Rattle.ad_events.proofs.SeatLemmas.{owers-pushed, owers-pushed_other}
use Rattle.ad_events.proofs.OwedWrites.{IsSized-same, share-same, owed-same, slot_at-put_same, slot_at-put_other, passage-put_same, passage-put_other, count-put_same, count-put_other, IsOpened-put, lengths-put}

-- a seat that fits still fits where no slot's last batch is lower
pub SeatFits-higher : (n : ℕ) (f g : ℕ → ℕ) → ((s : ℕ) → s < n → f s ≤ g s) → (seat : Seat) → SeatFits n f seat → SeatFits n g seat
SeatFits-higher n f g higher Away fits = tt
SeatFits-higher n f g higher (Inside slot entry) fits = (fits.0, (let more = higher slot fits.0 in let low = fits.1 in omega arith))
SeatFits-higher n f g higher (Paying slot paid last) fits = (fits.0, fits.1, (let more = higher slot fits.0 in let low = fits.2 in omega arith))

-- a passage of a batch that isn't the last one is settled, so it fits with a higher last batch too
older : (last seats : ℕ) (p : Passage) (b low high : ℕ) → b ≢ last → low ≤ high → PassageFits last low seats b p → PassageFits last high seats b p
older last seats Ahead b low high apart l fits = absurd (apart fits.0)
older last seats (Pushed found) b low high apart l fits = absurd (apart fits.0)
older last seats Settled b low high apart l fits = omega arith

module _ (w : State) (h : Holds w) (s : ℕ) (may : MayStep w (Push s)) where
  v : State
  v = after w (Push s)

  last_opened : IsOpened w (last_batch w)
  last_opened = record { positive = may.opened; within = omega arith }

  -- the slot is one push behind
  behind : pushed_on w s + 1 ≡ last_batch w
  behind = (subst (PassageFits (last_batch w) (pushed_on w s) (length w.seats) (last_batch w)) may.ahead (h.passages (last_batch w) s last_opened may.slot)).1

  slot_here : slot_at v s ≡ record { inside = inside_of w s; pushed = pushed_on w s + 1 }
  unfolding v
  slot_here = slot_at-put_same w s (record { inside = inside_of w s; pushed = pushed_on w s + 1 }) may.slot

  slot_other : (t : ℕ) → t ≢ s → slot_at v t ≡ slot_at w t
  unfolding v
  slot_other t apart = slot_at-put_other w s t (record { inside = inside_of w s; pushed = pushed_on w s + 1 }) apart

  pushed_here : pushed_on v s ≡ pushed_on w s + 1
  pushed_here = ap (λ (x : Slot). x.pushed) slot_here

  pushed_other : (t : ℕ) → t ≢ s → pushed_on v t ≡ pushed_on w t
  pushed_other t apart = ap (λ (x : Slot). x.pushed) (slot_other t apart)

  inside_kept : (t : ℕ) → inside_of v t ≡ inside_of w t
  inside_kept t =
      elim (cases_eq t s) [
        | inl e ↦ ap (inside_of v) e ∙ ap (λ (x : Slot). x.inside) slot_here ∙ ap (inside_of w) (sym e)
        | inr apart ↦ ap (λ (x : Slot). x.inside) (slot_other t apart)
      ]

  opened_in : (b : ℕ) → IsOpened v b → IsOpened w b
  unfolding v
  opened_in b opened = IsOpened-put w (last_batch w) b _ (record { positive = opened.positive; within = opened.within })

  passage_here : passage_of v (last_batch w) s ≡ Pushed (inside_of w s)
  unfolding v
  passage_here =
      passage-put_same w (last_batch w) (count_of w (last_batch w)) s (Pushed (inside_of w s)) last_opened
      (let lengths = h.lengths (last_batch w) last_opened in let l = may.slot in omega arith)

  passage_other : (b t : ℕ) → IsOpened w b → (b ≡ last_batch w → t ≡ s → ⊥) → passage_of v b t ≡ passage_of w b t
  unfolding v
  passage_other b t opened apart = passage-put_other w (last_batch w) b (count_of w (last_batch w)) s t (Pushed (inside_of w s)) last_opened opened apart

  -- what is owed to the other batches stays
  owers_other : (b t : ℕ) → b ≢ last_batch w → owers (pushed_on v t) b t w.seats ≡ owers (pushed_on w t) b t w.seats
  owers_other b t apart =
      elim (cases_eq t s) [
        | inl e ↦
            let here : pushed_on v t ≡ pushed_on w t + 1 = ap (pushed_on v) e ∙ pushed_here ∙ ap (λ x. pushed_on w x + 1) (sym e) in
            let back = behind in let at = ap (pushed_on w) e in
            ap (λ p. owers p b t w.seats) here ∙ owers-pushed_other (pushed_on w t) b t w.seats (λ same. apart (omega arith))
        | inr other ↦ ap (λ p. owers p b t w.seats) (pushed_other t other)
      ]

  -- on the slot the share was that of a slot ahead, and is that of one with everybody inside owing
  share_here : share_of v (last_batch w) s ≡ share_of w (last_batch w) s
  unfolding v
  share_here =
      let back = behind in
      let found = h.inside s may.slot in
      let many = count_by-le-length (is_inside s) w.seats in
      let few = h.sized.few_seats in
      let owing : owers (pushed_on v s) (last_batch w) s w.seats ≡ inside_of w s =
      ap (λ p. owers p (last_batch w) s w.seats) pushed_here ∙ owers-pushed (length w.slots) (pushed_on w) w.seats h.seats (last_batch w) s (sym back) ∙ sym found in
      let new : share_of v (last_batch w) s ≡ slot_share - inside_of w s + inside_of w s = ap₂ share passage_here owing in
      let old : share_of w (last_batch w) s ≡ slot_share = ap (λ p. share p (owers (pushed_on w s) (last_batch w) s w.seats)) may.ahead in
      omega arith

  shares : (b t : ℕ) → IsOpened w b → t < length w.slots → share_of v b t ≡ share_of w b t
  unfolding v
  shares b t opened l =
      elim (cases_eq b (last_batch w)) [
        | inl e ↦
            elim (cases_eq t s) [
              | inl same ↦ ap₂ (share_of v) e same ∙ share_here ∙ sym (ap₂ (share_of w) e same)
              | inr other ↦
                  share-same v w b t (passage_other b t opened (λ _. other)) (ap (λ p. owers p b t w.seats) (pushed_other t other))
            ]
        | inr apart ↦ share-same v w b t (passage_other b t opened (λ same _. apart same)) (owers_other b t apart)
      ]

  count_kept : (b : ℕ) → IsOpened w b → count_of v b ≡ count_of w b
  unfolding v
  count_kept b opened =
      elim (cases_eq b (last_batch w)) [
        | inl e ↦ ap (count_of v) e ∙ count-put_same w (last_batch w) (count_of w (last_batch w)) _ last_opened ∙ ap (count_of w) (sym e)
        | inr apart ↦ count-put_other w (last_batch w) b _ may.opened opened.positive apart
      ]

  slots_kept : length v.slots ≡ length w.slots
  unfolding v
  slots_kept = length-set w.slots s _

  last_kept : last_batch v ≡ last_batch w
  unfolding v
  last_kept = length-set w.batches _ _

  higher : (t : ℕ) → pushed_on w t ≤ pushed_on v t
  higher t =
      elim (cases_eq t s) [
        | inl e ↦ let here = pushed_here in let new = ap (pushed_on v) e in let old = ap (pushed_on w) e in omega arith
        | inr apart ↦ let same = pushed_other t apart in omega arith
      ]

  most : (t : ℕ) → t < length w.slots → pushed_on v t ≤ last_batch w
  most t l =
      elim (cases_eq t s) [
        | inl e ↦ let here = pushed_here in let new = ap (pushed_on v) e in let back = behind in omega arith
        | inr apart ↦ let same = pushed_other t apart in let old = h.pushed t l in omega arith
      ]

  -- a passage fits with a higher last batch, but for one that is ahead or pushed on this slot
  fits : (b t : ℕ) → IsOpened w b → t < length w.slots → PassageFits (last_batch w) (pushed_on v t) (length w.seats) b (passage_of v b t)
  fits b t opened l =
      elim (cases_eq t s) [
        | inl e ↦
            let here : pushed_on v t ≡ pushed_on w s + 1 = ap (pushed_on v) e ∙ pushed_here in
            let back = behind in
            elim (cases_eq b (last_batch w)) [
              | inl last ↦
                  let found = h.inside s may.slot in
                  let many = count_by-le-length (is_inside s) w.seats in
                  let new : (b ≡ last_batch w) × (pushed_on v t ≡ b) × (inside_of w s ≤ length w.seats) = (last, omega arith, omega arith) in
                  subst (PassageFits (last_batch w) (pushed_on v t) (length w.seats) b) (sym (ap₂ (passage_of v) last e ∙ passage_here)) new
              | inr apart ↦
                  let old = h.passages b t opened l in
                  subst (PassageFits (last_batch w) (pushed_on v t) (length w.seats) b) (sym (passage_other b t opened (λ same _. apart same)))
                  (older (last_batch w) (length w.seats) (passage_of w b t) b (pushed_on w t) (pushed_on v t) apart (higher t) old)
            ]
        | inr other ↦
            subst (λ p. PassageFits (last_batch w) p (length w.seats) b (passage_of v b t)) (sym (pushed_other t other))
            (subst (PassageFits (last_batch w) (pushed_on w t) (length w.seats) b) (sym (passage_other b t opened (λ _. other))) (h.passages b t opened l))
      ]

  pub Holds-push : Holds (after w (Push s))
  unfolding v
  Holds-push =
      record {
        sized = IsSized-same (length w.slots) (length w.seats) (length v.slots) (length w.seats) slots_kept refl h.sized;
        lengths = λ b opened. lengths-put w (last_batch w) b _ s _ last_opened (opened_in b opened) ∙ h.lengths b (opened_in b opened) ∙ sym slots_kept;
        counted = λ b opened. count_kept b (opened_in b opened) ∙ h.counted b (opened_in b opened) ∙ sym (owed-same v w b slots_kept (λ t l. shares b t (opened_in b opened) l));
        inside = λ t l. inside_kept t ∙ h.inside t (let same = slots_kept in omega arith);
        seats = λ i l. subst (λ n. SeatFits n (pushed_on v) (seat_at w i)) (sym slots_kept) (SeatFits-higher (length w.slots) (pushed_on w) (pushed_on v) (λ t _. higher t) (seat_at w i) (h.seats i l));
        pushed = λ t l. (let below = most t (let same = slots_kept in omega arith) in let last = last_kept in omega arith);
        passages = λ b t opened l. subst (λ n. PassageFits n (pushed_on v t) (length w.seats) b (passage_of v b t)) (sym last_kept) (fits b t (opened_in b opened) (let same = slots_kept in omega arith));
      }

  pub push-last : last_batch (after w (Push s)) ≡ last_batch w
  unfolding v
  push-last = last_kept

  pub push-count : (b : ℕ) → IsOpened w b → count_of (after w (Push s)) b ≡ count_of w b
  unfolding v
  push-count b opened = count_kept b opened
