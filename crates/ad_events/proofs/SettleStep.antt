-- Settling a slot keeps the invariant, and takes from the count no more than it has.
use Rattle.std.proofs.Common.{◌≡◌, ℕ, ◌+◌, ◌-◌, ◌<◌, ◌≤◌, ◌≢◌, length, refl, sym, ap, ap₂, ◌∙◌, subst, inl, inr, arith, length-set}
use Rattle.std.proofs.lemmas.Bool.{cases_eq}
use Rattle.ad_events.specs.Owed.{State, Passage, Pushed, Settled, pushed_on, count_of, passage_of, last_batch, IsOpened, owers, share, share_of, owed_of, slot_share, found_by, Settle, MayStep, after}
use Rattle.ad_events.specs.OwedInvariant.{PassageFits, Holds}
use Rattle.ad_events.proofs.SumLemmas.{sum_below-at}
use Rattle.ad_events.proofs.OwedWrites.{share-same, owed-same, owed-changed, passage-put_same, passage-put_other, count-put_same, count-put_other, IsOpened-put, lengths-put}

-- what a pushed passage that fits says
pub found-fits : (last pushed seats b found : ℕ) (p : Passage) → p ≡ Pushed found → PassageFits last pushed seats b p → (p ≡ Pushed (found_by p)) × (pushed ≡ b) × (found_by p ≤ seats)
found-fits last pushed seats b found p is fits =
    let at = subst (PassageFits last pushed seats b) is fits in
    let same = ap found_by is in
    (is ∙ ap (λ n. Pushed n) (sym same), at.1, let low = at.2 in omega arith)

module _ (w : State) (h : Holds w) (s : ℕ) (may : MayStep w (Settle s)) where
  v : State
  v = after w (Settle s)

  abbrev found : ℕ
  found = found_by (passage_of w (last_batch w) s)

  last_opened : IsOpened w (last_batch w)
  last_opened = record { positive = may.opened; within = omega arith }

  was : (passage_of w (last_batch w) s ≡ Pushed found) × (pushed_on w s ≡ last_batch w) × (found ≤ length w.seats)
  was = found-fits (last_batch w) (pushed_on w s) (length w.seats) (last_batch w) may.pushed.0 (passage_of w (last_batch w) s) may.pushed.1 (h.passages (last_batch w) s last_opened may.slot)

  share_old : share_of w (last_batch w) s ≡ slot_share - found + owers (pushed_on w s) (last_batch w) s w.seats
  share_old = ap (λ p. share p (owers (pushed_on w s) (last_batch w) s w.seats)) was.0

  -- the count has what is taken from it
  pub settle-within : slot_share - found ≤ count_of w (last_batch w)
  settle-within =
      let count = h.counted (last_batch w) last_opened in
      let part = sum_below-at (length w.slots) (share_of w (last_batch w)) s may.slot in
      let old = share_old in omega arith

  opened_in : (b : ℕ) → IsOpened v b → IsOpened w b
  unfolding v
  opened_in b opened = IsOpened-put w (last_batch w) b _ (record { positive = opened.positive; within = opened.within })

  passage_here : passage_of v (last_batch w) s ≡ Settled
  unfolding v
  passage_here = passage-put_same w (last_batch w) _ s Settled last_opened (let lengths = h.lengths (last_batch w) last_opened in let l = may.slot in omega arith)

  passage_other : (b t : ℕ) → IsOpened w b → (b ≡ last_batch w → t ≡ s → ⊥) → passage_of v b t ≡ passage_of w b t
  unfolding v
  passage_other b t opened apart = passage-put_other w (last_batch w) b _ s t Settled last_opened opened apart

  count_here : count_of v (last_batch w) ≡ count_of w (last_batch w) - (slot_share - found)
  unfolding v
  count_here = count-put_same w (last_batch w) _ _ last_opened

  count_other : (b : ℕ) → 0 < b → b ≢ last_batch w → count_of v b ≡ count_of w b
  unfolding v
  count_other b positive apart = count-put_other w (last_batch w) b _ may.opened positive apart

  share_new : share_of v (last_batch w) s ≡ owers (pushed_on w s) (last_batch w) s w.seats
  unfolding v
  share_new = ap (λ p. share p (owers (pushed_on w s) (last_batch w) s w.seats)) passage_here

  share_other : (b t : ℕ) → IsOpened w b → (b ≡ last_batch w → t ≡ s → ⊥) → share_of v b t ≡ share_of w b t
  unfolding v
  share_other b t opened apart = share-same v w b t (passage_other b t opened apart) refl

  last_kept : last_batch v ≡ last_batch w
  unfolding v
  last_kept = length-set w.batches _ _

  counted_last : count_of v (last_batch w) ≡ owed_of v (last_batch w)
  unfolding v
  counted_last =
      let sums = owed-changed v w (last_batch w) s refl may.slot (λ t l apart. share_other (last_batch w) t last_opened (λ _. apart)) in
      let count = h.counted (last_batch w) last_opened in
      let here = count_here in let old = share_old in let new = share_new in let within = settle-within in omega arith

  counted : (b : ℕ) → IsOpened w b → count_of v b ≡ owed_of v b
  unfolding v
  counted b opened =
      elim (cases_eq b (last_batch w)) [
        | inl e ↦ ap (count_of v) e ∙ counted_last ∙ ap (owed_of v) (sym e)
        | inr apart ↦ count_other b opened.positive apart ∙ h.counted b opened ∙ sym (owed-same v w b refl (λ t l. share_other b t opened (λ same _. apart same)))
      ]

  fits : (b t : ℕ) → IsOpened w b → t < length w.slots → PassageFits (last_batch w) (pushed_on w t) (length w.seats) b (passage_of v b t)
  fits b t opened l =
      let Fits : Passage → Type 0 = PassageFits (last_batch w) (pushed_on w t) (length w.seats) b in
      elim (cases_eq b (last_batch w)) [
        | inl e ↦
            elim (cases_eq t s) [
              | inl same ↦
                  let settled : b ≤ pushed_on w t = (let at = ap (pushed_on w) same in let last = was.1 in omega arith) in
                  subst Fits (sym (ap₂ (passage_of v) e same ∙ passage_here)) settled
              | inr other ↦ subst Fits (sym (passage_other b t opened (λ _. other))) (h.passages b t opened l)
            ]
        | inr apart ↦ subst Fits (sym (passage_other b t opened (λ same _. apart same))) (h.passages b t opened l)
      ]

  pub Holds-settle : Holds (after w (Settle s))
  unfolding v
  Holds-settle =
      record {
        sized = h.sized;
        lengths = λ b opened. lengths-put w (last_batch w) b _ s _ last_opened (opened_in b opened) ∙ h.lengths b (opened_in b opened);
        counted = λ b opened. counted b (opened_in b opened);
        inside = h.inside;
        seats = h.seats;
        pushed = λ t l. (let below = h.pushed t l in let last = last_kept in omega arith);
        passages = λ b t opened l. subst (λ n. PassageFits n (pushed_on w t) (length w.seats) b (passage_of v b t)) (sym last_kept) (fits b t (opened_in b opened) l);
      }

  pub settle-last : last_batch (after w (Settle s)) ≡ last_batch w
  unfolding v
  settle-last = last_kept

  pub settle-count_other : (b : ℕ) → 0 < b → b ≢ last_batch w → count_of (after w (Settle s)) b ≡ count_of w b
  unfolding v
  settle-count_other b positive apart = count_other b positive apart

  pub settle-positive : 0 < count_of w (last_batch w)
  settle-positive = let within = settle-within in let few = h.sized.few_seats in let low = was.2 in omega arith
