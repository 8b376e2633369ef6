-- Opening a batch keeps the invariant.
use Rattle.std.proofs.Common.{◌≡◌, ℕ, ◌+◌, ◌-◌, ◌*◌, ◌<◌, ◌⊎◌, [], ◌∷◌, length, get_or, refl, sym, ap, ◌∙◌, subst, inl, inr, arith, length-append}
use Rattle.std.proofs.lemmas.Bool.{cases_eq}
use Rattle.std.proofs.lemmas.List.{get_or_append_left, get_or-replicate, length-replicate}
use Rattle.std.proofs.Math.Seq.{get_or-append_seam}
use Rattle.std.specs.Prelude.{replicate}
use Rattle.ad_events.specs.Owed.{State, Batch, Passage, Ahead, batch_at, pushed_on, count_of, passage_of, last_batch, IsOpened, share_of, owed_of, owers, share, slot_share, IsIdle, Open, after}
use Rattle.ad_events.specs.OwedInvariant.{PassageFits, Holds}
use Rattle.ad_events.proofs.SumLemmas.{sum_below-const}
use Rattle.ad_events.proofs.OwedWrites.{share-same, owed-same}

module _ (w : State) (h : Holds w) (idle : IsIdle w) where
  new : Batch
  new = record { count = length w.slots * slot_share; passages = replicate (length w.slots) Ahead }

  last_is : last_batch (after w Open) ≡ last_batch w + 1
  last_is = length-append w.batches (record { count = length w.slots * slot_share; passages = replicate (length w.slots) Ahead } ∷ [])

  -- the batches opened before stay
  before : (b : ℕ) → IsOpened w b → batch_at (after w Open) b ≡ batch_at w b
  before b opened = get_or_append_left w.batches _ _ (b - 1) (omega arith)

  -- the new one stands at the end
  here : batch_at (after w Open) (last_batch w + 1) ≡ record { count = length w.slots * slot_share; passages = replicate (length w.slots) Ahead }
  here =
      let place : (length w.batches + 1) - 1 ≡ length w.batches = omega arith in
      ap (λ i. get_or (after w Open).batches i (record { count = 0; passages = [] })) place ∙ get_or-append_seam w.batches _ [] _

  -- a batch is the new one or an older one
  cases : (b : ℕ) → IsOpened (after w Open) b → IsOpened w b ⊎ (b ≡ last_batch w + 1)
  cases b opened =
      elim (cases_eq b (last_batch w + 1)) [
        | inl e ↦ inr e
        | inr apart ↦ inl (record { positive = opened.positive; within = (let last = last_is in let within = opened.within in omega arith) })
      ]

  here_ahead : (b s : ℕ) → b ≡ last_batch w + 1 → s < length w.slots → passage_of (after w Open) b s ≡ Ahead
  here_ahead b s e l = ap (λ x. passage_of (after w Open) x s) e ∙ ap (λ (x : Batch). get_or x.passages s Ahead) here ∙ get_or-replicate (length w.slots) s Ahead Ahead l

  -- each slot has the last batch, since that one is settled there
  caught_up : (s : ℕ) → s < length w.slots → pushed_on w s ≡ last_batch w
  caught_up s l =
      elim (cases_eq (last_batch w) 0) [
        | inl e ↦ let most = h.pushed s l in omega arith
        | inr apart ↦
            let opened : IsOpened w (last_batch w) = record { positive = omega arith; within = omega arith } in
            let settled = idle (last_batch w) opened s l in
            let fits = subst (PassageFits (last_batch w) (pushed_on w s) (length w.seats) (last_batch w)) settled (h.passages (last_batch w) s opened l) in
            let most = h.pushed s l in omega arith
      ]

  open-lengths : (b : ℕ) → IsOpened (after w Open) b → length (batch_at (after w Open) b).passages ≡ length w.slots
  open-lengths b opened =
      elim (cases b opened) [
        | inl old ↦ ap (λ (x : Batch). length x.passages) (before b old) ∙ h.lengths b old
        | inr e ↦ ap (λ x. length (batch_at (after w Open) x).passages) e ∙ ap (λ (x : Batch). length x.passages) here ∙ length-replicate (length w.slots) Ahead
      ]

  open-counted : (b : ℕ) → IsOpened (after w Open) b → count_of (after w Open) b ≡ owed_of (after w Open) b
  open-counted b opened =
      elim (cases b opened) [
        | inl old ↦
            ap (λ (x : Batch). x.count) (before b old) ∙ h.counted b old
            ∙ sym (owed-same (after w Open) w b refl (λ s l. share-same (after w Open) w b s (ap (λ (x : Batch). get_or x.passages s Ahead) (before b old)) refl))
        | inr e ↦
            ap (λ x. count_of (after w Open) x) e ∙ ap (λ (x : Batch). x.count) here
            ∙ sym (sum_below-const (length w.slots) (share_of (after w Open) b) slot_share (λ s l. ap (λ p. share p (owers (pushed_on w s) b s w.seats)) (here_ahead b s e l)))
      ]

  open-passages : (b s : ℕ) → IsOpened (after w Open) b → s < length w.slots → PassageFits (last_batch (after w Open)) (pushed_on w s) (length w.seats) b (passage_of (after w Open) b s)
  open-passages b s opened l =
      let Fits : Passage → Type 0 = PassageFits (last_batch (after w Open)) (pushed_on w s) (length w.seats) b in
      elim (cases b opened) [
        | inl old ↦
            let settled = idle b old s l in
            let same = ap (λ (x : Batch). get_or x.passages s Ahead) (before b old) in
            let fits = subst (PassageFits (last_batch w) (pushed_on w s) (length w.seats) b) settled (h.passages b s old l) in
            subst Fits (sym (same ∙ settled)) fits
        | inr e ↦
            let caught = caught_up s l in
            let last = last_is in
            let ahead : (b ≡ last_batch (after w Open)) × (pushed_on w s + 1 ≡ b) = (omega arith, omega arith) in
            subst Fits (sym (here_ahead b s e l)) ahead
      ]

  pub Holds-open : Holds (after w Open)
  Holds-open =
      record {
        sized = h.sized;
        lengths = open-lengths;
        counted = open-counted;
        inside = h.inside;
        seats = h.seats;
        pushed = λ s l. (let last = last_is in let most = h.pushed s l in omega arith);
        passages = open-passages;
      }

  -- reading after it
  pub open-last : last_batch (after w Open) ≡ last_batch w + 1
  open-last = last_is

  pub open-count : (b : ℕ) → IsOpened w b → count_of (after w Open) b ≡ count_of w b
  open-count b opened = ap (λ (x : Batch). x.count) (before b opened)

  pub open-batch : (b : ℕ) → IsOpened w b → batch_at (after w Open) b ≡ batch_at w b
  open-batch b opened = before b opened

  pub open-ahead : (b s : ℕ) → b ≡ last_batch w + 1 → s < length w.slots → passage_of (after w Open) b s ≡ Ahead
  open-ahead b s e l = here_ahead b s e l

  pub open-count_new : count_of (after w Open) (last_batch w + 1) ≡ length w.slots * slot_share
  open-count_new = ap (λ (x : Batch). x.count) here
