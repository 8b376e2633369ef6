-- The laws of what a seat owes follow from the invariant.
use Rattle.std.proofs.Common.{◌≡◌, ℕ, ◌+◌, ◌-◌, ◌^◌, ◌<◌, ◌≤◌, ◌≢◌, true, false, ◌&&◌, ltb, leb, List, length, refl, sym, ap, ◌∙◌, subst, inl, inr, arith, eq-eqb, true≢false}
use Rattle.std.proofs.lemmas.Bool.{cases_eq, cases_lt, cases_Bool}
use Rattle.std.proofs.lemmas.Bool.Decides.{nat_tests}
use Rattle.std.proofs.lemmas.List.Sums.{count_by-le-length}
use Rattle.ad_events.specs.Owed.{State, Passage, Ahead, Pushed, Settled, Seat, Away, Inside, Paying, Step, Open, Push, Settle, Enter, Leave, Pay, seat_at, inside_of, pushed_on, count_of, passage_of, last_batch, IsOpened, owes, owes_on, owers, share, share_of, slot_share, is_inside, is_passed, slot_of, SettledEverywhere, WaitsFor, due_of, owed_opening, owed_run, MayRun}
use Rattle.ad_events.specs.OwedInvariant.{IsSized, SeatFits, PassageFits, Holds}
use Rattle.ad_events.specs.OwedLaws.{NothingBelowZero, WordsFit, NobodyOwes, ZeroIsDone, SlotsTell, InsideIsCounted, QuietIsZero}
use Rattle.ad_events.proofs.SumLemmas.{sum_below-at, sum_below-const, sum_below-le, count_by-at, count_by-none}
use Rattle.ad_events.proofs.OwedWrites.{seat-within, inside-within}
use Rattle.ad_events.proofs.SettleStep.{settle-within, found-fits}
use Rattle.ad_events.proofs.SeatSteps.{leave-within}
use Rattle.ad_events.proofs.PayStep.{pay-within}
use Rattle.ad_events.proofs.OwedRuns.{Holds-run, Holds-opening}

-- what holds wherever the invariant does holds after every run
pub after_every_run : (Law : State → Type 0) → ((w : State) → Holds w → Law w) → (slots seats : ℕ) (steps : List Step) → IsSized slots seats → MayRun (owed_opening slots seats) steps → Law (owed_run (owed_opening slots seats) steps)
after_every_run Law law slots seats steps sized may =
    law _ (Holds-run (owed_opening slots seats) (Holds-opening slots seats sized) steps may)

-- ---- nothing goes below zero

pub nothing_below_zero : (w : State) → Holds w → NothingBelowZero w
nothing_below_zero w h Open may = tt
nothing_below_zero w h (Push s) may = tt
nothing_below_zero w h (Settle s) may =
    let opened : IsOpened w (last_batch w) = record { positive = may.opened; within = omega arith } in
    let was = found-fits (last_batch w) (pushed_on w s) (length w.seats) (last_batch w) may.pushed.0 (passage_of w (last_batch w) s) may.pushed.1 (h.passages (last_batch w) s opened may.slot) in
    ((let few = h.sized.few_seats in let low = was.2 in omega arith), settle-within w h s may)
nothing_below_zero w h (Enter i s) may = tt
nothing_below_zero w h (Leave i) may = subst (λ seat. 0 < inside_of w (slot_of seat)) (sym may.2) (leave-within w h i may.0 may.1 may.2)
nothing_below_zero w h (Pay i) may = subst (λ seat. 0 < count_of w (due_of seat)) (sym may.3) (pay-within w h i may.0 may.1 may.2 may.3)

-- ---- no sum reaches 2 ^ 64

share-most : (p : Passage) (owing : ℕ) → share p owing ≤ slot_share + owing
share-most Ahead owing = omega arith
share-most (Pushed found) owing = omega arith
share-most Settled owing = omega arith

pub words_fit : (w : State) → Holds w → WordsFit w
words_fit w h =
    let inside_few : (s : ℕ) → s < length w.slots → inside_of w s < 2 ^ 32 = λ s l. (let number = h.inside s l in let most = count_by-le-length (is_inside s) w.seats in let few = h.sized.few_seats in omega arith) in
    record {
      counts = λ b opened.
          (let count = h.counted b opened in
          let most = sum_below-le (length w.slots) (share_of w b) (2 ^ 33 - 1) (λ s l. (let part = share-most (passage_of w b s) (owers (pushed_on w s) b s w.seats) in let number = count_by-le-length (owes_on (pushed_on w s) b s) w.seats in let few = h.sized.few_seats in omega arith)) in
          let few_slots = h.sized.few_slots in omega arith);
      inside = inside_few;
      words = λ batches s l. (let low = inside_few s l in let high = h.pushed s l in omega arith);
    }

-- ---- zero is done

-- a seat owes on its own slot what it owes, and nothing elsewhere
owes_nowhere : (w : State) (b : ℕ) (seat : Seat) → owes w b seat ≡ false → (s : ℕ) → owes_on (pushed_on w s) b s seat ≡ false
owes_nowhere w b Away none s = refl
owes_nowhere w b (Inside slot entry) none s =
    elim (cases_eq slot s) [ inl e ↦ ap (λ x. owes_on (pushed_on w x) b x (Inside slot entry)) (sym e) ∙ none | inr apart ↦ grind (arith, nat_tests) ]
owes_nowhere w b (Paying slot paid last) none s =
    elim (cases_eq slot s) [ inl e ↦ ap (λ x. owes_on (pushed_on w x) b x (Paying slot paid last)) (sym e) ∙ none | inr apart ↦ grind (arith, nat_tests) ]

owes_on_a_slot : (n : ℕ) (f : ℕ → ℕ) (w : State) (b : ℕ) (seat : Seat) → SeatFits n f seat → owes w b seat ≡ true → slot_of seat < n
owes_on_a_slot n f w b Away fits owing = absurd (true≢false (sym owing))
owes_on_a_slot n f w b (Inside slot entry) fits owing = fits.0
owes_on_a_slot n f w b (Paying slot paid last) fits owing = fits.0

-- a slot adds nothing only where it is settled and nobody owes
share-zero : (last pushed seats b : ℕ) (p : Passage) (owing : ℕ) → seats < slot_share → PassageFits last pushed seats b p → share p owing ≡ 0 → (p ≡ Settled) × (owing ≡ 0)
share-zero last pushed seats b Ahead owing few fits e = absurd (omega arith)
share-zero last pushed seats b (Pushed found) owing few fits e = absurd (let low = fits.2 in omega arith)
share-zero last pushed seats b Settled owing few fits e = (refl, e)

module _ (w : State) (h : Holds w) (b : ℕ) (opened : IsOpened w b) where
  zero_shares : count_of w b ≡ 0 → (s : ℕ) → s < length w.slots → (passage_of w b s ≡ Settled) × (owers (pushed_on w s) b s w.seats ≡ 0)
  zero_shares zero s l =
      let count = h.counted b opened in
      let part = sum_below-at (length w.slots) (share_of w b) s l in
      share-zero (last_batch w) (pushed_on w s) (length w.seats) b (passage_of w b s) (owers (pushed_on w s) b s w.seats) h.sized.few_seats (h.passages b s opened l) (omega arith)

  -- nobody owes a batch of count zero
  pub zero_owes : count_of w b ≡ 0 → NobodyOwes w b
  zero_owes zero i =
      elim (cases_Bool (owes w b (seat_at w i))) [
        | inl owing ↦
            let l = seat-within w i (λ away. true≢false (sym owing ∙ ap (owes w b) away)) in
            let slot = owes_on_a_slot (length w.slots) (pushed_on w) w b (seat_at w i) (h.seats i l) owing in
            let none = (zero_shares zero (slot_of (seat_at w i)) slot).1 in
            let some = count_by-at (owes_on (pushed_on w (slot_of (seat_at w i))) b (slot_of (seat_at w i))) w.seats i Away l owing in
            absurd (omega arith)
        | inr none ↦ none
      ]

  -- a batch that is settled everywhere and that nobody owes has count zero
  pub done_zero : SettledEverywhere w b → NobodyOwes w b → count_of w b ≡ 0
  done_zero settled nobody =
      let count = h.counted b opened in
      let each : (s : ℕ) → s < length w.slots → share_of w b s ≡ 0 =
      λ s l. ap (λ p. share p (owers (pushed_on w s) b s w.seats)) (settled s l) ∙ count_by-none (owes_on (pushed_on w s) b s) Away w.seats (λ i m. owes_nowhere w b (seat_at w i) (nobody i) s) in
      let none = sum_below-const (length w.slots) (share_of w b) 0 each in omega arith

pub zero_is_done : (w : State) → Holds w → ZeroIsDone w
zero_is_done w h b opened = (λ zero. ((λ s l. (zero_shares w h b opened zero s l).0), zero_owes w h b opened zero), λ done. done_zero w h b opened done.0 done.1)

-- ---- slots tell

passed_below : (last pushed seats b : ℕ) (p : Passage) → PassageFits last pushed seats b p → is_passed p ≡ true → b ≤ pushed
passed_below last pushed seats b Ahead fits passed = absurd (true≢false (sym passed))
passed_below last pushed seats b (Pushed found) fits passed = (let same = fits.1 in omega arith)
passed_below last pushed seats b Settled fits passed = fits

below_passed : (last pushed seats b : ℕ) (p : Passage) → PassageFits last pushed seats b p → b ≤ pushed → is_passed p ≡ true
below_passed last pushed seats b Ahead fits below = absurd (let next = fits.1 in omega arith)
below_passed last pushed seats b (Pushed found) fits below = refl
below_passed last pushed seats b Settled fits below = refl

pub slots_tell : (w : State) → Holds w → SlotsTell w
slots_tell w h =
    record {
      inside = h.inside;
      passed = λ b s opened l.
          (let fits = h.passages b s opened l in
          (passed_below (last_batch w) (pushed_on w s) (length w.seats) b (passage_of w b s) fits, below_passed (last_batch w) (pushed_on w s) (length w.seats) b (passage_of w b s) fits));
    }

-- ---- who is inside is counted

-- a batch that hasn't passed a slot is ahead of it
ahead_of : (last pushed seats b : ℕ) (p : Passage) → PassageFits last pushed seats b p → pushed < b → p ≡ Ahead
ahead_of last pushed seats b Ahead fits behind = refl
ahead_of last pushed seats b (Pushed found) fits behind = absurd (let same = fits.1 in omega arith)
ahead_of last pushed seats b Settled fits behind = absurd (omega arith)

inside_owes : (w : State) (b s entry : ℕ) → entry < b → b ≤ pushed_on w s → owes w b (Inside s entry) ≡ true
inside_owes w b s entry l below = ap (λ x. x && (ltb entry b && leb b (pushed_on w s))) (eq-eqb s s refl) ∙ grind (arith, nat_tests)

owes_inside : (w : State) (b s entry : ℕ) → owes w b (Inside s entry) ≡ true → entry < b
owes_inside w b s entry owing = grind (arith, nat_tests)

module _ (w : State) (h : Holds w) (i s entry b : ℕ) (is : seat_at w i ≡ Inside s entry) (positive : 0 < b) where
  seat_fits : (s < length w.slots) × (entry ≤ pushed_on w s)
  seat_fits = subst (SeatFits (length w.slots) (pushed_on w)) is (h.seats i (inside-within w i s entry is))

  -- a batch waits for a seat inside exactly where the seat's entry number is below it
  pub waits-entry : WaitsFor w b i → entry < b
  waits-entry waits =
      let fits = seat_fits in
      elim (cases_lt (last_batch w) b) [
        | inl unopened ↦ let most = h.pushed s fits.0 in let low = fits.1 in omega arith
        | inr within ↦
            let opened : IsOpened w b = record { positive = positive; within = within } in
            elim waits [
              | inl never ↦ absurd (never opened)
              | inr rest ↦
                  elim rest [
                    | inl ahead ↦
                        let here = ap (λ x. passage_of w b (slot_of x)) (sym is) ∙ ahead in
                        let at = subst (PassageFits (last_batch w) (pushed_on w s) (length w.seats) b) here (h.passages b s opened fits.0) in
                        let next = at.1 in let low = fits.1 in omega arith
                    | inr owing ↦ owes_inside w b s entry (ap (owes w b) (sym is) ∙ owing)
                  ]
            ]
      ]

  pub entry-waits : entry < b → WaitsFor w b i
  entry-waits early =
      let fits = seat_fits in
      elim (cases_lt (last_batch w) b) [
        | inl unopened ↦ inl (λ opened. let within = opened.within in absurd (omega arith))
        | inr within ↦
            let opened : IsOpened w b = record { positive = positive; within = within } in
            inr (elim (cases_lt (pushed_on w s) b) [
              | inl behind ↦ inl (ap (λ x. passage_of w b (slot_of x)) is ∙ ahead_of (last_batch w) (pushed_on w s) (length w.seats) b (passage_of w b s) (h.passages b s opened fits.0) behind)
              | inr passed ↦ inr (ap (owes w b) is ∙ inside_owes w b s entry early passed)
            ])
      ]

  -- and as long as it waits, its count isn't zero
  pub waits-positive : IsOpened w b → WaitsFor w b i → count_of w b ≢ 0
  waits-positive opened waits zero =
      let fits = seat_fits in
      elim waits [
        | inl never ↦ never opened
        | inr rest ↦
            elim rest [
              | inl ahead ↦
                  let settled = (zero_shares w h b opened zero s fits.0).0 in
                  let at = ap (λ x. passage_of w b (slot_of x)) is in
                  true≢false (sym (ap is_passed (sym ahead ∙ at ∙ settled)))
              | inr owing ↦ true≢false (sym owing ∙ zero_owes w h b opened zero i)
            ]
      ]

pub inside_is_counted : (w : State) → Holds w → InsideIsCounted w
inside_is_counted w h i s entry b is positive = ((waits-entry w h i s entry b is positive, entry-waits w h i s entry b is positive), waits-positive w h i s entry b is positive)

-- ---- a quiet table owes nothing

pub quiet_is_zero : (w : State) → Holds w → QuietIsZero w
quiet_is_zero w h away idle b opened = done_zero w h b opened (idle b opened) (λ i. ap (owes w b) (away i))
