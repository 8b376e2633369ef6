-- The count of a batch becomes zero in one step, and stays zero.
use Rattle.std.proofs.Common.{◌≡◌, ◌≢◌, ℕ, ◌+◌, ◌*◌, ◌<◌, ◌≤◌, false, ◌&&◌, eqb, leb, List, [], ◌∷◌, length, refl, sym, ap, ◌∙◌, subst, inl, inr, arith, ne_eqb}
use Rattle.std.proofs.lemmas.Bool.{cases_eq, cases_lt}
use Rattle.std.proofs.lemmas.Bool.Decides.{nat_tests}
use Rattle.ad_events.specs.Sums.{bit}
use Rattle.ad_events.specs.Owed.{State, Paying, Step, Open, Push, Settle, Enter, Leave, Pay, seat_at, count_of, last_batch, slot_share, MayStep, takes_from, due_of, answer, after, paid_by, left, owed_opening, owed_run, MayRun}
use Rattle.ad_events.specs.OwedInvariant.{IsSized, Holds}
use Rattle.ad_events.specs.OwedLaws.{answers_zero, zeros, OneZero, NoZero, TakesToZero, ZeroStays}
use Rattle.ad_events.proofs.OpenStep.{open-last, open-count, open-count_new}
use Rattle.ad_events.proofs.PushStep.{push-last, push-count}
use Rattle.ad_events.proofs.SettleStep.{settle-last, settle-count_other, settle-positive}
use Rattle.ad_events.proofs.PayStep.{pay-opened, pay-within, pay-last, pay-count_other}
use Rattle.ad_events.proofs.OwedRuns.{Holds-step, Holds-opening}

-- 1 where the last batch has number `last`, batch b is opened and its count is zero, else 0
abbrev zero_now : ℕ → ℕ → ℕ → ℕ
zero_now last b count = bit (leb b last && eqb count 0)

-- nothing changes where the count stays
kept : (last b new old : ℕ) → (b ≤ last → new ≡ old) → zero_now last b old ≡ zero_now last b new
kept last b new old same =
    elim (cases_lt last b) [
      | inl behind ↦ grind (arith, nat_tests)
      | inr within ↦ let e = same (omega arith) in ap (zero_now last b) (sym e)
    ]

-- a step that takes from the count of batch c, which isn't zero, and leaves `rest` there
taken_here : (last b c new old rest : ℕ) → b ≡ c → c ≤ last → 0 < old → rest ≡ new → bit (eqb c b && eqb rest 0) + zero_now last b old ≡ zero_now last b new
taken_here last b c new old rest e within some same = grind (arith, nat_tests)

-- and what it means for another batch
taken_other : (last b c new old rest : ℕ) → b ≢ c → (b ≤ last → new ≡ old) → bit (eqb c b && eqb rest 0) + zero_now last b old ≡ zero_now last b new
taken_other last b c new old rest apart same =
    let keep = kept last b new old same in
    let none : eqb c b ≡ false = ne_eqb c b (λ e. apart (sym e)) in
    let no = ap (λ x. bit (x && eqb rest 0)) none in omega arith

-- a new batch has a count that isn't zero
fresh : (last b new old slots : ℕ) → 0 < slots → (b ≤ last → new ≡ old) → (b ≡ last + 1 → new ≡ slots * slot_share) → zero_now last b old ≡ zero_now (last + 1) b new
fresh last b new old slots some before here =
    elim (cases_lt last b) [
      | inl behind ↦
          elim (cases_eq b (last + 1)) [
            | inl e ↦ let count = here e in let positive : 0 < new = omega arith in grind (arith, nat_tests)
            | inr apart ↦ grind (arith, nat_tests)
          ]
      | inr within ↦ let same = before within in let at = ap (zero_now last b) same in grind (arith, nat_tests)
    ]

abbrev zero_in : State → ℕ → ℕ
zero_in w b = zero_now (last_batch w) b (count_of w b)

no_take : (w : State) (b : ℕ) (x : Step) → 0 < b → takes_from w x ≡ 0 → bit (answers_zero w b x) ≡ 0
no_take w b x positive e = ap (λ c. bit (eqb c b && eqb (answer w x) 0)) e ∙ ap (λ t. bit (t && eqb (answer w x) 0)) (ne_eqb 0 b (omega arith))

pay-zero : (w : State) (h : Holds w) (i b s paid last : ℕ) → 0 < b → seat_at w i ≡ Paying s paid last
    → bit (eqb (paid + 1) b && eqb (count_of (paid_by w i (Paying s paid last)) (paid + 1)) 0) + zero_in w b ≡ zero_in (paid_by w i (Paying s paid last)) b
pay-zero w h i b s paid last positive is =
    let v = paid_by w i (Paying s paid last) in
    let same = ap (λ n. zero_now n b (count_of v b)) (pay-last w h i s paid last is) in
    let opened = pay-opened w h i s paid last is in
    elim (cases_eq b (paid + 1)) [
      | inl e ↦
          taken_here (last_batch w) b (paid + 1) (count_of v b) (count_of w b) (count_of v (paid + 1)) e opened.within
          (let some = pay-within w h i s paid last is in let at = ap (count_of w) e in omega arith) (ap (count_of v) (sym e)) ∙ sym same
      | inr apart ↦
          taken_other (last_batch w) b (paid + 1) (count_of v b) (count_of w b) (count_of v (paid + 1)) apart
          (λ _. pay-count_other w h i s paid last is b positive apart) ∙ sym same
    ]

zero_step : (w : State) → Holds w → (b : ℕ) → 0 < b → (x : Step) → MayStep w x → bit (answers_zero w b x) + zero_in w b ≡ zero_in (after w x) b
zero_step w h b positive Open may =
    let none = no_take w b Open positive refl in
    let new = fresh (last_batch w) b (count_of (after w Open) b) (count_of w b) (length w.slots) h.sized.some_slot
    (λ within. open-count w h may b (record { positive = positive; within = within }))
    (λ e. ap (count_of (after w Open)) e ∙ open-count_new w h may) in
    let last = ap (λ n. zero_now n b (count_of (after w Open) b)) (open-last w h may) in omega arith
zero_step w h b positive (Push s) may =
    let none = no_take w b (Push s) positive refl in
    let same = kept (last_batch w) b (count_of (after w (Push s)) b) (count_of w b) (λ within. push-count w h s may b (record { positive = positive; within = within })) in
    let last = ap (λ n. zero_now n b (count_of (after w (Push s)) b)) (push-last w h s may) in omega arith
zero_step w h b positive (Settle s) may =
    let v = after w (Settle s) in
    let same = ap (λ n. zero_now n b (count_of v b)) (settle-last w h s may) in
    elim (cases_eq b (last_batch w)) [
      | inl e ↦
          taken_here (last_batch w) b (last_batch w) (count_of v b) (count_of w b) (count_of v (last_batch w)) e (omega arith)
          (let some = settle-positive w h s may in let at = ap (count_of w) e in omega arith) (ap (count_of v) (sym e)) ∙ sym same
      | inr apart ↦
          taken_other (last_batch w) b (last_batch w) (count_of v b) (count_of w b) (count_of v (last_batch w)) apart
          (λ _. settle-count_other w h s may b positive apart) ∙ sym same
    ]
zero_step w h b positive (Enter i s) may = let none = no_take w b (Enter i s) positive refl in omega arith
zero_step w h b positive (Leave i) may =
    let none = no_take w b (Leave i) positive refl in
    let same = ap (λ seat. zero_in (left w i seat) b) may.2 in omega arith
zero_step w h b positive (Pay i) may =
    subst (λ seat. bit (eqb (due_of seat) b && eqb (count_of (paid_by w i seat) (due_of seat)) 0) + zero_in w b ≡ zero_in (paid_by w i seat) b) (sym may.3)
    (pay-zero w h i b may.0 may.1 may.2 positive may.3)

-- the zeros answered in a run are those that are there at its end and weren't at its start
zeros-run : (w : State) → Holds w → (b : ℕ) → 0 < b → (xs : List Step) → MayRun w xs → zeros w b xs + zero_in w b ≡ zero_in (owed_run w xs) b
zeros-run w h b positive [] may = omega arith
zeros-run w h b positive (x ∷ xs) may =
    let one = zero_step w h b positive x may.0 in
    let rest = zeros-run (after w x) (Holds-step w h x may.0) b positive xs may.1 in omega arith

opening-holds : (slots seats : ℕ) → IsSized slots seats → Holds (owed_opening slots seats)
opening-holds slots seats sized = Holds-opening slots seats sized

at_opening : (slots seats b : ℕ) → 0 < b → zero_in (owed_opening slots seats) b ≡ 0
at_opening slots seats b positive = grind (arith, nat_tests)

zero_there : (last b count : ℕ) → b ≤ last → count ≡ 0 → zero_now last b count ≡ 1
zero_there last b count within e = grind (arith, nat_tests)

zero_absent : (last b count : ℕ) → count ≢ 0 → zero_now last b count ≡ 0
zero_absent last b count apart = elim (cases_lt last b) [ inl behind ↦ grind (arith, nat_tests) | inr within ↦ grind (arith, nat_tests) ]

zero_read : (last b count : ℕ) → 1 ≤ zero_now last b count → (b ≤ last) × (count ≡ 0)
zero_read last b count one =
    elim (cases_lt last b) [
      | inl behind ↦ absurd (let none : zero_now last b count ≡ 0 = grind (arith, nat_tests) in omega arith)
      | inr within ↦
          elim (cases_eq count 0) [
            | inl e ↦ (within, e)
            | inr apart ↦ absurd (let none = zero_absent last b count apart in omega arith)
          ]
    ]

pub one_zero : OneZero
one_zero slots seats steps sized may b opened zero =
    let all = zeros-run (owed_opening slots seats) (opening-holds slots seats sized) b opened.positive steps may in
    let none = at_opening slots seats b opened.positive in
    let w = owed_run (owed_opening slots seats) steps in
    let one = zero_there (last_batch w) b (count_of w b) opened.within zero in omega arith

pub no_zero : NoZero
no_zero slots seats steps sized may b opened apart =
    let all = zeros-run (owed_opening slots seats) (opening-holds slots seats sized) b opened.positive steps may in
    let w = owed_run (owed_opening slots seats) steps in
    let none = zero_absent (last_batch w) b (count_of w b) apart in omega arith

pub zero_stays : (w : State) → Holds w → ZeroStays w
zero_stays w h more may b opened zero =
    let all = zeros-run w h b opened.positive more may in
    let one = zero_there (last_batch w) b (count_of w b) opened.within zero in
    let v = owed_run w more in
    let read = zero_read (last_batch v) b (count_of v b) (omega arith) in
    (record { positive = opened.positive; within = read.0 }, read.1)

-- ---- the step that makes a count zero

pay-to-zero : (w : State) (h : Holds w) (i b s paid last : ℕ) → 0 < b → seat_at w i ≡ Paying s paid last → count_of w b ≢ 0
    → count_of (paid_by w i (Paying s paid last)) b ≡ 0 → (paid + 1 ≡ b) × (count_of (paid_by w i (Paying s paid last)) (paid + 1) ≡ 0)
pay-to-zero w h i b s paid last positive is some zero =
    elim (cases_eq b (paid + 1)) [
      | inl e ↦ (sym e, ap (count_of (paid_by w i (Paying s paid last))) (sym e) ∙ zero)
      | inr apart ↦ absurd (some (sym (pay-count_other w h i s paid last is b positive apart) ∙ zero))
    ]

pub takes_to_zero : (w : State) → Holds w → TakesToZero w
takes_to_zero w h Open may b opened some zero = absurd (some (sym (open-count w h may b opened) ∙ zero))
takes_to_zero w h (Push s) may b opened some zero = absurd (some (sym (push-count w h s may b opened) ∙ zero))
takes_to_zero w h (Settle s) may b opened some zero =
    elim (cases_eq b (last_batch w)) [
      | inl e ↦ (tt, sym e, ap (count_of (after w (Settle s))) (sym e) ∙ zero)
      | inr apart ↦ absurd (some (sym (settle-count_other w h s may b opened.positive apart) ∙ zero))
    ]
takes_to_zero w h (Enter i s) may b opened some zero = absurd (some zero)
takes_to_zero w h (Leave i) may b opened some zero = absurd (some (sym (ap (λ seat. count_of (left w i seat) b) may.2) ∙ zero))
takes_to_zero w h (Pay i) may b opened some zero =
    let paid = pay-to-zero w h i b may.0 may.1 may.2 opened.positive may.3 some (ap (λ seat. count_of (paid_by w i seat) b) (sym may.3) ∙ zero) in
    (tt, ap due_of may.3 ∙ paid.0, ap (λ seat. count_of (paid_by w i seat) (due_of seat)) may.3 ∙ paid.1)
