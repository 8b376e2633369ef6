-- Whether a step may be made, as a test that computes: for the worked examples.
use Rattle.std.proofs.Common.{◌≡◌, ℕ, zero, suc, ◌-◌, ◌<◌, Bool, true, false, ◌&&◌, ltb, List, [], ◌∷◌, length, refl, sym, ap, ◌∙◌, inl, inr, arith, true≢false}
use Rattle.std.proofs.lemmas.Bool.{cases_eq, and_parts}
use Rattle.std.proofs.lemmas.Bool.Decides.{nat_tests}
use Rattle.ad_events.specs.Owed.{State, Passage, Ahead, Pushed, Settled, Seat, Away, Inside, Paying, Step, Open, Push, Settle, Enter, Leave, Pay, seat_at, passage_of, last_batch, is_passed, IsInside, IsPaying, IsIdle, MayStep, MayRun, after}

-- a test of each number below a bound
abbrev pub all_below : ℕ → (ℕ → Bool) → Bool
all_below zero p = true
all_below (suc n) p = p n && all_below n p

pub all_below-each : (n : ℕ) (p : ℕ → Bool) → all_below n p ≡ true → (s : ℕ) → s < n → p s ≡ true
all_below-each zero p e s l = absurd (omega arith)
all_below-each (suc n) p e s l =
    let parts = and_parts (p n) (all_below n p) e in
    elim (cases_eq s n) [ inl same ↦ ap p same ∙ parts.0 | inr apart ↦ all_below-each n p parts.1 s (omega arith) ]

pub less : (a b : ℕ) → ltb a b ≡ true → a < b
less a b e = grind (arith, nat_tests)

abbrev is_settled : Passage → Bool
is_settled Ahead = false
is_settled (Pushed found) = false
is_settled Settled = true

settled : (p : Passage) → is_settled p ≡ true → p ≡ Settled
settled Ahead e = absurd (true≢false (sym e))
settled (Pushed found) e = absurd (true≢false (sym e))
settled Settled e = refl

abbrev is_ahead : Passage → Bool
is_ahead Ahead = true
is_ahead (Pushed found) = false
is_ahead Settled = false

ahead : (p : Passage) → is_ahead p ≡ true → p ≡ Ahead
ahead Ahead e = refl
ahead (Pushed found) e = absurd (true≢false (sym e))
ahead Settled e = absurd (true≢false (sym e))

abbrev is_pushed : Passage → Bool
is_pushed Ahead = false
is_pushed (Pushed found) = true
is_pushed Settled = false

pushed : (p : Passage) → is_pushed p ≡ true → (found : ℕ) × (p ≡ Pushed found)
pushed Ahead e = absurd (true≢false (sym e))
pushed (Pushed found) e = (found, refl)
pushed Settled e = absurd (true≢false (sym e))

abbrev is_away : Seat → Bool
is_away Away = true
is_away (Inside s entry) = false
is_away (Paying s paid last) = false

away : (seat : Seat) → is_away seat ≡ true → seat ≡ Away
away Away e = refl
away (Inside s entry) e = absurd (true≢false (sym e))
away (Paying s paid last) e = absurd (true≢false (sym e))

abbrev is_within : Seat → Bool
is_within Away = false
is_within (Inside s entry) = true
is_within (Paying s paid last) = false

inside : (seat : Seat) → is_within seat ≡ true → IsInside seat
inside Away e = absurd (true≢false (sym e))
inside (Inside s entry) e = (s, entry, refl)
inside (Paying s paid last) e = absurd (true≢false (sym e))

abbrev is_paying : Seat → Bool
is_paying Away = false
is_paying (Inside s entry) = false
is_paying (Paying s paid last) = true

paying : (seat : Seat) → is_paying seat ≡ true → IsPaying seat
paying Away e = absurd (true≢false (sym e))
paying (Inside s entry) e = absurd (true≢false (sym e))
paying (Paying s paid last) e = (s, paid, last, refl)

abbrev is_idle : State → Bool
is_idle w = all_below (last_batch w) (λ b. all_below (length w.slots) (λ s. is_settled (passage_of w (suc b) s)))

pub idle : (w : State) → is_idle w ≡ true → IsIdle w
idle w e b opened s l =
    let positive = opened.positive in let within = opened.within in
    let batch = all_below-each (last_batch w) (λ c. all_below (length w.slots) (λ t. is_settled (passage_of w (suc c) t))) e (b - 1) (omega arith) in
    let here : suc (b - 1) ≡ b = omega arith in
    ap (λ c. passage_of w c s) (sym here) ∙ settled _ (all_below-each (length w.slots) (λ t. is_settled (passage_of w (suc (b - 1)) t)) batch s l)

-- the step may be made, as a test
abbrev pub may_step : State → Step → Bool
may_step w Open = is_idle w
may_step w (Push s) = ltb 0 (last_batch w) && (ltb s (length w.slots) && (is_ahead (passage_of w (last_batch w) s) && all_below s (λ t. is_passed (passage_of w (last_batch w) t))))
may_step w (Settle s) = ltb 0 (last_batch w) && (ltb s (length w.slots) && is_pushed (passage_of w (last_batch w) s))
may_step w (Enter i s) = ltb i (length w.seats) && (ltb s (length w.slots) && is_away (seat_at w i))
may_step w (Leave i) = is_within (seat_at w i)
may_step w (Pay i) = is_paying (seat_at w i)

pub MayStep-tested : (w : State) (x : Step) → may_step w x ≡ true → MayStep w x
MayStep-tested w Open e = idle w e
MayStep-tested w (Push s) e =
    let a = and_parts (ltb 0 (last_batch w)) _ e in
    let b = and_parts (ltb s (length w.slots)) _ a.1 in
    let c = and_parts (is_ahead (passage_of w (last_batch w) s)) _ b.1 in
    record {
      opened = less _ _ a.0;
      slot = less _ _ b.0;
      ahead = ahead _ c.0;
      before = all_below-each s (λ t. is_passed (passage_of w (last_batch w) t)) c.1;
    }
MayStep-tested w (Settle s) e =
    let a = and_parts (ltb 0 (last_batch w)) _ e in
    let b = and_parts (ltb s (length w.slots)) _ a.1 in
    record { opened = less _ _ a.0; slot = less _ _ b.0; pushed = pushed _ b.1 }
MayStep-tested w (Enter i s) e =
    let a = and_parts (ltb i (length w.seats)) _ e in
    let b = and_parts (ltb s (length w.slots)) _ a.1 in
    record { seat = less _ _ a.0; slot = less _ _ b.0; away = away _ b.1 }
MayStep-tested w (Leave i) e = inside (seat_at w i) e
MayStep-tested w (Pay i) e = paying (seat_at w i) e

-- each step of the list may be made where it stands, as a test
abbrev pub may_run : State → List Step → Bool
may_run w [] = true
may_run w (x ∷ xs) = may_step w x && may_run (after w x) xs

pub MayRun-tested : (w : State) (xs : List Step) → may_run w xs ≡ true → MayRun w xs
MayRun-tested w [] e = tt
MayRun-tested w (x ∷ xs) e =
    let parts = and_parts (may_step w x) (may_run (after w x) xs) e in
    (MayStep-tested w x parts.0, MayRun-tested (after w x) xs parts.1)
