-- What a seat owes, seat by seat, and how many owe a batch where one seat changes or a batch is pushed.
use Rattle.std.proofs.Common.{◌≡◌, ℕ, ◌+◌, ◌<◌, ◌≢◌, true, false, List, length, get_or, set, refl, ap, inl, inr, arith}
use Rattle.std.specs.List.{count_by}
use Rattle.std.proofs.lemmas.Bool.Decides.{nat_tests}
use Rattle.std.proofs.lemmas.Bool.{cases_eq, cases_lt}
use Rattle.ad_events.specs.Sums.{bit}
use Rattle.ad_events.specs.Owed.{Seat, Away, Inside, Paying, owes_on, owers, to_pay, is_inside}
use Rattle.ad_events.specs.OwedInvariant.{SeatFits}
use Rattle.ad_events.proofs.SumLemmas.{count_by-changed, count_by-same, count_by-none}

-- ---- one seat

-- a seat that has just entered owes nothing. The slots' last batches are given by f
pub owes-entered : (f : ℕ → ℕ) (b s slot : ℕ) → owes_on (f s) b s (Inside slot (f slot)) ≡ false
owes-entered f b s slot =
    elim (cases_eq slot s) [
      | inl e ↦ let same = ap f e in grind (arith, nat_tests)
      | inr apart ↦ grind (arith, nat_tests)
    ]

-- a seat that leaves owes what it owed inside
pub owes-left : (f : ℕ → ℕ) (b s slot entry : ℕ) → owes_on (f s) b s (to_pay slot entry (f slot)) ≡ owes_on (f s) b s (Inside slot entry)
owes-left f b s slot entry =
    elim (cases_eq slot s) [
      | inl e ↦ let same = ap f e in elim (cases_lt entry (f slot)) [ inl l ↦ grind (arith, nat_tests) | inr m ↦ grind (arith, nat_tests) ]
      | inr apart ↦ elim (cases_lt entry (f slot)) [ inl l ↦ grind (arith, nat_tests) | inr m ↦ grind (arith, nat_tests) ]
    ]

-- a seat that pays owes the batch before
pub owes-paying : (pushed slot paid last : ℕ) → paid < last → owes_on pushed (paid + 1) slot (Paying slot paid last) ≡ true
owes-paying pushed slot paid last l = grind (arith, nat_tests)

-- and no longer after
pub owes-paid : (pushed b s slot paid last : ℕ) → b ≡ paid + 1 → owes_on pushed b s (to_pay slot (paid + 1) last) ≡ false
owes-paid pushed b s slot paid last e = elim (cases_lt (paid + 1) last) [ inl l ↦ grind (arith, nat_tests) | inr m ↦ grind (arith, nat_tests) ]

-- nothing else changes where it pays
pub owes-paid_other : (pushed b s slot paid last : ℕ) → (b ≡ paid + 1 → s ≡ slot → ⊥) → owes_on pushed b s (to_pay slot (paid + 1) last) ≡ owes_on pushed b s (Paying slot paid last)
owes-paid_other pushed b s slot paid last apart =
    elim (cases_eq slot s) [
      | inl e ↦ elim (cases_lt (paid + 1) last) [ inl l ↦ grind (arith, nat_tests) | inr m ↦ grind (arith, nat_tests) ]
      | inr other ↦ elim (cases_lt (paid + 1) last) [ inl l ↦ grind (arith, nat_tests) | inr m ↦ grind (arith, nat_tests) ]
    ]

-- where the next batch is pushed on a slot, a seat that is inside owes it
pub owes-pushed : (n : ℕ) (f : ℕ → ℕ) (b s : ℕ) (seat : Seat) → SeatFits n f seat → b ≡ f s + 1 → owes_on (f s + 1) b s seat ≡ is_inside s seat
owes-pushed n f b s Away fits e = refl
owes-pushed n f b s (Inside slot entry) fits e =
    elim (cases_eq slot s) [ inl same ↦ let last = ap f same in grind (arith, nat_tests) | inr apart ↦ grind (arith, nat_tests) ]
owes-pushed n f b s (Paying slot paid last) fits e =
    elim (cases_eq slot s) [ inl same ↦ let last = ap f same in grind (arith, nat_tests) | inr apart ↦ grind (arith, nat_tests) ]

-- before the push no seat owes it
pub owes-unpushed : (n : ℕ) (f : ℕ → ℕ) (b s : ℕ) (seat : Seat) → SeatFits n f seat → f s < b → owes_on (f s) b s seat ≡ false
owes-unpushed n f b s Away fits l = refl
owes-unpushed n f b s (Inside slot entry) fits l =
    elim (cases_eq slot s) [ inl same ↦ let last = ap f same in grind (arith, nat_tests) | inr apart ↦ grind (arith, nat_tests) ]
owes-unpushed n f b s (Paying slot paid last) fits l =
    elim (cases_eq slot s) [ inl same ↦ let last = ap f same in grind (arith, nat_tests) | inr apart ↦ grind (arith, nat_tests) ]

-- a push changes nothing of what is owed to the other batches
pub owes-pushed_other : (pushed b s : ℕ) (seat : Seat) → b ≢ pushed + 1 → owes_on (pushed + 1) b s seat ≡ owes_on pushed b s seat
owes-pushed_other pushed b s Away apart = refl
owes-pushed_other pushed b s (Inside slot entry) apart = elim (cases_eq slot s) [ inl same ↦ grind (arith, nat_tests) | inr other ↦ grind (arith, nat_tests) ]
owes-pushed_other pushed b s (Paying slot paid last) apart = refl

-- ---- all seats

-- the number that owe a batch, where one seat changes
pub owers-changed : (pushed b s : ℕ) (seats : List Seat) (i : ℕ) (seat : Seat) → i < length seats → owers pushed b s (set seats i seat) + bit (owes_on pushed b s (get_or seats i Away)) ≡ owers pushed b s seats + bit (owes_on pushed b s seat)
owers-changed pushed b s seats i seat l = count_by-changed (owes_on pushed b s) seats i seat Away l

-- a changed seat that owes as before changes no number
pub owers-kept : (pushed b s : ℕ) (seats : List Seat) (i : ℕ) (seat : Seat) → i < length seats → owes_on pushed b s seat ≡ owes_on pushed b s (get_or seats i Away) → owers pushed b s (set seats i seat) ≡ owers pushed b s seats
owers-kept pushed b s seats i seat l same =
    let bits = ap bit same in
    let sums = owers-changed pushed b s seats i seat l in omega arith

module _ (n : ℕ) (f : ℕ → ℕ) (seats : List Seat) (fits : (i : ℕ) → i < length seats → SeatFits n f (get_or seats i Away)) where
  -- who is inside owes the batch that is pushed
  pub owers-pushed : (b s : ℕ) → b ≡ f s + 1 → owers (f s + 1) b s seats ≡ count_by (is_inside s) seats
  owers-pushed b s e = count_by-same (owes_on (f s + 1) b s) (is_inside s) Away seats (λ i l. owes-pushed n f b s (get_or seats i Away) (fits i l) e)

  -- and nobody owed it
  pub owers-unpushed : (b s : ℕ) → f s < b → owers (f s) b s seats ≡ 0
  owers-unpushed b s l = count_by-none (owes_on (f s) b s) Away seats (λ i m. owes-unpushed n f b s (get_or seats i Away) (fits i m) l)

-- the numbers of the other batches stay
pub owers-pushed_other : (pushed b s : ℕ) (seats : List Seat) → b ≢ pushed + 1 → owers (pushed + 1) b s seats ≡ owers pushed b s seats
owers-pushed_other pushed b s seats apart = count_by-same (owes_on (pushed + 1) b s) (owes_on pushed b s) Away seats (λ i l. owes-pushed_other pushed b s (get_or seats i Away) apart)
