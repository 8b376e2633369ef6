-- Reading a state after a write, the forms of a seat, and sums of shares in two states.
use Rattle.std.proofs.Common.{◌≡◌, ℕ, ◌+◌, ◌-◌, ◌<◌, ◌≢◌, List, length, get_or, set, sym, ap, ap₂, ◌∙◌, inl, inr, arith, length-set, get_or-set_same, get_or-set_other}
use Rattle.std.proofs.lemmas.List.{get_or_past}
use Rattle.ad_events.specs.Sums.{sum_below}
use Rattle.ad_events.specs.Owed.{State, Slot, Batch, Passage, Ahead, Seat, Away, Inside, Paying, slot_at, batch_at, seat_at, pushed_on, count_of, passage_of, IsOpened, put_slot, put_batch, put_seat, put_passage, owers, share, share_of, owed_of}
use Rattle.ad_events.specs.OwedInvariant.{IsSized}
use Rattle.ad_events.proofs.SumLemmas.{sum_below-same, sum_below-changed}
use Rattle.std.proofs.lemmas.Bool.{cases_eq, cases_lt}

pub IsSized-same : (slots seats slots' seats' : ℕ) → slots' ≡ slots → seats' ≡ seats → IsSized slots seats → IsSized slots' seats'
IsSized-same slots seats slots' seats' e e' h =
    record { some_slot = (let l = h.some_slot in omega arith); few_slots = (let l = h.few_slots in omega arith); few_seats = (let l = h.few_seats in omega arith) }

-- ---- what a seat is

-- a number for each form of a seat
abbrev kind_of : Seat → ℕ
kind_of Away = 0
kind_of (Inside slot entry) = 1
kind_of (Paying slot paid last) = 2

-- a seat has one form
pub inside-away : (seat : Seat) (s entry : ℕ) → seat ≡ Inside s entry → seat ≡ Away → ⊥
inside-away seat s entry e f = let kinds = ap kind_of (sym e ∙ f) in absurd (omega arith)

pub paying-away : (seat : Seat) (s paid last : ℕ) → seat ≡ Paying s paid last → seat ≡ Away → ⊥
paying-away seat s paid last e f = let kinds = ap kind_of (sym e ∙ f) in absurd (omega arith)

pub inside-paying : (seat : Seat) (s entry t paid last : ℕ) → seat ≡ Inside s entry → seat ≡ Paying t paid last → ⊥
inside-paying seat s entry t paid last e f = let kinds = ap kind_of (sym e ∙ f) in absurd (omega arith)

-- a number that no seat has reads as one that is away
pub seat-within : (w : State) (i : ℕ) → (seat_at w i ≡ Away → ⊥) → i < length w.seats
seat-within w i apart = elim (cases_lt i (length w.seats)) [ inl l ↦ l | inr more ↦ absurd (apart (get_or_past w.seats i Away more)) ]

pub inside-within : (w : State) (i s entry : ℕ) → seat_at w i ≡ Inside s entry → i < length w.seats
inside-within w i s entry is = seat-within w i (inside-away (seat_at w i) s entry is)

pub paying-within : (w : State) (i s paid last : ℕ) → seat_at w i ≡ Paying s paid last → i < length w.seats
paying-within w i s paid last is = seat-within w i (paying-away (seat_at w i) s paid last is)

-- ---- sums of shares in two states

pub share-same : (v w : State) (b s : ℕ) → passage_of v b s ≡ passage_of w b s → owers (pushed_on v s) b s v.seats ≡ owers (pushed_on w s) b s w.seats → share_of v b s ≡ share_of w b s
share-same v w b s passage owing = ap₂ share passage owing

pub owed-same : (v w : State) (b : ℕ) → length v.slots ≡ length w.slots → ((s : ℕ) → s < length w.slots → share_of v b s ≡ share_of w b s) → owed_of v b ≡ owed_of w b
owed-same v w b slots shares = ap (λ n. sum_below n (share_of v b)) slots ∙ sum_below-same (length w.slots) (share_of w b) (share_of v b) shares

pub owed-changed : (v w : State) (b i : ℕ) → length v.slots ≡ length w.slots → i < length w.slots → ((s : ℕ) → s < length w.slots → s ≢ i → share_of v b s ≡ share_of w b s) → owed_of v b + share_of w b i ≡ owed_of w b + share_of v b i
owed-changed v w b i slots l shares =
    let total = ap (λ n. sum_below n (share_of v b)) slots in
    let sums = sum_below-changed (length w.slots) (share_of w b) (share_of v b) i l shares in
    omega arith

-- ---- reading after a write

pub slot_at-put_same : (w : State) (s : ℕ) (slot : Slot) → s < length w.slots → slot_at (put_slot w s slot) s ≡ slot
slot_at-put_same w s slot l = get_or-set_same w.slots s slot _ l

pub slot_at-put_other : (w : State) (s t : ℕ) (slot : Slot) → t ≢ s → slot_at (put_slot w s slot) t ≡ slot_at w t
slot_at-put_other w s t slot apart = get_or-set_other w.slots s t slot _ apart

pub seat_at-put_same : (w : State) (i : ℕ) (seat : Seat) → i < length w.seats → seat_at (put_seat w i seat) i ≡ seat
seat_at-put_same w i seat l = get_or-set_same w.seats i seat _ l

pub seat_at-put_other : (w : State) (i j : ℕ) (seat : Seat) → j ≢ i → seat_at (put_seat w i seat) j ≡ seat_at w j
seat_at-put_other w i j seat apart = get_or-set_other w.seats i j seat _ apart

pub batch_at-put_same : (w : State) (b : ℕ) (batch : Batch) → IsOpened w b → batch_at (put_batch w b batch) b ≡ batch
batch_at-put_same w b batch opened = get_or-set_same w.batches (b - 1) batch _ (omega arith)

pub batch_at-put_other : (w : State) (b c : ℕ) (batch : Batch) → 0 < b → 0 < c → c ≢ b → batch_at (put_batch w b batch) c ≡ batch_at w c
batch_at-put_other w b c batch positive positive' apart = get_or-set_other w.batches (b - 1) (c - 1) batch _ (omega arith)

pub passage-put_same : (w : State) (b count s : ℕ) (p : Passage) → IsOpened w b → s < length (batch_at w b).passages → passage_of (put_passage w b count s p) b s ≡ p
passage-put_same w b count s p opened l =
    let batch = batch_at-put_same w b (record { count = count; passages = set (batch_at w b).passages s p }) opened in
    ap (λ (x : Batch). get_or x.passages s Ahead) batch ∙ get_or-set_same (batch_at w b).passages s p Ahead l

-- the other passages stay
pub passage-put_other : (w : State) (b c count s t : ℕ) (p : Passage) → IsOpened w b → IsOpened w c → (c ≡ b → t ≡ s → ⊥) → passage_of (put_passage w b count s p) c t ≡ passage_of w c t
passage-put_other w b c count s t p opened opened' apart =
    let new : Batch = record { count = count; passages = set (batch_at w b).passages s p } in
    elim (cases_eq c b) [
      | inl e ↦
          ap (λ x. passage_of (put_passage w b count s p) x t) e
          ∙ ap (λ (x : Batch). get_or x.passages t Ahead) (batch_at-put_same w b new opened)
          ∙ get_or-set_other (batch_at w b).passages s t p Ahead (apart e)
          ∙ ap (λ x. passage_of w x t) (sym e)
      | inr other ↦ ap (λ (x : Batch). get_or x.passages t Ahead) (batch_at-put_other w b c new opened.positive opened'.positive other)
    ]

pub count-put_same : (w : State) (b count : ℕ) (passages : List Passage) → IsOpened w b → count_of (put_batch w b (record { count = count; passages = passages })) b ≡ count
count-put_same w b count passages opened = ap (λ (x : Batch). x.count) (batch_at-put_same w b (record { count = count; passages = passages }) opened)

pub count-put_other : (w : State) (b c : ℕ) (batch : Batch) → 0 < b → 0 < c → c ≢ b → count_of (put_batch w b batch) c ≡ count_of w c
count-put_other w b c batch positive positive' apart = ap (λ (x : Batch). x.count) (batch_at-put_other w b c batch positive positive' apart)

-- writing a batch opens none
pub IsOpened-put : (w : State) (b c : ℕ) (batch : Batch) → IsOpened (put_batch w b batch) c → IsOpened w c
IsOpened-put w b c batch opened = record { positive = opened.positive; within = (let same = length-set w.batches (b - 1) batch in let within = opened.within in omega arith) }

-- the lengths of the passages stay
pub lengths-put : (w : State) (b c count s : ℕ) (p : Passage) → IsOpened w b → IsOpened w c → length (batch_at (put_passage w b count s p) c).passages ≡ length (batch_at w c).passages
lengths-put w b c count s p opened opened' =
    let new : Batch = record { count = count; passages = set (batch_at w b).passages s p } in
    elim (cases_eq c b) [
      | inl e ↦
          ap (λ x. length (batch_at (put_passage w b count s p) x).passages) e
          ∙ ap (λ (x : Batch). length x.passages) (batch_at-put_same w b new opened)
          ∙ length-set (batch_at w b).passages s p
          ∙ ap (λ x. length (batch_at w x).passages) (sym e)
      | inr other ↦ ap (λ (x : Batch). length x.passages) (batch_at-put_other w b c new opened.positive opened'.positive other)
    ]
