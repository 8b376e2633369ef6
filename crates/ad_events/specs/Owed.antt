-- What a seat owes, in the numbered form: seats enter and leave slots, one mover pushes batches on the slots, and a count
-- for each batch says what the batch is still owed.
use Rattle.std.specs.Prelude.{◌≡◌, ◌⊎◌, ℕ, ◌+◌, ◌-◌, ◌*◌, ◌^◌, ◌<◌, ◌≤◌, Bool, true, false, ◌&&◌, List, [], ◌∷◌, ◌++◌, length, replicate, slice_index_or, slice_set, nat_lt, nat_le, ◌==◌, if◌then◌else◌, count_by, fold}
use Rattle.ad_events.specs.Runs.{AllMay}
use Rattle.ad_events.specs.Sums.{sum_below}

-- ---- the state

-- a slot: how many seats are inside, and the number of the last batch pushed on it
pub record Slot : Type 0 where
  pub inside : ℕ
  pub pushed : ℕ

-- how far a batch has come on one slot: not pushed, pushed where it found so many seats inside, or settled
pub data Passage : Type 0 where
  Ahead : Passage
  Pushed : (found : ℕ) → Passage
  Settled : Passage

-- a batch: its count, and its passage on each slot
pub record Batch : Type 0 where
  pub count : ℕ
  pub passages : List Passage

-- a seat is away, or inside a slot with the entry number that it found there, or it has left its slot and has yet to pay
-- each batch above `paid` up to `last`
pub data Seat : Type 0 where
  Away : Seat
  Inside : (slot entry : ℕ) → Seat
  Paying : (slot paid last : ℕ) → Seat

-- the slots, the batches opened so far, of which the first has number 1, and the seats
pub record State : Type 0 where
  pub slots : List Slot
  pub batches : List Batch
  pub seats : List Seat

-- ---- reading and writing a state

abbrev pub slot_at : State → ℕ → Slot
slot_at w s = slice_index_or w.slots s (record { inside = 0; pushed = 0 })

-- batches are numbered from 1, so 0 is the number of none
abbrev pub batch_at : State → ℕ → Batch
batch_at w b = slice_index_or w.batches (b - 1) (record { count = 0; passages = [] })

abbrev pub seat_at : State → ℕ → Seat
seat_at w i = slice_index_or w.seats i Away

-- how many seats are inside slot s
abbrev pub inside_of : State → ℕ → ℕ
inside_of w s = (slot_at w s).inside

-- the last batch pushed on slot s
abbrev pub pushed_on : State → ℕ → ℕ
pushed_on w s = (slot_at w s).pushed

-- the count of batch b
abbrev pub count_of : State → ℕ → ℕ
count_of w b = (batch_at w b).count

-- how far batch b has come on slot s
abbrev pub passage_of : State → ℕ → ℕ → Passage
passage_of w b s = slice_index_or (batch_at w b).passages s Ahead

-- the number of the last batch opened, which is the mover's
abbrev pub last_batch : State → ℕ
last_batch w = length w.batches

-- batch b was opened
pub record IsOpened (w : State) (b : ℕ) : Type 0 where
  pub positive : 0 < b
  pub within : b ≤ last_batch w

abbrev pub put_slot : State → ℕ → Slot → State
put_slot w s slot = record { slots = slice_set w.slots s slot; batches = w.batches; seats = w.seats }

abbrev pub put_batch : State → ℕ → Batch → State
put_batch w b batch = record { slots = w.slots; batches = slice_set w.batches (b - 1) batch; seats = w.seats }

abbrev pub put_seat : State → ℕ → Seat → State
put_seat w i seat = record { slots = w.slots; batches = w.batches; seats = slice_set w.seats i seat }

-- ---- what is owed

-- the seat entered slot s and owes batch b, where `pushed` is the last batch pushed on s. A seat inside owes each batch
-- above its entry number up to the last one pushed; one that has left owes those of them that it hasn't paid
abbrev pub owes_on : ℕ → ℕ → ℕ → Seat → Bool
owes_on pushed b s Away = false
owes_on pushed b s (Inside slot entry) = slot == s && (nat_lt entry b && nat_le b pushed)
owes_on pushed b s (Paying slot paid last) = slot == s && (nat_lt paid b && nat_le b last)

-- the seat is inside slot s
abbrev pub is_inside : ℕ → Seat → Bool
is_inside s Away = false
is_inside s (Inside slot entry) = slot == s
is_inside s (Paying slot paid last) = false

-- how many of the seats entered slot s and owe batch b
abbrev pub owers : ℕ → ℕ → ℕ → List Seat → ℕ
owers pushed b s seats = count_by (owes_on pushed b s) seats

-- the slot of a seat
abbrev pub slot_of : Seat → ℕ
slot_of Away = 0
slot_of (Inside slot entry) = slot
slot_of (Paying slot paid last) = slot

-- the seat owes batch b, on its own slot
abbrev pub owes : State → ℕ → Seat → Bool
owes w b seat = owes_on (pushed_on w (slot_of seat)) b (slot_of seat) seat

-- batch b can't be done before seat i leaves: it isn't opened, or hasn't passed the seat's slot, or the seat owes it
abbrev pub WaitsFor : State → ℕ → ℕ → Type 0
WaitsFor w b i = ¬ IsOpened w b ⊎ ((passage_of w b (slot_of (seat_at w i)) ≡ Ahead) ⊎ (owes w b (seat_at w i) ≡ true))

-- what a slot stands for in a count, in the high half of the word
abbrev pub slot_share : ℕ
slot_share = 2 ^ 32

-- what a slot adds to the count of a batch, where so many seats that entered on it owe the batch
abbrev pub share : Passage → ℕ → ℕ
share Ahead owing = slot_share
share (Pushed found) owing = slot_share - found + owing
share Settled owing = owing

abbrev pub share_of : State → ℕ → ℕ → ℕ
share_of w b s = share (passage_of w b s) (owers (pushed_on w s) b s w.seats)

-- what the count of batch b has to be: the sum of the shares of the slots
abbrev pub owed_of : State → ℕ → ℕ
owed_of w b = sum_below (length w.slots) (share_of w b)

-- ---- the steps

-- The mover opens a batch, pushes it on a slot, and settles the slot. A seat enters a slot, leaves it, and pays the first
-- batch that it still owes
pub data Step : Type 0 where
  Open : Step
  Push : (slot : ℕ) → Step
  Settle : (slot : ℕ) → Step
  Enter : (seat slot : ℕ) → Step
  Leave : (seat : ℕ) → Step
  Pay : (seat : ℕ) → Step

-- the batch was pushed on the slot
abbrev pub is_passed : Passage → Bool
is_passed Ahead = false
is_passed (Pushed found) = true
is_passed Settled = true

-- batch b is pushed and settled on every slot
abbrev pub SettledEverywhere : State → ℕ → Type 0
SettledEverywhere w b = (s : ℕ) → s < length w.slots → passage_of w b s ≡ Settled

-- the mover isn't inside a batch: each batch is settled on every slot
abbrev pub IsIdle : State → Type 0
IsIdle w = (b : ℕ) → IsOpened w b → SettledEverywhere w b

-- the seat is inside a slot
abbrev pub IsInside : Seat → Type 0
IsInside seat = (slot : ℕ) × (entry : ℕ) × (seat ≡ Inside slot entry)

-- the seat has left its slot, and has something to pay
abbrev pub IsPaying : Seat → Type 0
IsPaying seat = (slot : ℕ) × (paid : ℕ) × (last : ℕ) × (seat ≡ Paying slot paid last)

-- the mover's batch may be pushed on slot s: it isn't pushed there, and has passed each slot before
pub record MayPush (w : State) (s : ℕ) : Type 0 where
  pub opened : 0 < last_batch w
  pub slot : s < length w.slots
  pub ahead : passage_of w (last_batch w) s ≡ Ahead
  pub before : (t : ℕ) → t < s → is_passed (passage_of w (last_batch w) t) ≡ true

-- the mover's batch may be settled on slot s: it is pushed there
pub record MaySettle (w : State) (s : ℕ) : Type 0 where
  pub opened : 0 < last_batch w
  pub slot : s < length w.slots
  pub pushed : (found : ℕ) × (passage_of w (last_batch w) s ≡ Pushed found)

-- seat i may enter slot s: it is away
pub record MayEnter (w : State) (i s : ℕ) : Type 0 where
  pub seat : i < length w.seats
  pub slot : s < length w.slots
  pub away : seat_at w i ≡ Away

-- the step may be made
abbrev pub MayStep : State → Step → Type 0
MayStep w Open = IsIdle w
MayStep w (Push s) = MayPush w s
MayStep w (Settle s) = MaySettle w s
MayStep w (Enter i s) = MayEnter w i s
MayStep w (Leave i) = IsInside (seat_at w i)
MayStep w (Pay i) = IsPaying (seat_at w i)

-- a seat that has paid up to `paid` of what it owes up to `last`
abbrev pub to_pay : ℕ → ℕ → ℕ → Seat
to_pay slot paid last = if nat_lt paid last then Paying slot paid last else Away

abbrev pub found_by : Passage → ℕ
found_by Ahead = 0
found_by (Pushed found) = found
found_by Settled = 0

-- the first batch that a seat has yet to pay; a seat pays its batches in their order
abbrev pub due_of : Seat → ℕ
due_of Away = 0
due_of (Inside slot entry) = 0
due_of (Paying slot paid last) = paid + 1

-- the batch with this passage on slot s, and this count
abbrev pub put_passage : State → ℕ → ℕ → ℕ → Passage → State
put_passage w b count s passage = put_batch w b (record { count = count; passages = slice_set (batch_at w b).passages s passage })

abbrev pub put_count : State → ℕ → ℕ → State
put_count w b count = put_batch w b (record { count = count; passages = (batch_at w b).passages })

-- what leaving makes of the state, for the seat i that is this one
abbrev pub left : State → ℕ → Seat → State
left w i Away = w
left w i (Inside s entry) = put_seat (put_slot w s (record { inside = inside_of w s - 1; pushed = pushed_on w s })) i (to_pay s entry (pushed_on w s))
left w i (Paying s paid last) = w

-- what paying makes of the state, for the seat i that is this one
abbrev pub paid_by : State → ℕ → Seat → State
paid_by w i Away = w
paid_by w i (Inside s entry) = w
paid_by w i (Paying s paid last) = put_seat (put_count w (paid + 1) (count_of w (paid + 1) - 1)) i (to_pay s (paid + 1) last)

-- the state after the step
abbrev pub after : State → Step → State
after w Open = record { slots = w.slots; batches = w.batches ++ record { count = length w.slots * slot_share; passages = replicate (length w.slots) Ahead } ∷ []; seats = w.seats }
after w (Push s) = put_slot (put_passage w (last_batch w) (count_of w (last_batch w)) s (Pushed (inside_of w s))) s (record { inside = inside_of w s; pushed = pushed_on w s + 1 })
after w (Settle s) = put_passage w (last_batch w) (count_of w (last_batch w) - (slot_share - found_by (passage_of w (last_batch w) s))) s Settled
after w (Enter i s) = put_seat (put_slot w s (record { inside = inside_of w s + 1; pushed = pushed_on w s })) i (Inside s (pushed_on w s))
after w (Leave i) = left w i (seat_at w i)
after w (Pay i) = paid_by w i (seat_at w i)

-- the batch from whose count the step takes, 0 for none
abbrev pub takes_from : State → Step → ℕ
takes_from w Open = 0
takes_from w (Push s) = 0
takes_from w (Settle s) = last_batch w
takes_from w (Enter i s) = 0
takes_from w (Leave i) = 0
takes_from w (Pay i) = due_of (seat_at w i)

-- the number that the step gives its maker: a push the number inside, an enter and a leave the last batch pushed, a
-- settle and a pay the count that they leave
abbrev pub answer : State → Step → ℕ
answer w Open = 0
answer w (Push s) = inside_of w s
answer w (Settle s) = count_of (after w (Settle s)) (takes_from w (Settle s))
answer w (Enter i s) = pushed_on w s
answer w (Leave i) = pushed_on w (slot_of (seat_at w i))
answer w (Pay i) = count_of (after w (Pay i)) (takes_from w (Pay i))

-- ---- runs

-- no batch, nobody inside, each seat away
abbrev pub owed_opening : ℕ → ℕ → State
owed_opening slots seats = record { slots = replicate slots (record { inside = 0; pushed = 0 }); batches = []; seats = replicate seats Away }

-- the state after a list of steps
abbrev pub owed_run : State → List Step → State
owed_run w steps = fold after w steps

-- each step of the list may be made where it stands
abbrev pub MayRun : State → List Step → Type 0
MayRun w steps = AllMay MayStep after w steps

-- the numbers that the steps of a list give
abbrev pub answers : State → List Step → List ℕ
answers w [] = []
answers w (x ∷ xs) = answer w x ∷ answers (after w x) xs
