-- What holds of the machine of what is owed after every list of steps from the opening.
use Rattle.std.specs.Prelude.{◌≡◌, ℕ, ◌+◌, ◌^◌, ◌<◌, ◌≤◌, length, count_by}
use Rattle.ad_events.specs.Owed.{State, Passage, Ahead, Pushed, Settled, Seat, Away, Inside, Paying, batch_at, seat_at, inside_of, pushed_on, count_of, passage_of, last_batch, IsOpened, owed_of, is_inside}

-- a table has some slots, so few that no count reaches 2 ^ 64, and fewer seats than half a word counts
pub record IsSized (slots seats : ℕ) : Type 0 where
  pub some_slot : 0 < slots
  pub few_slots : slots ≤ 2 ^ 31
  pub few_seats : seats < 2 ^ 32

-- a seat that fits a table of n slots, whose last batches are given by f: it is on one of the slots; inside, its entry
-- number is one that was pushed there; paying, something is left to pay, and no more than was pushed there
abbrev pub SeatFits : ℕ → (ℕ → ℕ) → Seat → Type 0
SeatFits n f Away = Unit {0}
SeatFits n f (Inside slot entry) = (slot < n) × (entry ≤ f slot)
SeatFits n f (Paying slot paid last) = (slot < n) × (paid < last) × (last ≤ f slot)

-- a passage of batch b on a slot that fits, where `last` is the last batch opened and `pushed` the last one pushed on the
-- slot: only the last batch is ahead or pushed; it is ahead of a slot that is one push behind; a push found no more than
-- all the seats; and a settled batch was pushed
abbrev pub PassageFits : (last pushed seats b : ℕ) → Passage → Type 0
PassageFits last pushed seats b Ahead = (b ≡ last) × (pushed + 1 ≡ b)
PassageFits last pushed seats b (Pushed found) = (b ≡ last) × (pushed ≡ b) × (found ≤ seats)
PassageFits last pushed seats b Settled = b ≤ pushed

-- the invariant: the table is sized; each opened batch has a passage for each slot, and its count is the sum of the slots'
-- shares; a slot's number inside is that of the seats inside it; no slot has a batch that isn't opened; each seat and each
-- passage fits
pub record Holds (w : State) : Type 0 where
  pub sized : IsSized (length w.slots) (length w.seats)
  pub lengths : (b : ℕ) → IsOpened w b → length (batch_at w b).passages ≡ length w.slots
  pub counted : (b : ℕ) → IsOpened w b → count_of w b ≡ owed_of w b
  pub inside : (s : ℕ) → s < length w.slots → inside_of w s ≡ count_by (is_inside s) w.seats
  pub seats : (i : ℕ) → i < length w.seats → SeatFits (length w.slots) (pushed_on w) (seat_at w i)
  pub pushed : (s : ℕ) → s < length w.slots → pushed_on w s ≤ last_batch w
  pub passages : (b s : ℕ) → IsOpened w b → s < length w.slots → PassageFits (last_batch w) (pushed_on w s) (length w.seats) b (passage_of w b s)
