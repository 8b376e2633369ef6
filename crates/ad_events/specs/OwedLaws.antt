-- The laws of what a seat owes, in the numbered form: what holds of every state that some list of steps reaches.
use Rattle.std.specs.Prelude.{◌≡◌, ◌≢◌, ◌↔◌, ℕ, ◌+◌, ◌-◌, ◌*◌, ◌^◌, ◌<◌, ◌≤◌, Bool, true, false, ◌&&◌, ◌==◌, List, [], ◌∷◌, length, count_by}
use Rattle.ad_events.specs.Sums.{bit}
use Rattle.ad_events.specs.Owed.{State, Away, Inside, Step, Open, Push, Settle, Enter, Leave, Pay, seat_at, inside_of, pushed_on, count_of, passage_of, last_batch, IsOpened, SettledEverywhere, IsIdle, owes, WaitsFor, owed_of, slot_share, found_by, due_of, slot_of, is_inside, is_passed, MayStep, takes_from, answer, after, owed_opening, owed_run, MayRun}
use Rattle.ad_events.specs.OwedInvariant.{IsSized, Holds}

-- the law holds of the state after every list of steps from the opening, of which each may be made where it stands
abbrev pub AfterEveryRun : (State → Type 0) → Type 0
AfterEveryRun Law = (slots seats : ℕ) (steps : List Step) → IsSized slots seats → MayRun (owed_opening slots seats) steps → Law (owed_run (owed_opening slots seats) steps)

-- the invariant holds at each opening, and each step that may be made keeps it
abbrev pub HoldsAtOpening : Type 0
HoldsAtOpening = (slots seats : ℕ) → IsSized slots seats → Holds (owed_opening slots seats)

abbrev pub StepsKeep : Type 0
StepsKeep = (w : State) → Holds w → (x : Step) → MayStep w x → Holds (after w x)

-- the count of each opened batch is the sum of the shares of the slots
abbrev pub CountsAreOwed : State → Type 0
CountsAreOwed w = (b : ℕ) → IsOpened w b → count_of w b ≡ owed_of w b

-- what the step subtracts is there
abbrev pub Subtracts : State → Step → Type 0
Subtracts w Open = Unit {0}
Subtracts w (Push s) = Unit {0}
Subtracts w (Settle s) =
    let found = found_by (passage_of w (last_batch w) s) in
    (found ≤ slot_share) × (slot_share - found ≤ count_of w (last_batch w))
Subtracts w (Enter i s) = Unit {0}
Subtracts w (Leave i) = 0 < inside_of w (slot_of (seat_at w i))
Subtracts w (Pay i) = 0 < count_of w (due_of (seat_at w i))

-- no step that may be made subtracts below zero
abbrev pub NothingBelowZero : State → Type 0
NothingBelowZero w = (x : Step) → MayStep w x → Subtracts w x

-- a slot as a word: the number inside in the low half, the last batch pushed in the high half
abbrev pub slot_word : State → ℕ → ℕ
slot_word w s = 2 ^ 32 * pushed_on w s + inside_of w s

-- each count is below 2 ^ 64, and so is each slot's word where fewer than 2 ^ 32 batches were opened, with the number
-- inside below 2 ^ 32, so that no sum reaches 2 ^ 64 or runs from the low half into the high one
pub record WordsFit (w : State) : Type 0 where
  pub counts : (b : ℕ) → IsOpened w b → count_of w b < 2 ^ 64
  pub inside : (s : ℕ) → s < length w.slots → inside_of w s < 2 ^ 32
  pub words : last_batch w < 2 ^ 32 → (s : ℕ) → s < length w.slots → slot_word w s < 2 ^ 64

-- no seat owes the batch
abbrev pub NobodyOwes : State → ℕ → Type 0
NobodyOwes w b = (i : ℕ) → owes w b (seat_at w i) ≡ false

-- a batch's count is zero exactly where it is settled on every slot and nobody owes it
abbrev pub ZeroIsDone : State → Type 0
ZeroIsDone w = (b : ℕ) → IsOpened w b → (count_of w b ≡ 0) ↔ (SettledEverywhere w b × NobodyOwes w b)

-- the step takes from the count of batch b, and answers that it leaves zero
abbrev pub answers_zero : State → ℕ → Step → Bool
answers_zero w b x = takes_from w x == b && answer w x == 0

-- how many steps of the list answer that they leave the count of batch b zero
abbrev pub zeros : State → ℕ → List Step → ℕ
zeros w b [] = 0
zeros w b (x ∷ xs) = bit (answers_zero w b x) + zeros (after w x) b xs

-- of the steps of a run exactly one, a settle or a pay, answers zero for an opened batch whose count is zero
abbrev pub OneZero : Type 0
OneZero = (slots seats : ℕ) (steps : List Step) → IsSized slots seats → MayRun (owed_opening slots seats) steps → (b : ℕ)
    → IsOpened (owed_run (owed_opening slots seats) steps) b → count_of (owed_run (owed_opening slots seats) steps) b ≡ 0 → zeros (owed_opening slots seats) b steps ≡ 1

-- and none answers zero for one whose count isn't zero
abbrev pub NoZero : Type 0
NoZero = (slots seats : ℕ) (steps : List Step) → IsSized slots seats → MayRun (owed_opening slots seats) steps → (b : ℕ)
    → IsOpened (owed_run (owed_opening slots seats) steps) b → count_of (owed_run (owed_opening slots seats) steps) b ≢ 0 → zeros (owed_opening slots seats) b steps ≡ 0

-- the step is a settle or a pay
abbrev pub Takes : Step → Type 0
Takes Open = ⊥
Takes (Push s) = ⊥
Takes (Settle s) = Unit {0}
Takes (Enter i s) = ⊥
Takes (Leave i) = ⊥
Takes (Pay i) = Unit {0}

-- the step that makes the count of an opened batch zero is a settle or a pay, takes from that batch, and answers zero
abbrev pub TakesToZero : State → Type 0
TakesToZero w = (x : Step) → MayStep w x → (b : ℕ) → IsOpened w b → count_of w b ≢ 0 → count_of (after w x) b ≡ 0
    → Takes x × (takes_from w x ≡ b) × (answer w x ≡ 0)

-- a count that is zero stays zero
abbrev pub ZeroStays : State → Type 0
ZeroStays w = (more : List Step) → MayRun w more → (b : ℕ) → IsOpened w b → count_of w b ≡ 0 → IsOpened (owed_run w more) b × (count_of (owed_run w more) b ≡ 0)

-- a slot tells what the seats and the batches tell: its number inside is that of the seats inside it, and a batch has
-- passed it exactly where it is none above the last one pushed
pub record SlotsTell (w : State) : Type 0 where
  pub inside : (s : ℕ) → s < length w.slots → inside_of w s ≡ count_by (is_inside s) w.seats
  pub passed : (b s : ℕ) → IsOpened w b → s < length w.slots → (is_passed (passage_of w b s) ≡ true) ↔ (b ≤ pushed_on w s)

-- a batch, opened or not, waits for a seat that is inside exactly where the seat's entry number is below it; and the count
-- of an opened batch that waits for a seat inside isn't zero
abbrev pub InsideIsCounted : State → Type 0
InsideIsCounted w = (i s entry b : ℕ) → seat_at w i ≡ Inside s entry → 0 < b
    → (WaitsFor w b i ↔ (entry < b)) × (IsOpened w b → WaitsFor w b i → count_of w b ≢ 0)

-- each seat is away: none is between its enter and its last pay
abbrev pub AllAway : State → Type 0
AllAway w = (i : ℕ) → seat_at w i ≡ Away

-- where each seat is away and the mover isn't inside a batch, every opened batch's count is zero
abbrev pub QuietIsZero : State → Type 0
QuietIsZero w = AllAway w → IsIdle w → (b : ℕ) → IsOpened w b → count_of w b ≡ 0
