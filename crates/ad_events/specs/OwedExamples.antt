-- Computed examples of what a seat owes: a schedule through all six steps, and two wrong movers that the laws rule out.
use Rattle.std.specs.Prelude.{ℕ, ◌-◌, List, [], ◌∷◌}
use Rattle.ad_events.specs.Owed.{State, Settled, Paying, Step, Open, Push, Settle, Enter, Leave, Pay, inside_of, pushed_on, count_of, slot_share, put_slot, put_passage, put_seat, after, owed_run, owed_opening}

-- Two seats and two slots. Seat 0 is inside slot 0 when batch 1 is opened and pushed there; seat 1 enters slot 1 before
-- the batch comes there; seat 0 leaves, pays, and enters again under entry number 1, so that it owes nothing the second time
abbrev pub schedule : List Step
schedule =
    Enter 0 0 ∷ Open ∷ Push 0 ∷ Enter 1 1 ∷ Settle 0 ∷ Push 1 ∷ Settle 1
    ∷ Leave 0 ∷ Pay 0 ∷ Enter 0 0 ∷ Leave 1 ∷ Pay 1 ∷ Leave 0 ∷ []

-- what its steps answer
abbrev pub schedule_answers : List ℕ
schedule_answers = 0 ∷ 0 ∷ 1 ∷ 0 ∷ 4294967297 ∷ 1 ∷ 2 ∷ 1 ∷ 1 ∷ 1 ∷ 1 ∷ 0 ∷ 1 ∷ []

-- a mover that settles slot s for batch b by a low half that it loaded earlier, whether the batch was pushed there or not
abbrev pub settle_early : State → ℕ → ℕ → ℕ → State
settle_early w b s loaded = put_passage w b (count_of w b - (slot_share - loaded)) s Settled

-- and its push of batch b on slot s, which comes too late to settle anything
abbrev pub push_late : State → ℕ → ℕ → State
push_late w b s = put_slot w s (record { inside = inside_of w s; pushed = b })

-- One slot, one seat: batch 1 is opened
abbrev pub one_opened : State
one_opened = after (owed_opening 1 1) Open

-- the mover loads the slot, finds nobody inside, and settles it
abbrev pub settled_early : State
settled_early = settle_early one_opened 1 0 (inside_of one_opened 0)

-- the seat enters before the push
abbrev pub entered_between : State
entered_between = push_late (after settled_early (Enter 0 0)) 1 0

-- nobody enters before the push
abbrev pub nobody_between : State
nobody_between = push_late settled_early 1 0

-- One slot, two seats: seat 0 is inside when batch 1 is pushed and settled, and owes it; seat 1 enters under entry number 1
abbrev pub one_owes_steps : List Step
one_owes_steps = Open ∷ Enter 0 0 ∷ Push 0 ∷ Settle 0 ∷ Enter 1 0 ∷ []

abbrev pub one_owes : State
one_owes = owed_run (owed_opening 1 2) one_owes_steps

-- seat i, inside slot s with this entry number, leaves as one that has yet to pay also the batch of its entry number
abbrev pub leave_owing_entry : State → ℕ → ℕ → ℕ → State
leave_owing_entry w i s entry =
    put_seat (put_slot w s (record { inside = inside_of w s - 1; pushed = pushed_on w s })) i (Paying s (entry - 1) (pushed_on w s))

-- seat 1 leaves so, and pays
abbrev pub paid_entry_number : State
paid_entry_number = after (leave_owing_entry one_owes 1 0 1) (Pay 1)
