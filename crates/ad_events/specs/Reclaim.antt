-- When a mapping may be unmapped: the event machine and what is owed, as one machine. Worker i has seat i. A mapping that is
-- retired is listed in the batch that is opened next. Who brings the count of a batch to zero may unmap its mappings.
use Rattle.std.specs.Prelude.{◌≡◌, ◌≢◌, ℕ, ◌+◌, ◌==◌, if◌then◌else◌, List, Option, Some, None, fold}
use Rattle.ad_events.specs.Runs.{AllMay}
use Rattle.ad_events.specs.declared.mapping.Status.TheVariants.{Gone}
use Rattle.ad_events.specs.declared.event.Event.{Event}
use Rattle.ad_events.specs.declared.event.Event.TheVariants as event
use Rattle.ad_events.specs.Functions.{changed}
use Rattle.ad_events.specs.World.{EventWorld, status_of, IsLawful, effect, world_opening}
use Rattle.ad_events.specs.Owed as owing
use Rattle.ad_events.specs.Owed.{last_batch, seat_at, due_of, answer}

-- ---- the state

-- who makes a step: a worker, or the one mover
pub data Agent : Type 0 where
  Worker : (worker : ℕ) → Agent
  Mover : Agent

-- the world, what is owed, the batch that each retired mapping is listed in, and who brought the count of each batch to zero
pub record ReclaimState : Type 0 where
  pub world : EventWorld
  pub owed : owing.State
  pub batch : ℕ → Option ℕ
  pub zeroed : ℕ → Option Agent

-- ---- the steps

-- A worker enters a slot, reads the module's current mapping, leaves, and pays the first batch that it still owes. The
-- mover maps a mapping, makes it current, retires the one that went out by listing it in the next batch, opens the batch,
-- pushes it on a slot, and settles the slot. A worker or the mover unmaps a mapping
pub data Step : Type 0 where
  Enter : (worker slot : ℕ) → Step
  Read : (worker «module» mapping : ℕ) → Step
  Leave : (worker : ℕ) → Step
  Pay : (worker : ℕ) → Step
  Map : («module» mapping : ℕ) → Step
  Switch : («module» mapping : ℕ) → Step
  Retire : (mapping : ℕ) → Step
  Open : Step
  Push : (slot : ℕ) → Step
  Settle : (slot : ℕ) → Step
  Unmap : (mapping : ℕ) (by : Agent) → Step

-- the event of the world that a step is, if it is one
abbrev pub event_of : Step → Option Event
event_of (Enter i s) = Some (event.Enter i)
event_of (Read i m p) = Some (event.Read i m p)
event_of (Leave i) = Some (event.Leave i)
event_of (Map m p) = Some (event.Map m p)
event_of (Switch m p) = Some (event.Switch m p)
event_of (Retire p) = Some (event.Retire p)
event_of (Unmap p a) = Some (event.Unmap p)
event_of _ = None

-- the step of what is owed that a step is, if it is one
abbrev pub owing_of : Step → Option owing.Step
owing_of (Enter i s) = Some (owing.Enter i s)
owing_of (Leave i) = Some (owing.Leave i)
owing_of (Pay i) = Some (owing.Pay i)
owing_of Open = Some owing.Open
owing_of (Push s) = Some (owing.Push s)
owing_of (Settle s) = Some (owing.Settle s)
owing_of _ = None

-- agent a may unmap mapping p: a brought the count of the mapping's batch to zero, and the mapping isn't gone
pub record MayUnmap (j : ReclaimState) (p : ℕ) (a : Agent) : Type 0 where
  pub batch : ℕ
  pub listed : j.batch p ≡ Some batch
  pub brought : j.zeroed batch ≡ Some a
  pub there : status_of j.world p ≢ Some Gone

-- the step may be made. Entering is asked of the seat, which has to be away; leaving is asked of the world; an unmap asks
-- neither who is inside nor how far the mapping has come
abbrev pub MayStep : ReclaimState → Step → Type 0
MayStep j (Enter i s) = owing.MayStep j.owed (owing.Enter i s)
MayStep j (Read i m p) = IsLawful j.world (event.Read i m p)
MayStep j (Leave i) = IsLawful j.world (event.Leave i)
MayStep j (Pay i) = owing.MayStep j.owed (owing.Pay i)
MayStep j (Map m p) = IsLawful j.world (event.Map m p)
MayStep j (Switch m p) = IsLawful j.world (event.Switch m p)
MayStep j (Retire p) = IsLawful j.world (event.Retire p)
MayStep j Open = owing.MayStep j.owed owing.Open
MayStep j (Push s) = owing.MayStep j.owed (owing.Push s)
MayStep j (Settle s) = owing.MayStep j.owed (owing.Settle s)
MayStep j (Unmap p a) = MayUnmap j p a

-- ---- what a step makes

abbrev pub world_after : EventWorld → Option Event → EventWorld
world_after w None = w
world_after w (Some e) = effect w e

abbrev pub owed_after : owing.State → Option owing.Step → owing.State
owed_after w None = w
owed_after w (Some x) = owing.after w x

-- a mapping that is retired is listed in the batch after the last one opened
abbrev pub batch_after : ReclaimState → Step → ℕ → Option ℕ
batch_after j (Retire p) = changed j.batch p (Some (last_batch j.owed + 1))
batch_after j _ = j.batch

-- agent a takes from the count of batch b and leaves so much: where that is zero, it is noted that a brought the batch there
abbrev pub noted : (ℕ → Option Agent) → ℕ → Agent → ℕ → ℕ → Option Agent
noted zeroed b a left = if left == 0 then changed zeroed b (Some a) else zeroed

-- a pay and a settle are the steps that take from a count
abbrev pub zeroed_after : ReclaimState → Step → ℕ → Option Agent
zeroed_after j (Pay i) = noted j.zeroed (due_of (seat_at j.owed i)) (Worker i) (answer j.owed (owing.Pay i))
zeroed_after j (Settle s) = noted j.zeroed (last_batch j.owed) Mover (answer j.owed (owing.Settle s))
zeroed_after j _ = j.zeroed

-- the state after the step
abbrev pub after : ReclaimState → Step → ReclaimState
after j x = record { world = world_after j.world (event_of x); owed = owed_after j.owed (owing_of x); batch = batch_after j x; zeroed = zeroed_after j x }

-- ---- runs

-- so many slots; so many workers, each with its seat; and a module for each number given, whose current mapping has it
abbrev pub reclaim_opening : ℕ → ℕ → List ℕ → ReclaimState
reclaim_opening slots workers current = record { world = world_opening workers current; owed = owing.owed_opening slots workers; batch = λ _. None; zeroed = λ _. None }

-- the state after a list of steps
abbrev pub reclaim_run : ReclaimState → List Step → ReclaimState
reclaim_run j steps = fold after j steps

-- each step of the list may be made where it stands
abbrev pub MayRun : ReclaimState → List Step → Type 0
MayRun j steps = AllMay MayStep after j steps
