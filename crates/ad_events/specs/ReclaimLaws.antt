-- The laws of the joined machine: what holds after every list of steps from the opening.
use Rattle.std.specs.Prelude.{◌≡◌, ◌≢◌, ◌↔◌, ◌⊎◌, ℕ, ◌+◌, ◌<◌, ◌≤◌, false, List, length, count_by, filter_map, Contains, Option, Some, None}
use Rattle.std.specs.FinMap as map
use Rattle.ad_events.specs.declared.mapping.Status.TheVariants.{Retired, Gone}
use Rattle.ad_events.specs.declared.event.Event.{Event}
use Rattle.ad_events.specs.declared.event.Event.TheVariants as event
use Rattle.ad_events.specs.World.{EventWorld, status_of, IsLawful, AllDiffer, MayBeInside, world_opening}
use Rattle.ad_events.specs.WorldLaws as worlds
use Rattle.ad_events.specs.Owed as owing
use Rattle.ad_events.specs.Owed.{Inside, seat_at, count_of, last_batch, IsOpened, SettledEverywhere, IsIdle, IsInside, owes, WaitsFor, takes_from, answer}
use Rattle.ad_events.specs.OwedInvariant.{IsSized}
use Rattle.ad_events.specs.OwedLaws.{NobodyOwes, AllAway, Takes, zeros}
use Rattle.ad_events.specs.Reclaim.{Agent, Worker, Mover, ReclaimState, Step, Enter, Read, Leave, Pay, Retire, Open, Settle, Unmap, event_of, owing_of, MayStep, after, reclaim_opening, reclaim_run, MayRun}
use Rattle.ad_events.specs.ReclaimInvariant.{IsIn, IsListed, IsZeroed, Holds}

-- the law holds of the state after every list of steps from an opening, of which each may be made where it stands
abbrev pub AfterEveryRun : (ReclaimState → Type 0) → Type 0
AfterEveryRun Law = (slots workers : ℕ) (current : List ℕ) (steps : List Step) → IsSized slots workers → AllDiffer current → MayRun (reclaim_opening slots workers current) steps
    → Law (reclaim_run (reclaim_opening slots workers current) steps)

-- ---- the invariant

-- the invariant holds at each opening, and each step that may be made keeps it
abbrev pub HoldsAtOpening : Type 0
HoldsAtOpening = (slots workers : ℕ) (current : List ℕ) → IsSized slots workers → AllDiffer current → Holds (reclaim_opening slots workers current)

abbrev pub StepsKeep : Type 0
StepsKeep = (j : ReclaimState) → Holds j → (x : Step) → MayStep j x → Holds (after j x)

-- ---- the two machines

-- the events of a list of steps, and its steps of what is owed
abbrev pub events_of : List Step → List Event
events_of steps = filter_map event_of steps

abbrev pub owing_steps_of : List Step → List owing.Step
owing_steps_of steps = filter_map owing_of steps

-- the event, if there is one, is lawful; the step of what is owed, if there is one, may be made
abbrev pub LawfulIfSome : EventWorld → Option Event → Type 0
LawfulIfSome w None = Unit {0}
LawfulIfSome w (Some e) = IsLawful w e

abbrev pub MayIfSome : owing.State → Option owing.Step → Type 0
MayIfSome w None = Unit {0}
MayIfSome w (Some x) = owing.MayStep w x

-- a step that may be made is lawful in the world, and may be made in what is owed
abbrev pub LawfulInBoth : ReclaimState → Type 0
LawfulInBoth j = (x : Step) → MayStep j x → LawfulIfSome j.world (event_of x) × MayIfSome j.owed (owing_of x)

-- so a run is one of each machine: its events are lawful in turn, its steps of what is owed may be made in turn, and they
-- make its world and what is owed in it
pub record RunsBoth (slots workers : ℕ) (current : List ℕ) (steps : List Step) : Type 0 where
  pub lawful : worlds.AllLawful (world_opening workers current) (events_of steps)
  pub world : (reclaim_run (reclaim_opening slots workers current) steps).world ≡ worlds.world_run (world_opening workers current) (events_of steps)
  pub may : owing.MayRun (owing.owed_opening slots workers) (owing_steps_of steps)
  pub owed : (reclaim_run (reclaim_opening slots workers current) steps).owed ≡ owing.owed_run (owing.owed_opening slots workers) (owing_steps_of steps)

abbrev pub EachRunsBoth : Type 0
EachRunsBoth = (slots workers : ℕ) (current : List ℕ) (steps : List Step) → IsSized slots workers → AllDiffer current → MayRun (reclaim_opening slots workers current) steps → RunsBoth slots workers current steps

-- ---- who is in

-- a worker has entered or is inside a mapping exactly where its seat is inside
abbrev pub InIsInside : ReclaimState → Type 0
InIsInside j = (i : ℕ) → IsIn j.world i ↔ IsInside (seat_at j.owed i)

-- ---- the batch of a mapping

-- a mapping has a batch exactly where it is retired or gone; its number lies in 1 to the last opened plus one
pub record BatchIsTold (j : ReclaimState) : Type 0 where
  pub listed : (p : ℕ) → IsListed j.world p ↔ ((b : ℕ) × (j.batch p ≡ Some b))
  pub numbered : (p b : ℕ) → j.batch p ≡ Some b → (0 < b) × (b ≤ last_batch j.owed + 1)

-- no mapping is listed above the last batch opened
abbrev pub NoneAbove : ReclaimState → Type 0
NoneAbove j = (p b : ℕ) → j.batch p ≡ Some b → b ≤ last_batch j.owed

-- a mapping is listed above it only from a retire to the next open
pub record AboveUntilOpen (j : ReclaimState) : Type 0 where
  pub begins : NoneAbove j → (x : Step) → MayStep j x → NoneAbove (after j x) ⊎ ((p : ℕ) × (x ≡ Retire p))
  pub ends : MayStep j Open → NoneAbove (after j Open)

-- a mapping keeps its batch
abbrev pub BatchStays : ReclaimState → Type 0
BatchStays j = (more : List Step) → MayRun j more → (p b : ℕ) → j.batch p ≡ Some b → (reclaim_run j more).batch p ≡ Some b

-- ---- a worker pins its mapping

-- worker i is inside mapping p, which is listed in batch b: the batch isn't opened yet, or hasn't passed the seat's slot, or
-- the seat owes it; and the number that the seat found when it entered is below b
pub record PinnedBy (j : ReclaimState) (i p b : ℕ) : Type 0 where
  pub waits : WaitsFor j.owed b i
  pub entry : (s entry : ℕ) → seat_at j.owed i ≡ Inside s entry → entry < b

abbrev pub Pinned : ReclaimState → Type 0
Pinned j = (i p b : ℕ) → map.get j.world.inside i ≡ Some p → j.batch p ≡ Some b → PinnedBy j i p b

-- a mapping that a worker is inside is current, out or retired
abbrev pub NotGoneInside : ReclaimState → Type 0
NotGoneInside j = (i p : ℕ) → map.get j.world.inside i ≡ Some p → MayBeInside (map.get j.world.mappings p) × (status_of j.world p ≢ Some Gone)

-- ---- a count at zero is the right to unmap

-- the count of an opened batch is zero exactly where somebody brought it there, and then the batch is settled on every slot
-- and nobody owes it
pub record ZeroIsNoted (j : ReclaimState) : Type 0 where
  pub zero : (b : ℕ) → IsOpened j.owed b → (count_of j.owed b ≡ 0) ↔ IsZeroed j b
  pub done : (b : ℕ) → IsZeroed j b → IsOpened j.owed b × SettledEverywhere j.owed b × NobodyOwes j.owed b

-- who makes a step
abbrev pub maker_of : Step → Agent
maker_of (Enter i s) = Worker i
maker_of (Read i m p) = Worker i
maker_of (Leave i) = Worker i
maker_of (Pay i) = Worker i
maker_of (Unmap p a) = a
maker_of _ = Mover

-- the step is a settle or a pay that takes from the count of batch b, and answers that it leaves zero
abbrev pub BringsToZero : ReclaimState → Step → ℕ → Type 0
BringsToZero j x b = (y : owing.Step) × (owing_of x ≡ Some y) × Takes y × (takes_from j.owed y ≡ b) × (answer j.owed y ≡ 0)

-- who is noted is the maker of a step that brings the batch to zero
abbrev pub NotedByMaker : ReclaimState → Type 0
NotedByMaker j = (x : Step) → MayStep j x → (b : ℕ) (a : Agent) → j.zeroed b ≡ None → (after j x).zeroed b ≡ Some a → (maker_of x ≡ a) × BringsToZero j x b

-- and stays noted
abbrev pub NotedStays : ReclaimState → Type 0
NotedStays j = (more : List Step) → MayRun j more → (b : ℕ) (a : Agent) → j.zeroed b ≡ Some a → (reclaim_run j more).zeroed b ≡ Some a

-- of the steps of a run exactly one brings a batch to zero that was brought there, and none another one
pub record BroughtOnce (slots workers : ℕ) (current : List ℕ) (steps : List Step) : Type 0 where
  pub one : (b : ℕ) → IsZeroed (reclaim_run (reclaim_opening slots workers current) steps) b → zeros (owing.owed_opening slots workers) b (owing_steps_of steps) ≡ 1
  pub none : (b : ℕ) → IsOpened (reclaim_run (reclaim_opening slots workers current) steps).owed b → (IsZeroed (reclaim_run (reclaim_opening slots workers current) steps) b → ⊥) → zeros (owing.owed_opening slots workers) b (owing_steps_of steps) ≡ 0

abbrev pub EachBroughtOnce : Type 0
EachBroughtOnce = (slots workers : ℕ) (current : List ℕ) (steps : List Step) → IsSized slots workers → AllDiffer current → MayRun (reclaim_opening slots workers current) steps → BroughtOnce slots workers current steps

-- who brought the batch of a mapping to zero may unmap it as long as it isn't gone, and that is lawful in the world
abbrev pub WhoZeroedMayUnmap : ReclaimState → Type 0
WhoZeroedMayUnmap j = (p b : ℕ) (a : Agent) → j.batch p ≡ Some b → j.zeroed b ≡ Some a → status_of j.world p ≢ Some Gone → MayStep j (Unmap p a) × IsLawful j.world (event.Unmap p)

-- and nobody else may unmap it, nor may any mapping be unmapped whose batch has a count that isn't zero
abbrev pub OnlyWhoZeroedUnmaps : ReclaimState → Type 0
OnlyWhoZeroedUnmaps j = (p : ℕ) (a : Agent) → MayStep j (Unmap p a)
    → (b : ℕ) × (j.batch p ≡ Some b) × IsOpened j.owed b × (count_of j.owed b ≡ 0) × ((c : Agent) → MayStep j (Unmap p c) → c ≡ a)

-- ---- what is left to free

-- the batch of a mapping that is gone is opened, and was brought to zero
abbrev pub GoneIsZeroed : ReclaimState → Type 0
GoneIsZeroed j = (p : ℕ) → status_of j.world p ≡ Some Gone → (b : ℕ) × (j.batch p ≡ Some b) × IsOpened j.owed b × IsZeroed j b

-- agent a has nothing left to free: each mapping of a batch that it brought to zero is gone
abbrev pub NothingLeft : ReclaimState → Agent → Type 0
NothingLeft j a = (p b : ℕ) → j.batch p ≡ Some b → j.zeroed b ≡ Some a → status_of j.world p ≡ Some Gone

-- agent a has nothing left to free but of batch b
abbrev pub NothingLeftBut : ReclaimState → Agent → ℕ → Type 0
NothingLeftBut j a b = (p c : ℕ) → j.batch p ≡ Some c → j.zeroed c ≡ Some a → c ≢ b → status_of j.world p ≡ Some Gone

-- what an agent has left to free changes by its own steps alone: a step that doesn't bring a batch to zero, or is another
-- agent's, leaves it nothing where it had nothing; one that brings batch b to zero leaves it nothing but of b; and once each
-- mapping of b is gone, it has nothing left
pub record LeftByOwnSteps (j : ReclaimState) : Type 0 where
  pub nothing : (a : Agent) (x : Step) → MayStep j x → ((b : ℕ) → BringsToZero j x b → maker_of x ≢ a) → NothingLeft j a → NothingLeft (after j x) a
  pub brought : (a : Agent) (x : Step) → MayStep j x → (b : ℕ) → BringsToZero j x b → NothingLeft j a → NothingLeftBut (after j x) a b
  pub but : (a : Agent) (x : Step) → MayStep j x → ((c : ℕ) → BringsToZero j x c → maker_of x ≢ a) → (b : ℕ) → NothingLeftBut j a b → NothingLeftBut (after j x) a b
  pub done : (a : Agent) (b : ℕ) → NothingLeftBut j a b → ((p : ℕ) → j.batch p ≡ Some b → status_of j.world p ≡ Some Gone) → NothingLeft j a

-- agent a unmaps, in this run from j, each mapping of each batch that it brings to zero in it
abbrev pub UnmapsItsOwn : ReclaimState → List Step → Agent → Type 0
UnmapsItsOwn j more a = (p b : ℕ) → (reclaim_run j more).batch p ≡ Some b → j.zeroed b ≡ None → (reclaim_run j more).zeroed b ≡ Some a → Contains more (Unmap p a)

-- Where a worker with nothing left to free has then left, has paid what it owed, and has unmapped the mappings of each batch
-- that it brought to zero, its seat owes nothing, and again it has nothing left to free
abbrev pub LeaveReturns : ReclaimState → Type 0
LeaveReturns j = (i : ℕ) (more : List Step) → MayRun j more → NothingLeft j (Worker i) → UnmapsItsOwn j more (Worker i)
    → (IsIn (reclaim_run j more).world i → ⊥) → (MayStep (reclaim_run j more) (Pay i) → ⊥)
    → ((b : ℕ) → owes (reclaim_run j more).owed b (seat_at (reclaim_run j more).owed i) ≡ false) × NothingLeft (reclaim_run j more) (Worker i)

-- Where the mover has settled the last batch on every slot before it opens another one, the batch is settled everywhere, so
-- that the mover is idle; and where it had nothing left to free, and has unmapped the mappings of each batch that it brought
-- to zero, again it has nothing left to free
abbrev pub RetireReturns : ReclaimState → Type 0
RetireReturns j = (more : List Step) → MayRun j more → (Contains more Open → ⊥) → ((s : ℕ) → s < length j.owed.slots → Contains more (Settle s))
    → SettledEverywhere (reclaim_run j more).owed (last_batch j.owed) × IsIdle (reclaim_run j more).owed × (NothingLeft j Mover → UnmapsItsOwn j more Mover → NothingLeft (reclaim_run j more) Mover)

-- ---- quiet

-- each seat is away, nobody has anything left to free, each batch is settled everywhere, and no mapping is listed above the
-- last batch opened
pub record IsQuiet (j : ReclaimState) : Type 0 where
  pub away : AllAway j.owed
  pub nothing_left : (a : Agent) → NothingLeft j a
  pub idle : IsIdle j.owed
  pub none_above : NoneAbove j

-- where all is quiet no mapping is retired: each listed one is gone, and was unmapped by exactly one step
pub record AllIsGone (j : ReclaimState) (steps : List Step) : Type 0 where
  pub none_retired : (p : ℕ) → status_of j.world p ≢ Some Retired
  pub gone : (p b : ℕ) → j.batch p ≡ Some b → (status_of j.world p ≡ Some Gone) × (count_by (worlds.unmaps p) (events_of steps) ≡ 1)

abbrev pub QuietIsGone : Type 0
QuietIsGone = (slots workers : ℕ) (current : List ℕ) (steps : List Step) → IsSized slots workers → AllDiffer current → MayRun (reclaim_opening slots workers current) steps
    → IsQuiet (reclaim_run (reclaim_opening slots workers current) steps) → AllIsGone (reclaim_run (reclaim_opening slots workers current) steps) steps
