-- The laws of worlds: what holds of every world that some list of lawful events reaches.
use Rattle.std.specs.Prelude.{◌≡◌, ◌≢◌, ◌⊎◌, ℕ, ◌+◌, ◌<◌, ◌≤◌, Bool, true, false, ◌==◌, List, [], ◌∷◌, Option, Some, None, count_by, length, slice_index, fold}
use Rattle.std.specs.FinMap as map
use Rattle.std.specs.FinSet as set
use Rattle.ad_events.specs.declared.mapping.Status.{Status}
use Rattle.ad_events.specs.declared.mapping.Status.TheVariants.{Fresh, Current, Gone}
use Rattle.ad_events.specs.declared.mapping.Mapping.{Mapping}
use Rattle.ad_events.specs.declared.event.Event.{Event}
use Rattle.ad_events.specs.declared.event.Event.TheVariants.{Enter, Read, Leave, Map, Switch, Retire, Unmap}
use Rattle.ad_events.specs.Runs.{AllMay}
use Rattle.ad_events.specs.Mapping.{rank_of}
use Rattle.ad_events.specs.World.{EventWorld, mapping_of, status_of, IsLawful, effect, world_opening, AllDiffer, MayBeInside}

-- the world after a list of events
abbrev pub world_run : EventWorld → List Event → EventWorld
world_run w events = fold effect w events

-- each event of the list is lawful where it stands
abbrev pub AllLawful : EventWorld → List Event → Type 0
AllLawful w events = AllMay IsLawful effect w events

-- the law holds of the world after every list of lawful events from an opening
abbrev pub AfterAllEvents : (EventWorld → Type 0) → Type 0
AfterAllEvents Law = (workers : ℕ) (current : List ℕ) (events : List Event) → AllDiffer current → AllLawful (world_opening workers current) events → Law (world_run (world_opening workers current) events)

-- what the world at the opening has: each mapping given, current in the module at its place, no other mapping, and nobody
-- that has entered or is inside
pub record OpeningHas (workers : ℕ) (current : List ℕ) : Type 0 where
  pub given : (m : ℕ) → m < length current → map.get (world_opening workers current).mappings (slice_index current m) ≡ Some (mapping_of m Current)
  pub no_other : (p : ℕ) (x : Mapping) → map.get (world_opening workers current).mappings p ≡ Some x → (m : ℕ) × (m < length current) × (slice_index current m ≡ p) × (x ≡ mapping_of m Current)
  pub nobody_entered : (worker : ℕ) → set.contains (world_opening workers current).entered worker ≡ false
  pub nobody_inside : (worker : ℕ) → map.get (world_opening workers current).inside worker ≡ None

-- at every opening with different mappings
abbrev pub AtEveryOpening : Type 0
AtEveryOpening = (workers : ℕ) (current : List ℕ) → AllDiffer current → OpeningHas workers current

-- mapping p is the current mapping of module m
abbrev pub IsCurrent : EventWorld → ℕ → ℕ → Type 0
IsCurrent w m p = map.get w.mappings p ≡ Some (mapping_of m Current)

-- each module has exactly one current mapping
abbrev pub OneCurrent : EventWorld → Type 0
OneCurrent w = (m : ℕ) → m < w.modules → (p : ℕ) × IsCurrent w m p × ((q : ℕ) → IsCurrent w m q → q ≡ p)

-- what an event may make of a number's mapping: a new one is fresh, none goes away, and one that is there keeps its module,
-- and keeps its status or goes on to the next
abbrev pub GoesOn : Option Mapping → Option Mapping → Type 0
GoesOn None None = Unit {0}
GoesOn None (Some new) = new.status ≡ Fresh
GoesOn (Some old) None = ⊥
GoesOn (Some old) (Some new) = (new.module ≡ old.module) × ((new.status ≡ old.status) ⊎ (rank_of new.status ≡ rank_of old.status + 1))

-- each lawful event lets each mapping go on
abbrev pub EachGoesOn : EventWorld → Type 0
EachGoesOn w = (e : Event) → IsLawful w e → (p : ℕ) → GoesOn (map.get w.mappings p) (map.get (effect w e).mappings p)

-- a mapping stays in the world, and its status never goes back
abbrev pub NeverBack : EventWorld → Type 0
NeverBack w = (more : List Event) → AllLawful w more → (p : ℕ) (s : Status) → status_of w p ≡ Some s → (t : Status) × (status_of (world_run w more) p ≡ Some t) × (rank_of s ≤ rank_of t)

-- a mapping that a pair has is current, out or retired
abbrev pub InsideIsHeld : EventWorld → Type 0
InsideIsHeld w = (worker p : ℕ) → map.get w.inside worker ≡ Some p → MayBeInside (map.get w.mappings p)

-- no mapping is gone while a pair has it
abbrev pub NoneGoneInside : EventWorld → Type 0
NoneGoneInside w = (worker p : ℕ) → map.get w.inside worker ≡ Some p → status_of w p ≢ Some Gone

-- who has entered and hasn't read is inside nothing, so a worker has one pair at most
abbrev pub EnteredIsApart : EventWorld → Type 0
EnteredIsApart w = (worker : ℕ) → set.contains w.entered worker ≡ true → map.get w.inside worker ≡ None

-- the event unmaps mapping p
abbrev pub unmaps : ℕ → Event → Bool
unmaps p (Enter worker) = false
unmaps p (Read worker m q) = false
unmaps p (Leave worker) = false
unmaps p (Map m q) = false
unmaps p (Switch m q) = false
unmaps p (Retire q) = false
unmaps p (Unmap q) = q == p

-- a mapping that is gone was unmapped by exactly one event
abbrev pub GoneOnce : Type 0
GoneOnce = (workers : ℕ) (current : List ℕ) (events : List Event) → AllDiffer current → AllLawful (world_opening workers current) events
    → (p : ℕ) → status_of (world_run (world_opening workers current) events) p ≡ Some Gone → count_by (unmaps p) events ≡ 1

-- and one that isn't gone by none
abbrev pub NotGoneNever : Type 0
NotGoneNever = (workers : ℕ) (current : List ℕ) (events : List Event) → AllDiffer current → AllLawful (world_opening workers current) events
    → (p : ℕ) → status_of (world_run (world_opening workers current) events) p ≢ Some Gone → count_by (unmaps p) events ≡ 0

-- One worker, whose module 0 has mapping 1: the worker is inside mapping 1 when mapping 2 takes its place, so that mapping 1 is
-- unmapped after the worker has left
abbrev pub worked_row : List Event
worked_row = Enter 0 ∷ Read 0 0 1 ∷ Map 0 2 ∷ Switch 0 2 ∷ Retire 1 ∷ Leave 0 ∷ Unmap 1 ∷ []
