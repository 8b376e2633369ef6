-- The event machine: which mappings of its modules a world has, and which worker is inside which of them.
use Rattle.std.specs.Prelude.{◌≡◌, ◌≢◌, ℕ, ◌+◌, ◌<◌, Bool, true, false, ◌&&◌, ◌==◌, if◌then◌else◌, List, [], ◌∷◌, map as list_map, length, slice_index, slice_set, Option, Some, None, refl}
use Rattle.std.specs.Option.{option_map, IsSome}
use Rattle.std.specs.Ordering.{nat_cmp}
use Rattle.std.specs.FinMap as map
use Rattle.std.specs.FinSet as set
use Rattle.std.specs.Coded.{Coded, code_by, coded×, coded_ℕ}
use Rattle.ad_events.specs.declared.mapping.Status.{Status}
use Rattle.ad_events.specs.declared.mapping.Status.TheVariants.{Fresh, Current, Out, Retired, Gone}
use Rattle.ad_events.specs.declared.mapping.Mapping.{Mapping}
use Rattle.ad_events.specs.declared.event.Event.{Event}
use Rattle.ad_events.specs.declared.event.Event.TheVariants.{Enter, Read, Leave, Map, Switch, Retire, Unmap}
use Rattle.ad_events.specs.Mapping.{coded_mapping}

-- how many workers and modules there are, the module and the status of each mapping, the pairs (worker, mapping) of who is
-- inside what, at most one for a worker, and the workers that have entered and haven't read
pub record EventWorld : Type 0 where
  pub workers : ℕ
  pub modules : ℕ
  pub mappings : map.FinMap nat_cmp Mapping
  pub inside : map.FinMap nat_cmp ℕ
  pub entered : set.FinSet nat_cmp

-- a world is stored as its fields
abbrev pub coded_world : Coded EventWorld
coded_world =
    code_by (ℕ × (ℕ × (map.FinMap nat_cmp Mapping × (map.FinMap nat_cmp ℕ × set.FinSet nat_cmp))))
    (coded× coded_ℕ (coded× coded_ℕ (coded× (map.code coded_ℕ coded_mapping) (coded× (map.code coded_ℕ coded_ℕ) (set.code coded_ℕ)))))
    (λ w. (w.workers, (w.modules, (w.mappings, (w.inside, w.entered)))))
    (λ p. record { workers = p.0; modules = p.1.0; mappings = p.1.1.0; inside = p.1.1.1.0; entered = p.1.1.1.1 })
    (λ _. refl)

-- a mapping of module m with this status
abbrev pub mapping_of : ℕ → Status → Mapping
mapping_of m status = record { «module» = m; status = status }

-- the status of mapping p, if the world has the mapping
abbrev pub status_of : EventWorld → ℕ → Option Status
status_of w p = option_map (λ x. x.status) (map.get w.mappings p)

-- the event may happen
abbrev pub IsLawful : EventWorld → Event → Type 0
IsLawful w (Enter worker) = (worker < w.workers) × (set.contains w.entered worker ≡ false) × (map.get w.inside worker ≡ None)
IsLawful w (Read worker m p) = (set.contains w.entered worker ≡ true) × (map.get w.mappings p ≡ Some (mapping_of m Current))
IsLawful w (Leave worker) = IsSome (map.get w.inside worker)
IsLawful w (Map m p) = (m < w.modules) × (map.get w.mappings p ≡ None)
IsLawful w (Switch m p) = map.get w.mappings p ≡ Some (mapping_of m Fresh)
IsLawful w (Retire p) = status_of w p ≡ Some Out
IsLawful w (Unmap p) = (status_of w p ≡ Some Retired) × ((worker : ℕ) → map.get w.inside worker ≢ Some p)

abbrev pub is_current : Status → Bool
is_current Fresh = false
is_current Current = true
is_current Out = false
is_current Retired = false
is_current Gone = false

-- the mapping, which is out if it was the current one of module m
abbrev pub ended : ℕ → Mapping → Mapping
ended m x = if x.module == m && is_current x.status then mapping_of x.module Out else x

-- each value changed by f
abbrev pub map_values : (Mapping → Mapping) → map.FinMap nat_cmp Mapping → map.FinMap nat_cmp Mapping
map_values f ms = map.from_entries (list_map (λ e. (e.0, f e.1)) (map.entries ms))

-- the mappings, with this status at p, where x is there
abbrev pub put_status : map.FinMap nat_cmp Mapping → ℕ → Status → Option Mapping → map.FinMap nat_cmp Mapping
put_status ms p status None = ms
put_status ms p status (Some x) = map.insert ms p (mapping_of x.module status)

abbrev pub with_status : map.FinMap nat_cmp Mapping → ℕ → Status → map.FinMap nat_cmp Mapping
with_status ms p status = put_status ms p status (map.get ms p)

-- the mappings after an event
abbrev pub mappings_after : map.FinMap nat_cmp Mapping → Event → map.FinMap nat_cmp Mapping
mappings_after ms (Enter worker) = ms
mappings_after ms (Read worker m p) = ms
mappings_after ms (Leave worker) = ms
mappings_after ms (Map m p) = map.insert ms p (mapping_of m Fresh)
-- what was current in the module is out, and p is current
mappings_after ms (Switch m p) = map.insert (map_values (ended m) ms) p (mapping_of m Current)
mappings_after ms (Retire p) = with_status ms p Retired
mappings_after ms (Unmap p) = with_status ms p Gone

-- the pairs inside after an event
abbrev pub inside_after : map.FinMap nat_cmp ℕ → Event → map.FinMap nat_cmp ℕ
inside_after pairs (Enter worker) = pairs
inside_after pairs (Read worker m p) = map.insert pairs worker p
inside_after pairs (Leave worker) = map.remove pairs worker
inside_after pairs (Map m p) = pairs
inside_after pairs (Switch m p) = pairs
inside_after pairs (Retire p) = pairs
inside_after pairs (Unmap p) = pairs

-- the workers that have entered and haven't read, after an event
abbrev pub entered_after : set.FinSet nat_cmp → Event → set.FinSet nat_cmp
entered_after workers (Enter worker) = set.insert workers worker
entered_after workers (Read worker m p) = set.remove workers worker
entered_after workers (Leave worker) = workers
entered_after workers (Map m p) = workers
entered_after workers (Switch m p) = workers
entered_after workers (Retire p) = workers
entered_after workers (Unmap p) = workers

-- what the event makes of the world
abbrev pub effect : EventWorld → Event → EventWorld
effect w e =
    record {
      workers = w.workers;
      modules = w.modules;
      mappings = mappings_after w.mappings e;
      inside = inside_after w.inside e;
      entered = entered_after w.entered e;
    }

-- the event adds a pair, a worker or a mapping, and so takes memory
abbrev pub TakesMemory : Event → Type 0
TakesMemory (Enter worker) = Unit {0}
TakesMemory (Read worker m p) = Unit {0}
TakesMemory (Leave worker) = ⊥
TakesMemory (Map m p) = Unit {0}
TakesMemory (Switch m p) = ⊥
TakesMemory (Retire p) = ⊥
TakesMemory (Unmap p) = ⊥

-- the mappings of the modules from number i on, each current
abbrev pub opening_entries : ℕ → List ℕ → List (ℕ × Mapping)
opening_entries i [] = []
opening_entries i (p ∷ ps) = (p, mapping_of i Current) ∷ opening_entries (i + 1) ps

-- the world at the opening: module i has the i-th mapping given, which is current, and nobody has entered or is inside
abbrev pub world_opening : ℕ → List ℕ → EventWorld
world_opening workers current =
    record { workers = workers; modules = length current; mappings = map.from_entries (opening_entries 0 current); inside = map.empty; entered = set.empty }

-- no number stands twice
abbrev pub AllDiffer : List ℕ → Type 0
AllDiffer numbers = (i j : ℕ) → i < j → j < length numbers → slice_index numbers i ≢ slice_index numbers j

-- ---- what holds of every world

-- a mapping of this status may have workers inside
abbrev pub MayHold : Status → Type 0
MayHold Fresh = ⊥
MayHold Current = Unit {0}
MayHold Out = Unit {0}
MayHold Retired = Unit {0}
MayHold Gone = ⊥

abbrev pub MayBeInside : Option Mapping → Type 0
MayBeInside None = ⊥
MayBeInside (Some x) = MayHold x.status

-- `current` lists the current mapping of each module, and no other mapping is current; each mapping is of a module that there
-- is; who has entered is inside nothing; and who is inside a mapping is inside one that may hold it
pub record WorldFits (current : List ℕ) (mappings : map.FinMap nat_cmp Mapping) (inside : map.FinMap nat_cmp ℕ) (entered : set.FinSet nat_cmp) : Type 0 where
  pub listed : (m : ℕ) → m < length current → map.get mappings (slice_index current m) ≡ Some (mapping_of m Current)
  pub only : (p m : ℕ) → map.get mappings p ≡ Some (mapping_of m Current) → (m < length current) × (slice_index current m ≡ p)
  pub of_module : (p : ℕ) (x : Mapping) → map.get mappings p ≡ Some x → x.module < length current
  pub apart : (worker : ℕ) → set.contains entered worker ≡ true → map.get inside worker ≡ None
  pub held : (worker p : ℕ) → map.get inside worker ≡ Some p → MayBeInside (map.get mappings p)

-- the invariant of worlds: some list of current mappings, one for each module, fits the world
pub record IsWorld (w : EventWorld) : Type 0 where
  pub current : List ℕ
  pub same : w.modules ≡ length current
  pub fits : WorldFits current w.mappings w.inside w.entered

-- the list of current mappings after an event
abbrev pub current_after : List ℕ → Event → List ℕ
current_after current (Enter worker) = current
current_after current (Read worker m p) = current
current_after current (Leave worker) = current
current_after current (Map m p) = current
current_after current (Switch m p) = slice_set current m p
current_after current (Retire p) = current
current_after current (Unmap p) = current
