-- The rule of the table: the words and the views stand for one state of the joined machine, reached from the opening.
-- It has two halves. The mappings: current, directory, owner, cell, and what the mover's list tells. The owing: slot,
-- count, member. Each part has the areas that it reads as parameters.
use Rattle.std.specs.Prelude.{◌≡◌, ◌≢◌, ◌⊎◌, ℕ, ◌+◌, ◌%◌, ◌<◌, ◌≤◌, List, AllPairs, [], length, slice_index, count_by, Bool, true, false, ◌==◌, ◌&&◌, Contains, Option, Some, None}
use Rattle.std.specs.Ordering.{nat_cmp}
use Rattle.std.specs.FinMap as map
use Rattle.std.specs.FinSet as set
use mathlib.Core.Option.{some}
use lib.ListN.{get_elem?}
use Rattle.atomic_table.specs.Table.{State}
use Rattle.ad_base.specs.declared.place.Place.{Place}
use Rattle.ad_base.specs.Place.{base_of, packed}
use Rattle.ad_events.specs.declared.mapping.Status.{Status}
use Rattle.ad_events.specs.declared.mapping.Status.TheVariants.{Fresh, Current, Out, Retired, Gone}
use Rattle.ad_events.specs.declared.mapping.Mapping.{Mapping}
use Rattle.ad_events.specs.World.{EventWorld, mapping_of, status_of}
use Rattle.ad_events.specs.Owed as owing
use Rattle.ad_events.specs.Owed.{Passage, seat_at, count_of, passage_of, last_batch, IsOpened}
use Rattle.ad_events.specs.OwedLaws.{slot_word}
use Rattle.ad_events.specs.ReclaimLaws.{NothingLeft, NothingLeftBut}
use Rattle.ad_events.specs.Reclaim as machine
use Rattle.ad_events.specs.Reclaim.{Agent, ReclaimState}
use Rattle.ad_maps.specs.declared.shape.Shape.{Shape}
use Rattle.ad_maps.specs.declared.words.TheConstants.{CELLS, MEMBERS}
use Rattle.ad_maps.specs.declared.view.Act.TheVariants as act
use Rattle.ad_maps.specs.declared.view.Stance.{Stance}
use Rattle.ad_maps.specs.declared.view.Stance.TheVariants as stance
use Rattle.ad_maps.specs.declared.view.Hand.{Hand}
use Rattle.ad_maps.specs.declared.view.Made.{Made}
use Rattle.ad_maps.specs.declared.view.Stage.{Stage}
use Rattle.ad_maps.specs.declared.view.Stage.TheVariants as stage
use Rattle.ad_maps.specs.declared.view.Passing.{Passing}
use Rattle.ad_maps.specs.declared.view.Passing.TheVariants as passing
use Rattle.ad_maps.specs.declared.view.Freeing.{Freeing}
use Rattle.ad_maps.specs.declared.view.Freeing.TheVariants as freeing
use Rattle.ad_maps.specs.declared.view.Plan.{Plan}
use Rattle.ad_maps.specs.declared.view.Doing.{Doing}
use Rattle.ad_maps.specs.declared.view.Doing.TheVariants.{Spent, Worker, Mover}
use Rattle.ad_maps.specs.Names.{Words, AreWords}
use Rattle.ad_maps.specs.MapPlace.{directory_word, member_word, cell_word, cells_of, module_of_frame, numbers, IsPlaceOf, IsShape}
use Rattle.ad_maps.specs.Ledger.{all_made, line_in, reads_of, retires_in, unmaps_in_acts, unmaps_in_deeds, NeverFall}
use Rattle.ad_maps.specs.Steps.{made, new_hand}

-- words and views; the table has no slots of values
abbrev pub St : Type 0
St = State (Unit {0}) Doing

-- ---- the state of the joined machine

-- the state was reached from the opening, by steps that might be made where they stood
pub record Reached (shape : Shape) (j : ReclaimState) : Type 0 where
  pub past : List machine.Step
  pub may : machine.MayRun (machine.reclaim_opening shape.slots shape.workers (numbers shape)) past
  pub is : j ≡ machine.reclaim_run (machine.reclaim_opening shape.slots shape.workers (numbers shape)) past

-- ---- the mappings
-- the mappings of a world, by number
abbrev pub AllMappings : Type 0
AllMappings = map.FinMap nat_cmp Mapping

-- the world has the mapping, of this module and with this status, and this is its place
pub record IsAs (ms : AllMappings) (places : ℕ → Place) (g : Made) (s : Status) : Type 0 where
  pub there : map.get ms g.place.mapping ≡ Some (mapping_of g.of_module s)
  pub placed : places g.place.mapping ≡ g.place

-- a mapping is in the directory, owns its frame, and has its own cells there
pub record IsMapped (shape : Shape) (directory owner : ℕ → ℕ) (cell : ℕ → ℕ → ℕ) (m : ℕ) (p : Place) : Type 0 where
  pub word : directory p.region ≡ packed p
  pub owns : owner p.frame ≡ p.mapping
  pub cells : (e : ℕ) → e < CELLS → cell p.frame e ≡ cell_word (cells_of shape m) (base_of p) e

-- what the words say of a mapping, by its status
abbrev pub WordsSay : Shape → (ℕ → ℕ) → (ℕ → ℕ) → (ℕ → ℕ → ℕ) → ℕ → Place → Status → Type 0
WordsSay shape directory owner cell m p Fresh = IsMapped shape directory owner cell m p
WordsSay shape directory owner cell m p Current = IsMapped shape directory owner cell m p
WordsSay shape directory owner cell m p Out = IsMapped shape directory owner cell m p
WordsSay shape directory owner cell m p Retired = IsMapped shape directory owner cell m p
WordsSay shape directory owner cell m p Gone = directory p.region ≡ directory_word p 1

-- a mapping of the world has a place of its module, was made there, and has its words
pub record MappingStands (shape : Shape) (ledger : List Made) (directory owner : ℕ → ℕ) (cell : ℕ → ℕ → ℕ) (p : Place) (n : ℕ) (x : Mapping) : Type 0 where
  pub number : p.mapping ≡ n
  pub form : IsPlaceOf shape x.module p
  pub listed : Contains ledger (made x.module p)
  pub words : WordsSay shape directory owner cell x.module p x.status

-- the current mapping of module m, and its word
pub record CurrentStands (ms : AllMappings) (places : ℕ → Place) (currents : List ℕ) (current : ℕ → ℕ) (m : ℕ) : Type 0 where
  pub there : map.get ms (slice_index currents m) ≡ Some (mapping_of m Current)
  pub word : current m ≡ packed (places (slice_index currents m))

-- the directory's word of a region in which there is no mapping is 0
abbrev pub RegionStands : AllMappings → (ℕ → Place) → (ℕ → ℕ) → ℕ → Type 0
RegionStands ms places directory r = directory r ≢ 0 → (n : ℕ) × (x : Mapping) × (map.get ms n ≡ Some x) × ((places n).region ≡ r)

-- no mapping that was made in a frame has a number above that of the frame's owner
abbrev pub OwnersAreNewest : List Made → (ℕ → ℕ) → Type 0
OwnersAreNewest ledger owner = (f : ℕ) → owner f ≢ 0 → (x : Made) → Contains ledger x → x.place.frame ≡ f → x.place.mapping ≤ owner f

-- a worker or the mover unmapped the mapping of this place, and hasn't given its frame back
abbrev pub IsToGive : (Agent → List Place) → Place → Type 0
IsToGive gives p = (a : Agent) × Contains (gives a) p

-- the frame is taken for a mapping of this number, which isn't in the directory yet
abbrev pub IsTaken : Stage → ℕ → ℕ → Type 0
IsTaken stage.Idle f n = ⊥
IsTaken (stage.Taken g filled) f n = (g.place.frame ≡ f) × (g.place.mapping ≡ n)

-- A frame has no owner, or is owned by a mapping that isn't Gone, or by one whose give is still to come, or is taken
abbrev pub OwnerStands : AllMappings → (ℕ → Place) → (Place → Type 0) → Stage → ℕ → ℕ → Type 0
OwnerStands ms places to_give stage f n =
    (n ≡ 0)
    ⊎ (((x : Mapping) × (map.get ms n ≡ Some x) × (x.status ≢ Gone) × ((places n).frame ≡ f))
    ⊎ (((p : Place) × to_give p × (p.frame ≡ f) × (p.mapping ≡ n))
    ⊎ IsTaken stage f n))

-- a mapping whose give is to come is Gone, and owns its frame still
pub record GiveStands (ms : AllMappings) (places : ℕ → Place) (owner : ℕ → ℕ) (p : Place) : Type 0 where
  pub «module» : ℕ
  pub gone : IsAs ms places (made «module» p) Gone
  pub owns : owner p.frame ≡ p.mapping

-- a new mapping whose frame is taken, and some of whose cells are filled
pub record IsFilled (shape : Shape) (ledger : List Made) (owner : ℕ → ℕ) (cell : ℕ → ℕ → ℕ) (g : Made) (filled : ℕ) : Type 0 where
  pub form : IsPlaceOf shape g.of_module g.place
  pub above : (x : Made) → Contains ledger x → x.place.mapping < g.place.mapping
  pub region : (x : Made) → Contains ledger x → x.place.region ≢ g.place.region
  pub owns : owner g.place.frame ≡ g.place.mapping
  pub within : filled ≤ length (cells_of shape g.of_module)
  pub cells : (e : ℕ) → e < filled → cell g.place.frame e ≡ cell_word (cells_of shape g.of_module) (base_of g.place) e

-- how far a new mapping is
abbrev pub StageStands : Shape → List Made → (ℕ → ℕ) → (ℕ → ℕ → ℕ) → Stage → Type 0
StageStands shape ledger owner cell stage.Idle = Unit {0}
StageStands shape ledger owner cell (stage.Taken g filled) = IsFilled shape ledger owner cell g filled

-- the mappings of this list are all that have this status
pub record AreAll (ms : AllMappings) (places : ℕ → Place) (gs : List Made) (s : Status) : Type 0 where
  pub each : (g : Made) → Contains gs g → IsAs ms places g s
  pub only : (n m : ℕ) → map.get ms n ≡ Some (mapping_of m s) → Contains gs (made m (places n))

-- the first half of the rule
pub record Mappings (shape : Shape) (ms : AllMappings) (places : ℕ → Place) (ledger : List Made) (plan : Plan) (gives : Agent → List Place) (current directory owner : ℕ → ℕ) (cell : ℕ → ℕ → ℕ) : Type 0 where
  pub each : (n : ℕ) (x : Mapping) → map.get ms n ≡ Some x → MappingStands shape ledger directory owner cell (places n) n x
  pub each_made : (g : Made) → Contains ledger g → (s : Status) × IsAs ms places g s
  pub wide : length plan.current ≡ length shape.modules
  pub each_current : (m : ℕ) → m < length shape.modules → CurrentStands ms places plan.current current m
  pub each_region : (r : ℕ) → RegionStands ms places directory r
  pub each_owner : (f : ℕ) → OwnerStands ms places (IsToGive gives) plan.stage f (owner f)
  pub newest : OwnersAreNewest ledger owner
  pub each_give : (p : Place) → IsToGive gives p → GiveStands ms places owner p
  pub past_cells : (f e : ℕ) → length (cells_of shape (module_of_frame shape f)) ≤ e → cell f e ≡ 0
  pub fresh : AreAll ms places plan.fresh Fresh
  pub outs : AreAll ms places plan.outs Out
  pub rooms : (f : ℕ) → Contains plan.rooms f → owner f ≡ 0
  pub stage : StageStands shape ledger owner cell plan.stage

-- ---- what is owed

-- the seat of a worker in the machine of what is owed
abbrev pub seat_of : ℕ → Stance → owing.Seat
seat_of slot stance.Away = owing.Away
seat_of slot (stance.Entered entry) = owing.Inside slot entry
seat_of slot (stance.Inside entry m p) = owing.Inside slot entry
seat_of slot (stance.Paying paid last) = owing.Paying slot paid last

-- a member's word is that of this mapping
abbrev pub IsMember : (ℕ → ℕ → ℕ) → (ℕ → ℕ) → (ℕ → Place) → ℕ → ℕ → ℕ → Type 0
IsMember member lines places b k n = member b k ≡ member_word (lines n) (places n).region

-- The second half of the rule. The line of a row stands behind `lines`, and is 0 where no batch lists the mapping.
pub record Owing (shape : Shape) (owed : owing.State) (batch : ℕ → Option ℕ) (places : ℕ → Place) (lines : ℕ → ℕ) (slot count : ℕ → ℕ) (member : ℕ → ℕ → ℕ) : Type 0 where
  pub slots : length owed.slots ≡ shape.slots
  pub seats : length owed.seats ≡ shape.workers
  pub each_slot : (s : ℕ) → s < shape.slots → slot s ≡ slot_word owed s
  pub each_count : (b : ℕ) → IsOpened owed b → count b ≡ count_of owed b
  pub no_count : (b : ℕ) → last_batch owed < b → count b ≡ 0
  pub each_listed : (n b : ℕ) → batch n ≡ Some b → (k : ℕ) × (k < MEMBERS) × IsMember member lines places b k n
  pub each_member : (b k : ℕ) → member b k ≢ 0 → (n : ℕ) × (batch n ≡ Some b) × IsMember member lines places b k n
  pub once : (b i k : ℕ) → member b i ≢ 0 → member b i ≡ member b k → i ≡ k
  pub each_line : (n : ℕ) → batch n ≡ None → lines n ≡ 0
  pub some_line : (n b : ℕ) → batch n ≡ Some b → 0 < lines n

-- ---- the mover's batch

-- the last batch opened is settled on the slots before this one, is ahead of those behind it, and has come so far on it
pub record IsPassing (owed : owing.State) (s : ℕ) (come : Passage) : Type 0 where
  pub opened : 0 < last_batch owed
  pub slot : s < length owed.slots
  pub before : (t : ℕ) → t < s → passage_of owed (last_batch owed) t ≡ owing.Settled
  pub here : passage_of owed (last_batch owed) s ≡ come
  pub behind : (t : ℕ) → s < t → t < length owed.slots → passage_of owed (last_batch owed) t ≡ owing.Ahead

-- how far the mover's next batch is, where so many mappings were retired
abbrev pub PassingStands : owing.State → ℕ → Passing → Type 0
PassingStands owed retired passing.Rest = owing.IsIdle owed
PassingStands owed retired (passing.Listing k) = owing.IsIdle owed × (last_batch owed < retired)
PassingStands owed retired (passing.Settled s) = IsPassing owed s owing.Ahead
PassingStands owed retired (passing.Pushed s found) = IsPassing owed s (owing.Pushed found)

-- so many mappings are listed in the next batch
abbrev pub listed_in : Passing → ℕ
listed_in passing.Rest = 0
listed_in (passing.Listing k) = k
listed_in (passing.Settled s) = 0
listed_in (passing.Pushed s found) = 0

-- The mover's batches. Each lists a mapping that was retired, no mapping was retired twice, and past the members that are
-- listed in the next batch the members' words are 0
pub record Batching (owed : owing.State) (batch : ℕ → Option ℕ) (member : ℕ → ℕ → ℕ) (plan : Plan) : Type 0 where
  pub number : plan.batches ≡ last_batch owed
  pub stands : PassingStands owed (length (retires_in plan.deeds)) plan.passing
  pub enough : last_batch owed ≤ length (retires_in plan.deeds)
  pub retired : (n : ℕ) → Contains (retires_in plan.deeds) n → (b : ℕ) × (batch n ≡ Some b)
  pub differ : AllPairs (λ (n k : ℕ). n ≢ k) (retires_in plan.deeds)
  pub next : (k : ℕ) → listed_in plan.passing ≤ k → member (last_batch owed + 1) k ≡ 0
  pub later : (b k : ℕ) → last_batch owed + 1 < b → member b k ≡ 0

-- ---- freeing

-- the agent brought the count of the mapping's batch to zero
abbrev pub IsZeroedBy : ReclaimState → ℕ → Agent → Type 0
IsZeroedBy j n a = (b : ℕ) × (j.batch n ≡ Some b) × (j.zeroed b ≡ Some a)

-- The agent brought the count of batch b to zero, and has nothing else to free. The mappings of the batch that aren't Gone
-- are its members from number k on
pub record FreesFrom (j : ReclaimState) (member : ℕ → ℕ → ℕ) (lines : ℕ → ℕ) (places : ℕ → Place) (a : Agent) (b k : ℕ) : Type 0 where
  pub brought : j.zeroed b ≡ Some a
  pub other : NothingLeftBut j a b
  pub low : k < MEMBERS
  pub rest : (n : ℕ) → j.batch n ≡ Some b → status_of j.world n ≢ Some Gone → (i : ℕ) × (k ≤ i) × (i < MEMBERS) × IsMember member lines places b i n
  pub ahead : (n i : ℕ) → j.batch n ≡ Some b → k ≤ i → IsMember member lines places b i n → status_of j.world n ≢ Some Gone

-- how far an agent has freed a batch
abbrev pub FreeingStands : ReclaimState → (ℕ → ℕ → ℕ) → (ℕ → ℕ) → (ℕ → Place) → Agent → Freeing → Type 0
FreeingStands j member lines places a freeing.Nothing = NothingLeft j a
FreeingStands j member lines places a (freeing.Batch b k) = FreesFrom j member lines places a b k
FreeingStands j member lines places a (freeing.Found b k word) = FreesFrom j member lines places a b k × (member b k ≡ word) × (word ≢ 0)

-- The third part of the rule: what each agent has to free, and the frames that it has to give back
pub record Freed (j : ReclaimState) (member : ℕ → ℕ → ℕ) (lines : ℕ → ℕ) (places : ℕ → Place) (gives : Agent → List Place) (frees : Agent → Freeing) : Type 0 where
  pub each : (a : Agent) → FreeingStands j member lines places a (frees a)
  pub each_give : (a : Agent) (p : Place) → Contains (gives a) p → IsZeroedBy j p.mapping a

-- and the views say so
pub record Tells (hands : ℕ → Hand) (plan : Plan) (gives : Agent → List Place) (frees : Agent → Freeing) : Type 0 where
  pub hand : (w : ℕ) → (hands w).freeing ≡ frees (machine.Worker w)
  pub own : plan.freeing ≡ frees machine.Mover
  pub own_gives : plan.gives ≡ gives machine.Mover

-- ---- the lists

-- the two agents are one
abbrev pub is_same : Agent → Agent → Bool
is_same (machine.Worker w) (machine.Worker v) = w == v
is_same (machine.Worker w) machine.Mover = false
is_same machine.Mover (machine.Worker v) = false
is_same machine.Mover machine.Mover = true

-- the step is the agent's unmap of the mapping of number n
abbrev pub unmaps_by : Agent → ℕ → machine.Step → Bool
unmaps_by a n (machine.Unmap k c) = is_same c a && (k == n)
unmaps_by a n _ = false

-- so many unmaps of each mapping an agent made, of these steps
abbrev pub unmaps_made : Agent → List machine.Step → ℕ → ℕ
unmaps_made a steps n = count_by (unmaps_by a n) steps

-- of the steps that were made from the opening on, each seat made as many unmaps of each mapping as its list tells
pub record Telling (hands : ℕ → Hand) (plan : Plan) (past : List machine.Step) : Type 0 where
  pub worker : (w n : ℕ) → unmaps_in_acts (hands w).acts n ≡ unmaps_made (machine.Worker w) past n
  pub mover : (n : ℕ) → unmaps_in_deeds plan.deeds n ≡ unmaps_made machine.Mover past n

-- ---- the views

-- where a worker is in the world
abbrev pub StanceStands : EventWorld → (ℕ → Place) → ℕ → Stance → Type 0
StanceStands world places w stance.Away = Unit {0}
StanceStands world places w (stance.Entered entry) = set.contains world.entered w ≡ true
StanceStands world places w (stance.Inside entry m p) = (map.get world.inside w ≡ Some p.mapping) × ((s : Status) × IsAs world.mappings places (made m p) s)
StanceStands world places w (stance.Paying paid last) = Unit {0}

-- a place that a seat read is that of a mapping which was made, and whose number is at most the current one's
pub record ReadStands (ledger : List Made) (currents : List ℕ) (m : ℕ) (p : Place) : Type 0 where
  pub listed : Contains ledger (made m p)
  pub past : p.mapping ≤ slice_index currents m

-- what a worker's seat knows is so
pub record HandStands (shape : Shape) (world : EventWorld) (places : ℕ → Place) (ledger : List Made) (currents : List ℕ) (gives : Agent → List Place) (w : ℕ) (h : Hand) : Type 0 where
  pub slot : h.slot ≡ w % shape.slots
  pub to_give : h.gives ≡ gives (machine.Worker w)
  pub stance : StanceStands world places w h.stance
  pub reads : (m : ℕ) (p : Place) → Contains h.acts (act.Read m p) → ReadStands ledger currents m p
  pub falls : (m : ℕ) → NeverFall (reads_of m h.acts)

-- a worker's seat that is away, and has nothing to pay, to free or to give back
pub record IsAtRest (h : Hand) : Type 0 where
  pub away : h.stance ≡ stance.Away
  pub freed : h.freeing ≡ freeing.Nothing
  pub given : h.gives ≡ []

-- which seats were split off, and which were joined again, at rest
pub record Dealt (shape : Shape) (hands : ℕ → Hand) (plan : Plan) : Type 0 where
  pub slots : plan.slots ≡ shape.slots
  pub few : plan.dealt ≤ shape.workers
  pub undealt : (w : ℕ) → plan.dealt ≤ w → hands w ≡ new_hand (w % shape.slots)
  pub back : (w : ℕ) → w < length plan.back → IsAtRest (hands w) × (get_elem? plan.back w ≡ some (hands w))

-- what the seat of this index knows
module _ (hands : ℕ → Hand) (owner : ℕ → ℕ) (plan : Plan) (mover : ℕ) (seat : ℕ) where
  abbrev pub Knows : Doing → Type 0
  Knows Spent = Unit {0}
  Knows (Worker w h) = (w < plan.dealt) × (length plan.back ≤ w) × (owner w ≡ seat) × (h ≡ hands w)
  Knows (Mover q) = (q ≡ plan) × (seat ≡ mover)

-- each worker whose seat was split off and not joined again has its seat, and the mover has its own
pub record Seated (hands : ℕ → Hand) (owner : ℕ → ℕ) (plan : Plan) (mover : ℕ) (views : List Doing) : Type 0 where
  pub worker : (w : ℕ) → length plan.back ≤ w → w < plan.dealt → get_elem? views (owner w) ≡ some (Worker w (hands w))
  pub own : get_elem? views mover ≡ some (Mover plan)

-- ---- the rule

-- The words and the views of a table that was opened with this shape. A worker's number has one seat at most, its
-- seater, and one seat is the mover's.
pub record Kept (shape : Shape) (s : St) : Type 0 where
  pub words : Words
  pub state : ReclaimState
  pub places : ℕ → Place
  pub ledger : List Made
  pub lines : ℕ → ℕ
  pub gives : Agent → List Place
  pub frees : Agent → Freeing
  pub hands : ℕ → Hand
  pub seater : ℕ → ℕ
  pub plan : Plan
  pub mover : ℕ
  pub form : IsShape shape
  pub reads : AreWords s.words words
  pub reached : Reached shape state
  pub mappings : Mappings shape state.world.mappings places ledger plan gives words.current words.directory words.owner words.cell
  pub owing : Owing shape state.owed state.batch places lines words.slot words.count words.member
  pub batching : Batching state.owed state.batch words.member plan
  pub freed : Freed state words.member lines places gives frees
  pub tells : Tells hands plan gives frees
  pub unmaps : Telling hands plan reached.past
  pub ledger_is : ledger ≡ all_made shape plan.deeds
  pub lines_are : (n : ℕ) → lines n ≡ line_in plan.deeds n
  pub each_stance : (w : ℕ) → seat_at state.owed w ≡ seat_of (w % shape.slots) (hands w).stance
  pub each_hand : (w : ℕ) → HandStands shape state.world places ledger plan.current gives w (hands w)
  pub each_seat : (i : ℕ) (view : Doing) → get_elem? s.views i ≡ some view → Knows hands seater plan mover i view
  pub seated : Seated hands seater plan mover s.views
  pub dealt : Dealt shape hands plan

-- what the mover knows at first: each module's first mapping is current, nothing is under way, and no worker has its seat
abbrev pub starting_plan : Shape → Plan
starting_plan shape = record { stage = stage.Idle; passing = passing.Rest; batches = 0; freeing = freeing.Nothing; slots = shape.slots; dealt = 0; current = numbers shape; fresh = []; outs = []; rooms = []; gives = []; deeds = []; back = [] }

-- the view of the first seat, the mover's
abbrev pub starting : Shape → Doing
starting shape = Mover (starting_plan shape)
