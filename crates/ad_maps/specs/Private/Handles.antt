-- What the seats of the handles know between two steps.
use Rattle.std.specs.Prelude.{◌≡◌, ◌≢◌, ℕ, ◌+◌, ◌<◌, ◌≤◌, List, [], ◌∷◌, ◌++◌, length, map, ◌==◌, if◌then◌else◌, All, Contains, Option, None, Some}
use Rattle.atomic_table.specs.Seated.{TableId}
use Rattle.ad_base.specs.declared.place.Place.{Place}
use Rattle.ad_maps.specs.declared.words.TheConstants.{NUMBERS, SLOTS, WORDS}
use Rattle.ad_maps.specs.declared.view.Act.{Act}
use Rattle.ad_maps.specs.declared.view.Stance.{Stance}
use Rattle.ad_maps.specs.declared.view.Stance.TheVariants as stance
use Rattle.ad_maps.specs.declared.view.Made.{Made}
use Rattle.ad_maps.specs.declared.view.Stage.TheVariants as stage
use Rattle.ad_maps.specs.declared.view.Passing.TheVariants as passing
use Rattle.ad_maps.specs.declared.view.Freeing.{Freeing}
use Rattle.ad_maps.specs.declared.view.Freeing.TheVariants as freeing
use Rattle.ad_maps.specs.declared.view.Plan.{Plan}
use Rattle.ad_maps.specs.declared.view.Doing.{Doing}
use Rattle.ad_maps.specs.declared.view.Doing.TheVariants.{Spent, Worker, Mover}
use Rattle.ad_maps.specs.declared.view.Deed.TheVariants as deed
use Rattle.ad_maps.specs.declared.shape.Shape.{Shape}
use Rattle.ad_maps.specs.Ledger.{all_made, line_in, AreLastIn}
use Rattle.ad_maps.specs.Seen.{looks_from, retires_of}
use Rattle.ad_maps.specs.declared.view.Act.TheVariants as act
use Rattle.ad_maps.specs.declared.view.Passing.{Passing}
use Rattle.ad_maps.specs.Steps.{Sat, but_all, freeing_of, gives_of, made, settled_on, without}

-- the seat is of this table, which has the words of a mapping table
pub record IsAt (table seat : TableId) : Type 0 where
  pub same : seat ≡ table
  pub words : table.words ≡ WORDS

-- what a worker's view says that it did
abbrev pub acts_of : Doing → List Act
acts_of Spent = []
acts_of (Worker w h) = h.acts
acts_of (Mover q) = []

abbrev pub stance_of : Doing → Stance
stance_of Spent = stance.Away
stance_of (Worker w h) = h.stance
stance_of (Mover q) = stance.Away

-- the mapping that a worker is inside
abbrev pub pinned_by : Stance → Option Made
pinned_by stance.Away = None
pinned_by (stance.Entered entry) = None
pinned_by (stance.Inside entry m p) = Some (made m p)
pinned_by (stance.Paying paid last) = None

abbrev pub worker_of : Doing → ℕ
worker_of Spent = 0
worker_of (Worker w h) = w
worker_of (Mover q) = 0

-- the entry number of a stance, and the module that it is inside
abbrev pub entry_in : Stance → ℕ
entry_in stance.Away = 0
entry_in (stance.Entered entry) = entry
entry_in (stance.Inside entry m p) = entry
entry_in (stance.Paying paid last) = paid

abbrev pub module_in : Stance → ℕ
module_in stance.Away = 0
module_in (stance.Entered entry) = 0
module_in (stance.Inside entry m p) = m
module_in (stance.Paying paid last) = 0

-- the seat is a worker's, which enters on this slot and is there, and has this to free
pub record IsFreer (me : Sat) (slot : ℕ) (stance : Stance) (frees : Freeing) : Type 0 where
  pub few : slot < SLOTS
  pub view : me ≡ (Worker (worker_of me.0) (record { slot = slot; stance = stance; freeing = frees; gives = []; acts = acts_of me.0 }), [])

-- and has nothing to free
abbrev pub IsWorker : Sat → ℕ → Stance → Type 0
IsWorker me slot stance = IsFreer me slot stance freeing.Nothing

-- the seat has entered, and hasn't read
abbrev pub IsEntered : Sat → ℕ → Type 0
IsEntered me slot = IsWorker me slot (stance.Entered (entry_in (stance_of me.0)))

-- the seat is inside the mapping of this place
abbrev pub IsPinned : Sat → ℕ → Place → Type 0
IsPinned me slot p = IsWorker me slot (stance.Inside (entry_in (stance_of me.0)) (module_in (stance_of me.0)) p)

-- what the mover's view says
abbrev pub plan_of : Doing → Plan
plan_of Spent = record { stage = stage.Idle; passing = passing.Rest; batches = 0; freeing = freeing.Nothing; slots = 0; dealt = 0; current = []; fresh = []; outs = []; rooms = []; gives = []; deeds = []; back = [] }
plan_of (Worker w h) = record { stage = stage.Idle; passing = passing.Rest; batches = 0; freeing = freeing.Nothing; slots = 0; dealt = 0; current = []; fresh = []; outs = []; rooms = []; gives = []; deeds = []; back = [] }
plan_of (Mover q) = q

-- the seat is the mover's
abbrev pub IsMover : Sat → Type 0
IsMover me = me ≡ (Mover (plan_of me.0), [])

-- where a mapping may be retired, there is a number for one more batch
abbrev pub HasRoom : Plan → Type 0
HasRoom q = (g : Made) → Contains q.outs g → q.batches + 1 < NUMBERS

-- no new mapping and no batch is under way, nothing is to be freed or given back, no worker's seat came back, and
-- there are so many slots and batches
pub record IsIdle (me : Sat) (slots batches : ℕ) : Type 0 where
  pub mover : IsMover me
  pub stage : (plan_of me.0).stage ≡ stage.Idle
  pub passing : (plan_of me.0).passing ≡ passing.Rest
  pub freed : (plan_of me.0).freeing ≡ freeing.Nothing
  pub given : (plan_of me.0).gives ≡ []
  pub room : HasRoom (plan_of me.0)
  pub slots_are : slots ≡ (plan_of me.0).slots
  pub some_slot : 1 ≤ slots
  pub few_slots : slots ≤ SLOTS
  pub batches_are : batches ≡ (plan_of me.0).batches
  pub back : (plan_of me.0).back ≡ []

-- the plan once a frame is taken and so many of its cells are filled
abbrev pub filled : Made → ℕ → Plan → Plan
filled g k q = record q { stage = stage.Taken g k }

-- the plan once a new mapping is made
abbrev pub mapped_plan : Made → Plan → Plan
mapped_plan g q = record q { stage = stage.Idle; rooms = without g.place.frame q.rooms; fresh = q.fresh ++ g ∷ []; deeds = q.deeds ++ deed.Map g.of_module g.place ∷ [] }

-- the plan once the frames from the first one on were found to have these owners
abbrev pub looked : ℕ → List ℕ → Plan → Plan
looked first owners q = record q { deeds = q.deeds ++ looks_from first owners }

-- so many frames from the first one on were looked at, each with an owner; the last one's is this
pub record HaveOwners (shape : Shape) (first count last : ℕ) (before : Plan) (me : Sat) : Type 0 where
  pub owners : List ℕ
  pub length_is : length owners ≡ count
  pub owned : All (λ (o : ℕ). o ≢ 0) owners
  pub newest : AreLastIn (all_made shape before.deeds) first owners
  pub view : me ≡ (Mover (looked first owners before), [])
  pub end : 0 < count → (earlier : List ℕ) × (owners ≡ earlier ++ last ∷ [])

-- the frame has no owner, and each one before it has one
pub record FindsFrame (shape : Shape) (first frames frame : ℕ) (before : Plan) (me : Sat) : Type 0 where
  pub owners : List ℕ
  pub owned : All (λ (o : ℕ). o ≢ 0) owners
  pub newest : AreLastIn (all_made shape before.deeds) first owners
  pub frame_is : frame ≡ first + length owners
  pub within : length owners < frames
  pub view : me ≡ (Mover (record before { rooms = frame ∷ before.rooms; deeds = before.deeds ++ looks_from first (owners ++ 0 ∷ []) }), [])

-- each frame has an owner, the last one this
pub record FindsNone (shape : Shape) (first frames owner : ℕ) (before : Plan) (me : Sat) : Type 0 where
  pub owners : List ℕ
  pub owned : All (λ (o : ℕ). o ≢ 0) (owners ++ owner ∷ [])
  pub newest : AreLastIn (all_made shape before.deeds) first (owners ++ owner ∷ [])
  pub all : length owners + 1 ≡ frames
  pub view : me ≡ (Mover (looked first (owners ++ owner ∷ []) before), [])

-- ---- freeing a batch

-- the view once these mappings were unmapped and their frames given back, with this left to free
abbrev pub freed_by : Doing → List ℕ → Freeing → Doing
freed_by Spent numbers frees = Spent
freed_by (Worker w h) numbers frees = Worker w (record h { freeing = frees; acts = h.acts ++ map (λ (n : ℕ). act.Unmap n) numbers })
freed_by (Mover q) numbers frees = Mover (record q { freeing = frees; deeds = q.deeds ++ map (λ (n : ℕ). deed.Unmap n) numbers })

-- where the seat is the mover's, it retired the mapping of this number
abbrev pub HasRetired : Doing → ℕ → Type 0
HasRetired Spent n = Unit {0}
HasRetired (Worker w h) n = Unit {0}
HasRetired (Mover q) n = 0 < line_in q.deeds n

-- the seat has unmapped some mappings and given their frames back, and has this left to free
pub record Frees (before : Doing) (frees : Freeing) (me : Sat) : Type 0 where
  pub numbers : List ℕ
  pub retired : All (HasRetired before) numbers
  pub view : me ≡ (freed_by before numbers frees, [])

-- the seat has this to free, and nothing to give back
pub record IsToFree (me : Sat) (frees : Freeing) : Type 0 where
  pub freeing : freeing_of me.0 ≡ frees
  pub gives : gives_of me.0 ≡ []
  pub slots : me.1 ≡ []

-- ---- passing a batch

-- so many mappings are listed in the mover's next batch
abbrev pub listed_to : ℕ → Passing
listed_to k = if k == 0 then passing.Rest else passing.Listing k

-- the plan once these mappings are listed under this line
abbrev pub listed_all : ℕ → List Made → Plan → Plan
listed_all line gs q = record q { passing = listed_to (length gs); outs = but_all gs q.outs; deeds = q.deeds ++ retires_of line gs }

-- the plan once the batch is settled on so many slots, and these mappings were unmapped
abbrev pub passed_on : ℕ → List ℕ → Plan → Plan
passed_on s numbers q = record q { passing = settled_on q.slots s; deeds = q.deeds ++ map (λ (n : ℕ). deed.Unmap n) numbers }

-- the seat has settled its batch on so many slots, and unmapped mappings that it had retired
pub record Passes (before : Plan) (s : ℕ) (me : Sat) : Type 0 where
  pub numbers : List ℕ
  pub retired : All (λ (n : ℕ). 0 < line_in before.deeds n) numbers
  pub view : me ≡ (Mover (passed_on s numbers before), [])
