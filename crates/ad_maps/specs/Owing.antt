-- What is owed, read off the words and the views: what holds between any two steps of any seats.
use Rattle.std.specs.Prelude.{◌≡◌, ◌≢◌, ◌⊎◌, ◌↔◌, ℕ, ◌<◌, ◌≤◌, true, false, Some, Contains}
use mathlib.Core.Option.{some}
use lib.ListN.{get_elem?}
use Rattle.ad_base.specs.declared.layout.TheConstants.{REGIONS}
use Rattle.ad_base.specs.declared.place.Place.{Place}
use Rattle.ad_base.specs.Place.{IsPlace}
use Rattle.ad_events.specs.declared.mapping.Status.TheVariants.{Fresh, Current, Out, Retired, Gone}
use Rattle.ad_events.specs.World.{status_of}
use Rattle.ad_events.specs.Owed as owing
use Rattle.ad_events.specs.Owed.{seat_at, count_of, owed_of, owes, IsOpened, SettledEverywhere, WaitsFor}
use Rattle.ad_events.specs.OwedLaws.{NobodyOwes}
use Rattle.ad_events.specs.Reclaim as machine
use Rattle.ad_events.specs.Reclaim.{Agent}
use Rattle.ad_events.specs.ReclaimInvariant.{IsZeroed}
use Rattle.ad_events.specs.ReclaimLaws.{NotedByMaker, NothingLeft, OnlyWhoZeroedUnmaps, WhoZeroedMayUnmap}
use Rattle.ad_maps.specs.declared.shape.Shape.{Shape}
use Rattle.ad_maps.specs.declared.words.TheConstants.{FRAME_WORDS}
use Rattle.ad_maps.specs.declared.view.Deed.TheVariants as deed
use Rattle.ad_maps.specs.declared.view.Freeing.TheVariants as freeing
use Rattle.ad_maps.specs.declared.view.Hand.{Hand}
use Rattle.ad_maps.specs.declared.view.Plan.{Plan}
use Rattle.ad_maps.specs.declared.view.Doing.{Doing}
use Rattle.ad_maps.specs.declared.view.Doing.TheVariants.{Worker, Mover}
use Rattle.ad_maps.specs.declared.view.Stance.TheVariants as stance
use Rattle.ad_maps.specs.Laws.{found_in}
use Rattle.ad_maps.specs.MapPlace.{directory_word, module_of_frame}
use Rattle.ad_maps.specs.Names.{Count, Directory, Owner}
use Rattle.ad_maps.specs.Rule.{St, Kept}
use Rattle.ad_maps.specs.Steps.{agent_of, freeing_of, is_at_rest}

-- ---- a worker pins its mapping

-- a mapping that a worker's view has inside is Current, or Out, or Retired in a batch that isn't opened, or hasn't passed the
-- worker's slot, or that the worker owes
abbrev pub PinnedLaw : Type 0
PinnedLaw = (shape : Shape) (s : St) (r : Kept shape s) (id w entry m : ℕ) (h : Hand) (p : Place) → get_elem? s.views id ≡ some (Worker w h) → h.stance ≡ stance.Inside entry m p
    → let status = status_of r.state.world p.mapping in
    (status ≡ Some Current) ⊎ ((status ≡ Some Out) ⊎ ((status ≡ Some Retired) × ((b : ℕ) × (r.state.batch p.mapping ≡ Some b) × WaitsFor r.state.owed b w)))

-- ---- counts

-- a view of the agent frees the batch: it is to read a member's word, or has found one
abbrev pub IsFreeing : St → Agent → ℕ → Type 0
IsFreeing s a b = (id : ℕ) × (view : Doing) × (get_elem? s.views id ≡ some view) × (agent_of view ≡ a) × ((k : ℕ) × ((freeing_of view ≡ freeing.Batch b k) ⊎ ((word : ℕ) × (freeing_of view ≡ freeing.Found b k word))))

-- The count of a batch is the sum over the slots of what is owed there. It is zero exactly where the batch is settled on every
-- slot and nobody owes it, and exactly where somebody is noted as having brought it there. Whoever makes the step that brings
-- it there may unmap the batch's mappings, and nobody else may unmap any. A seat that frees a batch is the one noted; and a
-- view of the one noted frees the batch, until each mapping of the batch is Gone. No directory word counts above one
pub record CountsStand (shape : Shape) (s : St) (r : Kept shape s) : Type 0 where
  pub counts : (b : ℕ) → IsOpened r.state.owed b → found_in s (Count b) ≡ owed_of r.state.owed b
  pub zero : (b : ℕ) → IsOpened r.state.owed b → (found_in s (Count b) ≡ 0) ↔ (SettledEverywhere r.state.owed b × NobodyOwes r.state.owed b)
  pub brought : (b : ℕ) → IsOpened r.state.owed b → (found_in s (Count b) ≡ 0) ↔ IsZeroed r.state b
  pub only_opened : (b : ℕ) → IsZeroed r.state b → IsOpened r.state.owed b
  pub noted : NotedByMaker r.state
  pub may : WhoZeroedMayUnmap r.state
  pub only : OnlyWhoZeroedUnmaps r.state
  pub freer : (id b k : ℕ) (view : Doing) → get_elem? s.views id ≡ some view → freeing_of view ≡ freeing.Batch b k → r.state.zeroed b ≡ Some (agent_of view)
  pub finder : (id b k word : ℕ) (view : Doing) → get_elem? s.views id ≡ some view → freeing_of view ≡ freeing.Found b k word → r.state.zeroed b ≡ Some (agent_of view)
  pub frees : (b : ℕ) (a : Agent) → r.state.zeroed b ≡ Some a → IsFreeing s a b ⊎ ((n : ℕ) → r.state.batch n ≡ Some b → status_of r.state.world n ≡ Some Gone)
  pub once : (v : ℕ) → v < REGIONS → (found_in s (Directory v) ≡ 0) ⊎ ((p : Place) × (u : ℕ) × IsPlace p × (p.region ≡ v) × (u ≤ 1) × (found_in s (Directory v) ≡ directory_word p u))

abbrev pub CountsLaw : Type 0
CountsLaw = (shape : Shape) (s : St) (r : Kept shape s) → CountsStand shape s r

-- ---- owing nothing

-- each mapping of a batch that the agent brought to zero is Gone, was unmapped once, and its frame was given back
pub record HasFreed (shape : Shape) (s : St) (r : Kept shape s) (a : Agent) : Type 0 where
  pub left : NothingLeft r.state a
  pub once : (n b : ℕ) → r.state.batch n ≡ Some b → r.state.zeroed b ≡ Some a → found_in s (Directory (r.places n).region) ≡ directory_word (r.places n) 1
  pub given : (n b : ℕ) → r.state.batch n ≡ Some b → r.state.zeroed b ≡ Some a → found_in s (Owner (r.places n).frame) ≢ n

-- a worker whose view is at rest owes no batch, and has freed each that it brought to zero
abbrev pub WorkerOwesNothingLaw : Type 0
WorkerOwesNothingLaw = (shape : Shape) (s : St) (r : Kept shape s) (id w : ℕ) (h : Hand) → get_elem? s.views id ≡ some (Worker w h) → is_at_rest (Worker w h) ≡ true
    → ((b : ℕ) → owes r.state.owed b (seat_at r.state.owed w) ≡ false) × HasFreed shape s r (machine.Worker w)

-- a mover whose view is at rest has opened each batch that lists a mapping, has settled each on every slot, and has freed each
-- that it brought to zero
abbrev pub MoverOwesNothingLaw : Type 0
MoverOwesNothingLaw = (shape : Shape) (s : St) (r : Kept shape s) (id : ℕ) (q : Plan) → get_elem? s.views id ≡ some (Mover q) → is_at_rest (Mover q) ≡ true
    → ((n b : ℕ) → r.state.batch n ≡ Some b → IsOpened r.state.owed b) × owing.IsIdle r.state.owed × HasFreed shape s r machine.Mover

-- the frame has an owner that is neither Fresh nor Out
pub record IsOwned (shape : Shape) (s : St) (r : Kept shape s) (f : ℕ) : Type 0 where
  pub low : f < FRAME_WORDS
  pub owned : found_in s (Owner f) ≢ 0
  pub fresh : status_of r.state.world (found_in s (Owner f)) ≢ Some Fresh
  pub out : status_of r.state.world (found_in s (Owner f)) ≢ Some Out

-- where each view is at rest no mapping is Retired: each that is listed in a batch, and so each that the mover's list tells to
-- be retired, is Gone, and unmapped exactly once; and of the frames of a module at most one has an owner beside those of Fresh
-- and Out mappings
pub record AllIsFreed (shape : Shape) (s : St) (r : Kept shape s) : Type 0 where
  pub none_retired : (n : ℕ) → status_of r.state.world n ≢ Some Retired
  pub gone : (n b : ℕ) → r.state.batch n ≡ Some b → (status_of r.state.world n ≡ Some Gone) × (found_in s (Directory (r.places n).region) ≡ directory_word (r.places n) 1)
  pub retired : (id n line : ℕ) (q : Plan) → get_elem? s.views id ≡ some (Mover q) → Contains q.deeds (deed.Retire n line) → (status_of r.state.world n ≡ Some Gone) × (found_in s (Directory (r.places n).region) ≡ directory_word (r.places n) 1)
  pub one_frame : (f g : ℕ) → module_of_frame shape f ≡ module_of_frame shape g → IsOwned shape s r f → IsOwned shape s r g → f ≡ g

abbrev pub QuietLaw : Type 0
QuietLaw = (shape : Shape) (s : St) (r : Kept shape s) → ((id : ℕ) (view : Doing) → get_elem? s.views id ≡ some view → is_at_rest view ≡ true) → AllIsFreed shape s r
