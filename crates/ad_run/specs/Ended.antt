-- A run at its end, whose tables are still open.
use Rattle.std.specs.Prelude.{◌≡◌, ◌≤◌, ℕ, List, length, map, slice_get, Some, Ok, IsTrue, is_some, option_to_list}
use Rattle.std.specs.List.{flat_map}
use Rattle.ad_lines.specs.LineLaws.{AreSteps}
use Rattle.ad_lines.specs.Opening.{AreLoaded}
use Rattle.ad_lines.specs.Ready.{ready_steps}
use Rattle.ad_lines.specs.Sound.{Lines}
use Rattle.ad_maps.specs.declared.words.TheConstants.{MODULE_FRAMES}
use Rattle.ad_mover.specs.declared.mover.Mover.{Mover}
use Rattle.ad_mover.specs.Moves.{MakesSteps}
use Rattle.ad_mover.specs.Seen.{moving}
use Rattle.ad_run.specs.declared.seats.SeatLists.{SeatLists}
use Rattle.ad_run.specs.declared.threads.Job.{Job}
use Rattle.ad_run.specs.Calls.{calls_of_worker, PerformsAll}
use Rattle.ad_run.specs.Opened.{AreAllNewHands, IsOpenedFor, new_moving, shape_for}
use Rattle.ad_script.specs.declared.script.Step.{Step}
use Rattle.ad_wrapper.specs.declared.hands.Hands.{Hands}
use Rattle.ad_wrapper.specs.declared.shared.Shared.{Shared}
use Rattle.ad_wrapper.specs.Fits.{AreHandsOf}

-- a worker has something in hand
abbrev pub HasHands : Job → Type 0
HasHands job = IsTrue (is_some job.hands)

-- what workers have in hand, in order
abbrev pub hands_in : List Job → List Hands
hands_in jobs = flat_map (λ (j : Job). option_to_list j.hands) jobs

-- each worker has these in hand
abbrev pub HaveHands : List Job → List Hands → Type 0
HaveHands jobs hands = map (λ (j : Job). j.hands) jobs ≡ map (λ (h : Hands). Some h) hands

-- the seats of these hands, in order, in the three tables
pub record AreSeatsOf (hands : List Hands) (lists : SeatLists) : Type 0 where
  pub seats : lists.seats.items ≡ map (λ (h : Hands). h.seat) hands
  pub stack_seats : lists.stack_seats.items ≡ map (λ (h : Hands). h.stack_seat) hands
  pub turn_seats : lists.turn_seats.items ≡ map (λ (h : Hands). h.turn_seat) hands

-- All workers of these tables have their seats in hand, in order of worker.
pub record AreAllWorkers (s : Shared) (jobs : List Job) : Type 0 where
  pub hands : List Hands
  pub have : HaveHands jobs hands
  pub in_maps : length hands ≡ s.maps.shape.workers
  pub in_stacks : length hands ≡ length s.stacks.openings
  pub in_turns : length hands ≡ length s.turns.calls
  pub each : (w : ℕ) (h : Hands) → slice_get hands w ≡ Some h → AreHandsOf s h × (h.worker ≡ w)

-- what is to be run: modules that were loaded, steps that are ready, and from 1 to MODULE_FRAMES frames for each module
pub record IsToRun (frames : ℕ) (l : Lines) (script : List Step) : Type 0 where
  pub loaded : AreLoaded l.seed l.workers l.images
  pub steps_are : AreSteps l.images l.workers l.steps
  pub ready : ready_steps l.images script ≡ Ok l.steps
  pub some_frame : 1 ≤ frames
  pub few_frames : frames ≤ MODULE_FRAMES

-- the workers have made their calls: their hands before and after
pub record HaveMadeCalls (s : Shared) (l : Lines) (jobs : List Job) : Type 0 where
  pub before : List Hands
  pub after : List Hands
  pub new : AreAllNewHands s l before
  pub have : HaveHands jobs after
  pub count : length after ≡ l.workers
  pub performed : (w : ℕ) (first last : Hands) → slice_get before w ≡ Some first → slice_get after w ≡ Some last → PerformsAll s first (calls_of_worker w l.steps) last

-- and the mover its moves
pub record HasEnded (slots frames : ℕ) (l : Lines) (script : List Step) (s : Shared) (jobs : List Job) (m : Mover) : Type 0 where
  pub to_run : IsToRun frames l script
  pub opened : IsOpenedFor slots frames l s
  pub calls : HaveMadeCalls s l jobs
  pub made : MakesSteps (shape_for slots frames l) script (new_moving l (shape_for slots frames l)) (moving m)
