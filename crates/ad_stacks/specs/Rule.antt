-- The rule of the table: the words and the views stand for one lawful history.
use Rattle.std.specs.Prelude.{◌≡◌, ◌⊎◌, ℕ, ◌<◌, ◌≤◌, List, [], map, length, slice_index, Option, None, Some}
use mathlib.Core.Option.{some}
use lib.ListN.{get_elem?}
use Rattle.atomic_table.specs.Table.{State}
use Rattle.ad_base.specs.declared.place.Place.{Place}
use Rattle.ad_stacks.specs.declared.words.TheConstants.{LANES, NUMBERS}
use Rattle.ad_stacks.specs.declared.view.Given.{Given}
use Rattle.ad_stacks.specs.declared.view.Stance.{Stance}
use Rattle.ad_stacks.specs.declared.view.Stance.TheVariants as stance
use Rattle.ad_stacks.specs.declared.view.Stage.{Stage}
use Rattle.ad_stacks.specs.declared.view.Stage.TheVariants as stage
use Rattle.ad_stacks.specs.declared.view.Plan.{Plan}
use Rattle.ad_stacks.specs.declared.view.Doing.{Doing}
use Rattle.ad_stacks.specs.declared.view.Doing.TheVariants.{Spent, Worker, Mover}
use Rattle.ad_stacks.specs.History.{Event, Status, unmade, in_lane, held, gone, status, lane_of, held_of, takes_of, openings_of, refreshes_of, newest, line_of, AreBelow, AreLawful}
use Rattle.ad_stacks.specs.Names.{Words, AreWords}
use Rattle.ad_stacks.specs.StackPlace.{lane_word, record_word, IsStackPlace}
use Rattle.ad_stacks.specs.Steps.{hand}

-- words and views; the table has no slots
abbrev pub St : Type 0
St = State (Unit {0}) Doing

-- the stack that a worker holds
abbrev pub holding : Stance → Option Place
holding stance.Rest = None
holding (stance.Holds p) = Some p
holding (stance.Owes p) = None

-- the worker made the mapping m Gone, and hasn't counted that
abbrev pub IsOwed : Stance → ℕ → Type 0
IsOwed stance.Rest m = ⊥
IsOwed (stance.Holds p) m = ⊥
IsOwed (stance.Owes p) m = p.mapping ≡ m

-- what a worker owes is a stack of its lane that is Gone
abbrev pub OwesGone : List Event → ℕ → Stance → Type 0
OwesGone past w stance.Rest = Unit {0}
OwesGone past w (stance.Holds p) = Unit {0}
OwesGone past w (stance.Owes p) = status past p.mapping ≡ gone w p

-- the mapping m is the one of this place, if there is one
abbrev pub IsNumberOf : Option Place → ℕ → Type 0
IsNumberOf None m = ⊥
IsNumberOf (Some p) m = p.mapping ≡ m

-- the mover made the mapping m Gone, and hasn't counted that
abbrev pub IsMoverOwed : Stage → ℕ → Type 0
IsMoverOwed stage.Idle m = ⊥
IsMoverOwed (stage.Recorded g) m = ⊥
IsMoverOwed (stage.Replaced n line old) m = IsNumberOf old m
IsMoverOwed (stage.Owes p) m = p.mapping ≡ m

-- the mapping m is recorded, and not made yet
abbrev pub IsRecorded : Stage → ℕ → Type 0
IsRecorded stage.Idle m = ⊥
IsRecorded (stage.Recorded g) m = g.place.mapping ≡ m
IsRecorded (stage.Replaced n line old) m = ⊥
IsRecorded (stage.Owes p) m = ⊥

-- the mapping m is replaced, and not marked yet
abbrev pub IsUnmarked : Stage → ℕ → Type 0
IsUnmarked stage.Idle m = ⊥
IsUnmarked (stage.Recorded g) m = ⊥
IsUnmarked (stage.Replaced n line old) m = n ≡ m
IsUnmarked (stage.Owes p) m = ⊥

-- a Gone stack's record word counts one unmap step, once the one that owes it has made that step
pub record Counts (word : ℕ) (p : Place) (w : ℕ) (worker mover : Type 0) : Type 0 where
  pub one : worker → mover → ⊥
  pub owed : worker ⊎ mover → word ≡ record_word p w 0
  pub counted : (worker → ⊥) → (mover → ⊥) → word ≡ record_word p w 1

-- the record word of the mapping m, by its status
abbrev pub Records : (ℕ → ℕ) → (ℕ → Stance) → Stage → ℕ → Status → Type 0
Records recorded stances stage m unmade = (IsRecorded stage m → ⊥) → recorded m ≡ 0
Records recorded stances stage m (in_lane w p) = recorded m ≡ record_word p w 0
Records recorded stances stage m (held w p) = recorded m ≡ record_word p w 0
Records recorded stances stage m (gone w p) = Counts (recorded m) p w (IsOwed (stances w) m) (IsMoverOwed stage m)

-- In is read off the lane's word, and Held off the worker's view
pub record LaneStands (lane : ℕ → ℕ) (past : List Event) (w : ℕ) (stance : Stance) : Type 0 where
  pub word : lane w ≡ lane_word (lane_of past w)
  pub holds : held_of past w ≡ holding stance
  pub owes : OwesGone past w stance

-- a new stack that is recorded and not yet In its lane
pub record IsReady (recorded : ℕ → ℕ) (past : List Event) (lanes : ℕ) (g : Given) : Type 0 where
  pub place : IsStackPlace g.place
  pub lane : g.lane < lanes
  pub from_line : 0 < g.line
  pub above : AreBelow past g.place.mapping
  pub word : recorded g.place.mapping ≡ record_word g.place g.lane 0

-- what the mover owes is Gone
abbrev pub IsGone : List Event → Option Place → Type 0
IsGone past None = Unit {0}
IsGone past (Some p) = (w : ℕ) × (status past p.mapping ≡ gone w p)

-- a replaced stack that isn't marked yet has this line, and what was In is Gone
pub record IsReplaced (past : List Event) (m line : ℕ) (old : Option Place) : Type 0 where
  pub replaced : line_of past m ≡ line
  pub number : m < NUMBERS
  pub went : IsGone past old

-- how far the refresh is
abbrev pub StageStands : (ℕ → ℕ) → List Event → ℕ → Stage → Type 0
StageStands recorded past lanes stage.Idle = Unit {0}
StageStands recorded past lanes (stage.Recorded g) = IsReady recorded past lanes g
StageStands recorded past lanes (stage.Replaced m line old) = IsReplaced past m line old
StageStands recorded past lanes (stage.Owes p) = IsGone past (Some p)

-- what the mover knows of the history, and of the lanes
pub record PlanStands (recorded : ℕ → ℕ) (past : List Event) (lanes : ℕ) (plan : Plan) : Type 0 where
  pub made : plan.made ≡ refreshes_of past
  pub wide : length plan.newest ≡ lanes
  pub newest : (w : ℕ) → w < lanes → slice_index plan.newest w ≡ newest past w
  pub stage : StageStands recorded past lanes plan.stage

-- which seats were split off, and which were joined again, at rest
pub record Dealt (past : List Event) (stances : ℕ → Stance) (lanes : ℕ) (plan : Plan) : Type 0 where
  pub few : plan.dealt ≤ lanes
  pub undealt : (w : ℕ) → plan.dealt ≤ w → (stances w ≡ stance.Rest) × (takes_of past w ≡ [])
  pub back : (w : ℕ) → w < length plan.back → (stances w ≡ stance.Rest) × (get_elem? plan.back w ≡ some (hand stance.Rest (takes_of past w)))

-- what the seat of this index knows
module _ (past : List Event) (stances : ℕ → Stance) (owner : ℕ → ℕ) (plan : Plan) (mover : ℕ) (seat : ℕ) where
  abbrev pub Knows : Doing → Type 0
  Knows Spent = Unit {0}
  Knows (Worker w h) = (w < plan.dealt) × (length plan.back ≤ w) × (owner w ≡ seat) × (h ≡ hand (stances w) (takes_of past w))
  Knows (Mover q) = (q ≡ plan) × (seat ≡ mover)

-- each worker whose seat was split off and not joined again has its seat, and the mover has its own
pub record Seated (past : List Event) (stances : ℕ → Stance) (owner : ℕ → ℕ) (plan : Plan) (mover : ℕ) (views : List Doing) : Type 0 where
  pub worker : (w : ℕ) → length plan.back ≤ w → w < plan.dealt → get_elem? views (owner w) ≡ some (Worker w (hand (stances w) (takes_of past w)))
  pub own : get_elem? views mover ≡ some (Mover plan)

-- The words and the views of a table that was opened with these places, one for each lane. A worker's
-- number has one seat at most, its owner, and one seat is the mover's.
pub record Kept (openings : List Place) (s : St) : Type 0 where
  pub words : Words
  pub past : List Event
  pub stances : ℕ → Stance
  pub owner : ℕ → ℕ
  pub plan : Plan
  pub mover : ℕ
  pub few : length openings ≤ LANES
  pub reads : AreWords s.words words
  pub lawful : AreLawful past
  pub opened : openings_of past ≡ openings
  pub each_lane : (w : ℕ) → LaneStands words.lane past w (stances w)
  pub each_record : (m : ℕ) → Records words.recorded stances plan.stage m (status past m)
  pub each_mark : (m : ℕ) → (IsUnmarked plan.stage m → ⊥) → words.mark m ≡ line_of past m
  pub each_seat : (j : ℕ) (view : Doing) → get_elem? s.views j ≡ some view → Knows past stances owner plan mover j view
  pub seated : Seated past stances owner plan mover s.views
  pub dealt : Dealt past stances (length openings) plan
  pub planned : PlanStands words.recorded past (length openings) plan

-- what the mover knows at first: the lanes were given the places of the opening, and no worker has its seat
abbrev pub starting_plan : List Place → Plan
starting_plan openings = record { stage = stage.Idle; dealt = 0; newest = map (λ p. p.mapping) openings; made = []; back = [] }

-- the view of the first seat, the mover's
abbrev pub starting : List Place → Doing
starting openings = Mover (starting_plan openings)
