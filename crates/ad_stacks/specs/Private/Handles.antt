-- What the seats of the handles know between two steps.
use Rattle.std.specs.Prelude.{◌≡◌, ℕ, ◌<◌, List, [], ◌∷◌, ◌++◌, slice_set}
use Rattle.atomic_table.specs.Seated.{TableId}
use Rattle.ad_base.specs.declared.place.Place.{Place}
use Rattle.ad_stacks.specs.declared.words.TheConstants.{LANES, WORDS}
use Rattle.ad_stacks.specs.declared.view.Given.{Given}
use Rattle.ad_stacks.specs.declared.view.Stance.{Stance}
use Rattle.ad_stacks.specs.declared.view.Stance.TheVariants as stance
use Rattle.ad_stacks.specs.declared.view.Stage.TheVariants as stage
use Rattle.ad_stacks.specs.declared.view.Hand.{Hand}
use Rattle.ad_stacks.specs.declared.view.Plan.{Plan}
use Rattle.ad_stacks.specs.declared.view.Doing.{Doing}
use Rattle.ad_stacks.specs.declared.view.Doing.TheVariants.{Spent, Worker, Mover}
use Rattle.ad_stacks.specs.Steps.{Sat, hand, taken_by}

-- the seat is of this table, which has the words of a stack table
pub record IsAt (table seat : TableId) : Type 0 where
  pub same : seat ≡ table
  pub words : table.words ≡ WORDS

-- the seat is that of the worker w, and does this
pub record IsWorker (me : Sat) (w : ℕ) (stance : Stance) : Type 0 where
  pub few : w < LANES
  pub view : me ≡ (Worker w (hand stance (taken_by me.0)), [])

-- what the mover's view says
abbrev pub plan_of : Doing → Plan
plan_of Spent = record { stage = stage.Idle; dealt = 0; newest = []; made = []; back = [] }
plan_of (Worker w h) = record { stage = stage.Idle; dealt = 0; newest = []; made = []; back = [] }
plan_of (Mover q) = q

-- the seat is the mover's
abbrev pub IsMover : Sat → Type 0
IsMover me = me ≡ (Mover (plan_of me.0), [])

-- no refresh is under way, the lanes were given these last, and no worker's seat came back
pub record IsIdle (me : Sat) (newest : List ℕ) : Type 0 where
  pub mover : IsMover me
  pub stage : (plan_of me.0).stage ≡ stage.Idle
  pub lasts : (plan_of me.0).newest ≡ newest
  pub back : (plan_of me.0).back ≡ []

-- the view owes the count of this stack
abbrev pub IsOwing : Doing → Place → Type 0
IsOwing Spent p = ⊥
IsOwing (Worker w h) p = h.stance ≡ stance.Owes p
IsOwing (Mover q) p = q.stage ≡ stage.Owes p

-- the plan once a refresh was made
abbrev pub refreshed_plan : Given → Plan → Plan
refreshed_plan g q = record q { stage = stage.Idle; newest = slice_set q.newest g.lane g.place.mapping; made = q.made ++ g ∷ [] }

-- the plan once these hands came back
abbrev pub gathered_plan : Plan → List Hand → Plan
gathered_plan q hands = record q { back = hands }
