-- What each step makes of the view of its seat, and of the word that it found.
use Rattle.std.specs.Prelude.{◌≡◌, ◌≢◌, ◌+◌, ◌<◌, ℕ, List, [], ◌∷◌, ◌++◌, slice_index, slice_set, ◌==◌, Option, None, Some, if◌then◌else◌}
use Rattle.atomic_table.specs.Table.{Me, Step}
use Rattle.ad_base.specs.declared.place.Place.{Place}
use Rattle.ad_base.specs.Place.{place_at}
use Rattle.ad_stacks.specs.declared.view.Given.{Given}
use Rattle.ad_stacks.specs.declared.view.Hand.{Hand}
use Rattle.ad_stacks.specs.declared.view.Stance.{Stance}
use Rattle.ad_stacks.specs.declared.view.Stance.TheVariants as stance
use Rattle.ad_stacks.specs.declared.view.Stage.{Stage}
use Rattle.ad_stacks.specs.declared.view.Stage.TheVariants as stage
use Rattle.ad_stacks.specs.declared.view.Plan.{Plan}
use Rattle.ad_stacks.specs.declared.view.Doing.{Doing}
use Rattle.ad_stacks.specs.declared.view.Doing.TheVariants.{Spent, Worker, Mover}
use Rattle.ad_stacks.specs.declared.words.TheConstants.{NUMBERS}
use Rattle.ad_stacks.specs.History.{NeverFall}
use Rattle.ad_stacks.specs.StackPlace.{lane_place, IsStackWord}

-- a seat of the table: its view, and no slots
abbrev pub Sat : Type 0
Sat = Me (Unit {0}) Doing

abbrev pub hand : Stance → List Place → Hand
hand stance taken = record { stance = stance; taken = taken }

-- the view after is this function of the view before, and of the word found
abbrev pub Becomes : (Doing → ℕ → Doing) → Step (Unit {0}) → Sat → ℕ → Sat → Type 0
Becomes f st me found me' = me' ≡ (f me.0 found, me.1)

-- a take holds the stack whose word it finds
abbrev pub after_take : Doing → ℕ → Doing
after_take Spent word = Spent
after_take (Worker w h) word = Worker w (hand (stance.Holds (place_at word)) (h.taken ++ place_at word ∷ []))
after_take (Mover q) word = Mover q

-- the stack that is held goes back to the lane, or is to be counted where one is In
abbrev pub put_back : Stance → ℕ → Stance
put_back stance.Rest word = stance.Rest
put_back (stance.Holds p) word = if word == 0 then stance.Rest else stance.Owes p
put_back (stance.Owes p) word = stance.Owes p

-- a put
abbrev pub after_put : Doing → ℕ → Doing
after_put Spent word = Spent
after_put (Worker w h) word = Worker w (hand (put_back h.stance word) h.taken)
after_put (Mover q) word = Mover q

-- what a seat owed is counted
abbrev pub after_gone : Doing → ℕ → Doing
after_gone Spent word = Spent
after_gone (Worker w h) word = Worker w (hand stance.Rest h.taken)
after_gone (Mover q) word = Mover (record q { stage = stage.Idle })

-- the new stack is recorded: the operands of the step don't carry the line, so the step notes it
abbrev pub after_record : Given → Doing → ℕ → Doing
after_record given Spent word = Spent
after_record given (Worker w h) word = Worker w h
after_record given (Mover q) word = Mover (record q { stage = stage.Recorded given })

-- the new stack is In its lane, in place of what the swap found
abbrev pub replacing : Plan → ℕ → Stage → Plan
replacing q word stage.Idle = q
replacing q word (stage.Recorded g) = record q {
  stage = stage.Replaced (slice_index q.newest g.lane) g.line (lane_place word);
  newest = slice_set q.newest g.lane g.place.mapping;
  made = q.made ++ g ∷ [];
}
replacing q word (stage.Replaced m line old) = q
replacing q word (stage.Owes p) = q

-- a refresh's swap
abbrev pub after_refresh : Doing → ℕ → Doing
after_refresh Spent word = Spent
after_refresh (Worker w h) word = Worker w h
after_refresh (Mover q) word = Mover (replacing q word q.stage)

-- what is left to do once the stack is marked
abbrev pub owing : Option Place → Stage
owing None = stage.Idle
owing (Some p) = stage.Owes p

abbrev pub marked : Stage → Stage
marked stage.Idle = stage.Idle
marked (stage.Recorded g) = stage.Recorded g
marked (stage.Replaced m line old) = owing old
marked (stage.Owes p) = stage.Owes p

-- the stack that was replaced is marked with the line
abbrev pub after_mark : Doing → ℕ → Doing
after_mark Spent word = Spent
after_mark (Worker w h) word = Worker w h
after_mark (Mover q) word = Mover (record q { stage = marked q.stage })

-- a worker's seat is split off the mover's
abbrev pub dealing : Plan → Plan
dealing q = record q { dealt = q.dealt + 1 }

abbrev pub after_deal : Doing → Doing
after_deal Spent = Spent
after_deal (Worker w h) = Worker w h
after_deal (Mover q) = Mover (dealing q)

abbrev pub given_off : Doing → Doing
given_off Spent = Spent
given_off (Worker w h) = Spent
given_off (Mover q) = Worker q.dealt (hand stance.Rest [])

-- a worker's seat is joined to the mover's
abbrev pub gathering : Plan → Hand → Plan
gathering q h = record q { back = q.back ++ h ∷ [] }

abbrev pub after_join : Doing → Doing → Doing
after_join (Mover q) (Worker w h) = Mover (gathering q h)
after_join view other = view

-- the places that a seat took
abbrev pub taken_by : Doing → List Place
taken_by Spent = []
taken_by (Worker w h) = h.taken
taken_by (Mover q) = []

-- what a take tells its seat: it found the word of a stack, and the numbers that it took never fall
pub record Takes (st : Step (Unit {0})) (me : Sat) (found : ℕ) (me' : Sat) : Type 0 where
  pub becomes : Becomes after_take st me found me'
  pub word : IsStackWord found
  pub rises : NeverFall (taken_by me'.0)

-- the number of the mapping that is to be marked
abbrev pub to_mark : Stage → ℕ
to_mark stage.Idle = 0
to_mark (stage.Recorded g) = 0
to_mark (stage.Replaced m line old) = m
to_mark (stage.Owes p) = 0

abbrev pub to_mark_by : Doing → ℕ
to_mark_by Spent = 0
to_mark_by (Worker w h) = 0
to_mark_by (Mover q) = to_mark q.stage

-- what a refresh's swap tells the mover: it found no word, or that of a stack, and there is a mark of what is to be marked
pub record Refreshes (st : Step (Unit {0})) (me : Sat) (found : ℕ) (me' : Sat) : Type 0 where
  pub becomes : Becomes after_refresh st me found me'
  pub word : found ≢ 0 → IsStackWord found
  pub number : to_mark_by me'.0 < NUMBERS

-- a note that no refresh makes
abbrev pub nothing_given : Given
nothing_given = record { lane = 0; place = place_at 0; line = 0 }
