-- How the state that a history leaves is read off the words and the views, and what holds of it.
use Rattle.std.specs.Prelude.{◌≡◌, ◌⊎◌, ℕ, ◌+◌, ◌^◌, ◌<◌, Bool, true, false, not, ◌&&◌, List, [], ◌∷◌, slice_index, Some, if◌then◌else◌}
use mathlib.Core.Option.{some}
use lib.ListN.{get_elem?}
use Rattle.ad_base.specs.declared.place.Place.{Place}
use Rattle.ad_stacks.specs.declared.words.TheConstants.{LANES, NUMBERS}
use Rattle.ad_stacks.specs.declared.view.Hand.{Hand}
use Rattle.ad_stacks.specs.declared.view.Plan.{Plan}
use Rattle.ad_stacks.specs.declared.view.Stance.TheVariants as stance
use Rattle.ad_stacks.specs.declared.view.Stage.TheVariants as stage
use Rattle.ad_stacks.specs.declared.view.Doing.{Doing}
use Rattle.ad_stacks.specs.declared.view.Doing.TheVariants.{Spent, Worker, Mover}
use Rattle.ad_stacks.specs.History.{Event, Status, unmade, in_lane, held, gone, status, lane_of, held_of, takes_of, refreshes_of, line_of, AreLawful, NeverFall}
use Rattle.ad_stacks.specs.Names.{Lane, Record, Mark, index}
use Rattle.ad_stacks.specs.Rule.{St, Kept, holding, IsOwed, IsMoverOwed}
use Rattle.ad_stacks.specs.StackPlace.{lane_word, record_word}

-- a view of a seat that made the mapping m Gone, and hasn't counted that
abbrev pub OwesMapping : Doing → ℕ → Type 0
OwesMapping Spent m = ⊥
OwesMapping (Worker w h) m = IsOwed h.stance m
OwesMapping (Mover q) m = IsMoverOwed q.stage m

-- some seat made the mapping m Gone, and hasn't counted that
abbrev pub IsOwedBySome : List Doing → ℕ → Type 0
IsOwedBySome views m = (id : ℕ) × (view : Doing) × (get_elem? views id ≡ some view) × OwesMapping view m

-- In is read off the lane's word, Held off the worker's view, and Gone off the record word, or before
-- the unmap step off the view of the seat that owes it. What is Held has a seat that holds it, what a
-- seat owes is Gone, and no other mapping, made or unmade, counts an unmap step
pub record IsRead (s : St) (past : List Event) : Type 0 where
  pub lanes : (w : ℕ) → w < LANES → slice_index s.words (index (Lane w)) ≡ lane_word (lane_of past w)
  pub hands : (id w : ℕ) (h : Hand) → get_elem? s.views id ≡ some (Worker w h) → held_of past w ≡ holding h.stance
  pub held_by : (m w : ℕ) (p : Place) → status past m ≡ held w p → (id : ℕ) × (h : Hand) × (get_elem? s.views id ≡ some (Worker w h)) × (holding h.stance ≡ Some p)
  pub word_gone : (m w : ℕ) (p : Place) → status past m ≡ gone w p
      → (slice_index s.words (index (Record m)) ≡ record_word p w 1) ⊎ (IsOwedBySome s.views m × (slice_index s.words (index (Record m)) ≡ record_word p w 0))
  pub owed_gone : (id m : ℕ) (view : Doing) → get_elem? s.views id ≡ some view → OwesMapping view m → (w : ℕ) × (p : Place) × (status past m ≡ gone w p)
  pub word_in : (m w : ℕ) (p : Place) → status past m ≡ in_lane w p → slice_index s.words (index (Record m)) ≡ record_word p w 0
  pub word_held : (m w : ℕ) (p : Place) → status past m ≡ held w p → slice_index s.words (index (Record m)) ≡ record_word p w 0
  pub word_unmade : (m : ℕ) → m < NUMBERS → status past m ≡ unmade → slice_index s.words (index (Record m)) < 2 ^ 56
  pub takes : (id w : ℕ) (h : Hand) → get_elem? s.views id ≡ some (Worker w h) → h.taken ≡ takes_of past w
  pub refreshes : (id : ℕ) (q : Plan) → get_elem? s.views id ≡ some (Mover q) → q.made ≡ refreshes_of past

abbrev pub ReadingLaw : Type 0
ReadingLaw = (openings : List Place) (s : St) (r : Kept openings s) → IsRead s r.past

-- the stack that a seat holds isn't Gone: it is Held, and its record word counts no unmap step
abbrev pub HeldLaw : Type 0
HeldLaw = (openings : List Place) (s : St) (r : Kept openings s) (id w : ℕ) (p : Place) (taken : List Place) → get_elem? s.views id ≡ some (Worker w (record { stance = stance.Holds p; taken = taken }))
    → (status r.past p.mapping ≡ held w p) × (slice_index s.words (index (Record p.mapping)) ≡ record_word p w 0)

-- the seat holds nothing, and no put or refresh is under way
abbrev pub IsAtRest : Doing → Type 0
IsAtRest Spent = Unit {0}
IsAtRest (Worker w h) = h.stance ≡ stance.Rest
IsAtRest (Mover q) = q.stage ≡ stage.Idle

-- no stack is held, and no put or refresh is under way
abbrev pub IsQuiet : List Doing → Type 0
IsQuiet views = (id : ℕ) (view : Doing) → get_elem? views id ≡ some view → IsAtRest view

-- the mapping m is Gone, its record word counts exactly one unmap step, and it is marked with the line that replaced it
pub record IsGoneOnce (words : List ℕ) (past : List Event) (m : ℕ) : Type 0 where
  pub lane : ℕ
  pub place : Place
  pub went : status past m ≡ gone lane place
  pub once : slice_index words (index (Record m)) ≡ record_word place lane 1
  pub marked : slice_index words (index (Mark m)) ≡ line_of past m

-- where the table is quiet each replaced stack is Gone, once, and one that wasn't replaced isn't
abbrev pub QuietLaw : Type 0
QuietLaw = (openings : List Place) (s : St) (r : Kept openings s) → IsQuiet s.views
    → ((m : ℕ) → 0 < line_of r.past m → IsGoneOnce s.words r.past m) × ((m w : ℕ) (p : Place) → line_of r.past m ≡ 0 → status r.past m ≡ gone w p → ⊥)

-- what a history says of the lanes and of the hands is what it says of the mappings
abbrev pub LanesLaw : Type 0
LanesLaw = (past : List Event) (w : ℕ) (p : Place) → AreLawful past → (lane_of past w ≡ Some p → status past p.mapping ≡ in_lane w p) × (status past p.mapping ≡ in_lane w p → lane_of past w ≡ Some p)

abbrev pub HandsLaw : Type 0
HandsLaw = (past : List Event) (w : ℕ) (p : Place) → AreLawful past → (held_of past w ≡ Some p → status past p.mapping ≡ held w p) × (status past p.mapping ≡ held w p → held_of past w ≡ Some p)

-- the numbers that a worker took never fall
abbrev pub NumbersLaw : Type 0
NumbersLaw = (past : List Event) (w : ℕ) → AreLawful past → NeverFall (takes_of past w)

abbrev pub is_gone : Status → Bool
is_gone unmade = false
is_gone (in_lane w p) = false
is_gone (held w p) = false
is_gone (gone w p) = true

-- how many events made the mapping m Gone that wasn't Gone before
abbrev pub times_gone : List Event → ℕ → ℕ
times_gone [] m = 0
times_gone (e ∷ past) m = times_gone past m + (if not (is_gone (status past m)) && is_gone (status (e ∷ past) m) then 1 else 0)

-- a stack that is Gone stays Gone, and was made so by exactly one event
abbrev pub GoneOnceLaw : Type 0
GoneOnceLaw = (past : List Event) (m : ℕ) → AreLawful past → times_gone past m ≡ (if is_gone (status past m) then 1 else 0)
