-- The laws of the steps: made under its own conditions from any words and views that meet the rule, a step keeps the rule, and the history grows by its event.
use Rattle.std.specs.Prelude.{◌≡◌, ℕ, ◌+◌, ◌%◌, ◌^◌, ◌==◌, ◌<◌, List, [], ◌∷◌, ◌++◌, length, slice_index, slice_set, Option}
use mathlib.Core.Option.{some}
use lib.ListN.{get_elem?}
use prog.Atomic.{either}
use Rattle.atomic_table.specs.Table.{keeps, stepped}
use Rattle.ad_base.specs.declared.place.Place.{Place}
use Rattle.ad_base.specs.Place.{packed, place_at}
use Rattle.ad_stacks.specs.declared.view.Given.{Given}
use Rattle.ad_stacks.specs.declared.view.Stance.TheVariants as stance
use Rattle.ad_stacks.specs.declared.view.Stage.TheVariants as stage
use Rattle.ad_stacks.specs.declared.view.Plan.{Plan}
use Rattle.ad_stacks.specs.declared.view.Doing.{Doing}
use Rattle.ad_stacks.specs.declared.view.Doing.TheVariants.{Spent, Worker, Mover}
use Rattle.ad_stacks.specs.History.{Event, took, put, refreshed, IsAbove, Lawful}
use Rattle.ad_stacks.specs.Names.{Name, Lane, Record, Mark, index}
use Rattle.ad_stacks.specs.Rule.{St, Kept}
use Rattle.ad_stacks.specs.StackPlace.{record_word, IsStackPlace}
use Rattle.ad_stacks.specs.Steps.{hand, after_take, after_put, after_gone, after_record, after_refresh, after_mark, dealing, gathering}

module _ (openings : List Place) where
  -- the step keeps the rule, and the event, which is lawful, is added to the history
  abbrev pub Adds : (s : St) → Kept openings s → St → Event → Type 0
  Adds s r s' e = Lawful e r.past × ((r' : Kept openings s') × (r'.past ≡ e ∷ r.past))

  -- the step keeps the rule, and the history stays as it is
  abbrev pub Stays : (s : St) → Kept openings s → St → Type 0
  Stays s r s' = (r' : Kept openings s') × (r'.past ≡ r.past)

-- a seat writes to the word of a name what f makes of the word that it finds, and its view becomes v
abbrev pub moved : St → ℕ → Name → (ℕ → ℕ) → Doing → St
moved s id n f v = stepped s (index n) (f (slice_index s.words (index n))) id [] v keeps

-- a worker at rest swaps its lane's word with 0: it takes the stack whose word it finds
abbrev pub TakeLaw : Type 0
TakeLaw = (openings : List Place) (s : St) (r : Kept openings s) (id w : ℕ) (taken : List Place) → get_elem? s.views id ≡ some (Worker w (hand stance.Rest taken))
    → let found = slice_index s.words (index (Lane w)) in
    Adds openings s r (moved s id (Lane w) (λ _. 0) (after_take (Worker w (hand stance.Rest taken)) found)) (took w (place_at found))

-- a worker that holds a stack exchanges its lane's word from 0 for the stack's: that is its put
abbrev pub PutLaw : Type 0
PutLaw = (openings : List Place) (s : St) (r : Kept openings s) (id w : ℕ) (p : Place) (taken : List Place) → get_elem? s.views id ≡ some (Worker w (hand (stance.Holds p) taken))
    → let found = slice_index s.words (index (Lane w)) in
    Adds openings s r (moved s id (Lane w) (λ n. either (n == 0) (packed p) n) (after_put (Worker w (hand (stance.Holds p) taken)) found)) (put w p)

-- what one unmap step adds to a record word
abbrev pub counted : ℕ → ℕ
counted n = (n + 2 ^ 56) % 2 ^ 64

-- a worker counts the stack that its put made Gone
abbrev pub GoneLaw : Type 0
GoneLaw = (openings : List Place) (s : St) (r : Kept openings s) (id w : ℕ) (p : Place) (taken : List Place) → get_elem? s.views id ≡ some (Worker w (hand (stance.Owes p) taken))
    → let name = Record p.mapping in
    Stays openings s r (moved s id name counted (after_gone (Worker w (hand (stance.Owes p) taken)) (slice_index s.words (index name))))

-- the mover counts the stack that its refresh made Gone
abbrev pub MoverGoneLaw : Type 0
MoverGoneLaw = (openings : List Place) (s : St) (r : Kept openings s) (id : ℕ) (q : Plan) (p : Place) → get_elem? s.views id ≡ some (Mover q) → q.stage ≡ stage.Owes p
    → let name = Record p.mapping in
    Stays openings s r (moved s id name counted (after_gone (Mover q) (slice_index s.words (index name))))

-- what may be recorded: a new stack for one of the lanes, with a number above all given before, in a line of the script
pub record MayRecord (openings : List Place) (q : Plan) (g : Given) : Type 0 where
  pub place : IsStackPlace g.place
  pub lane : g.lane < length q.newest
  pub from_line : 0 < g.line
  pub above : IsAbove openings q.made g.place.mapping

-- the mover records a new stack
abbrev pub RecordLaw : Type 0
RecordLaw = (openings : List Place) (s : St) (r : Kept openings s) (id : ℕ) (q : Plan) (g : Given) → get_elem? s.views id ≡ some (Mover q) → q.stage ≡ stage.Idle → MayRecord openings q g
    → let name = Record g.place.mapping in
    Stays openings s r (moved s id name (λ _. record_word g.place g.lane 0) (after_record g (Mover q) (slice_index s.words (index name))))

-- the mover swaps the lane's word with the new stack's: that is its refresh
abbrev pub RefreshLaw : Type 0
RefreshLaw = (openings : List Place) (s : St) (r : Kept openings s) (id : ℕ) (q : Plan) (g : Given) → get_elem? s.views id ≡ some (Mover q) → q.stage ≡ stage.Recorded g
    → let name = Lane g.lane in
    Adds openings s r (moved s id name (λ _. packed g.place) (after_refresh (Mover q) (slice_index s.words (index name)))) (refreshed g.lane g.place g.line)

-- the mover marks the stack that was replaced with the line
abbrev pub MarkLaw : Type 0
MarkLaw = (openings : List Place) (s : St) (r : Kept openings s) (id : ℕ) (q : Plan) (m line : ℕ) (old : Option Place) → get_elem? s.views id ≡ some (Mover q) → q.stage ≡ stage.Replaced m line old
    → let name = Mark m in
    Stays openings s r (moved s id name (λ _. line) (after_mark (Mover q) (slice_index s.words (index name))))

-- a worker's seat is split off the mover's
abbrev pub SplitLaw : Type 0
SplitLaw = (openings : List Place) (s : St) (r : Kept openings s) (id : ℕ) (q : Plan) → get_elem? s.views id ≡ some (Mover q) → q.dealt < length openings → q.back ≡ []
    → Stays openings s r (record { words = s.words; homes = s.homes; views = slice_set s.views id (Mover (dealing q)) ++ Worker q.dealt (hand stance.Rest []) ∷ [] })

-- the seat of the next worker, at rest, is joined to the mover's
abbrev pub JoinLaw : Type 0
JoinLaw = (openings : List Place) (s : St) (r : Kept openings s) (id : ℕ) (q : Plan) (other w : ℕ) (taken : List Place) → get_elem? s.views id ≡ some (Mover q) → ¬ (other ≡ id) → get_elem? s.views other ≡ some (Worker w (hand stance.Rest taken)) → w ≡ length q.back
    → Stays openings s r (record { words = s.words; homes = s.homes; views = slice_set (slice_set s.views id (Mover (gathering q (hand stance.Rest taken)))) other Spent })
