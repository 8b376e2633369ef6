-- The histories of the stacks, and the state that each leaves: a stack is In its lane, Held by the lane's worker,
-- or Gone. A history is a list of events, the last one first.
use Rattle.std.specs.Prelude.{◌≡◌, ℕ, ◌<◌, ◌≤◌, ◌==◌, List, [], ◌∷◌, ◌++◌, length, All, AllPairs, Option, None, Some, is_some, unwrap_or, if◌then◌else◌}
use Rattle.ad_base.specs.declared.place.Place.{Place}
use Rattle.ad_stacks.specs.declared.view.Given.{Given}
use Rattle.ad_stacks.specs.Names.{changed}
use Rattle.ad_stacks.specs.StackPlace.{IsStackPlace}

-- a lane and a place; a refresh has its line too
pub data Event : Type 0 where
  opened : ℕ → Place → Event
  took : ℕ → Place → Event
  put : ℕ → Place → Event
  refreshed : ℕ → Place → ℕ → Event

-- a lane and a place
pub data Status : Type 0 where
  unmade : Status
  in_lane : ℕ → Place → Status
  held : ℕ → Place → Status
  gone : ℕ → Place → Status

-- the stack that is In a lane
abbrev pub lane_of : List Event → ℕ → Option Place
lane_of [] w = None
lane_of (opened v p ∷ past) w = changed (lane_of past) v (Some p) w
lane_of (took v p ∷ past) w = changed (lane_of past) v None w
lane_of (put v p ∷ past) w = changed (lane_of past) v (Some (unwrap_or (lane_of past v) p)) w
lane_of (refreshed v p line ∷ past) w = changed (lane_of past) v (Some p) w

-- the stack that a worker holds
abbrev pub held_of : List Event → ℕ → Option Place
held_of [] w = None
held_of (opened v p ∷ past) w = held_of past w
held_of (took v p ∷ past) w = changed (held_of past) v (Some p) w
held_of (put v p ∷ past) w = changed (held_of past) v None w
held_of (refreshed v p line ∷ past) w = held_of past w

-- the status of a stack, once the one that was In a lane is made Gone
abbrev pub replaced : ℕ → Status → Status
replaced w unmade = unmade
replaced w (in_lane v p) = if v == w then gone v p else in_lane v p
replaced w (held v p) = held v p
replaced w (gone v p) = gone v p

-- The status of the mapping of a number. A take makes In to Held. A refresh puts a new one In, and makes
-- the one that was In Gone. A put makes Held to In where none is In, else to Gone.
abbrev pub status : List Event → ℕ → Status
status [] m = unmade
status (opened w p ∷ past) m = changed (status past) p.mapping (in_lane w p) m
status (took w p ∷ past) m = changed (status past) p.mapping (held w p) m
status (put w p ∷ past) m = changed (status past) p.mapping (if is_some (lane_of past w) then gone w p else in_lane w p) m
status (refreshed w p line ∷ past) m = changed (λ k. replaced w (status past k)) p.mapping (in_lane w p) m

-- the places of the opening, in order of lane
abbrev pub openings_of : List Event → List Place
openings_of [] = []
openings_of (opened w p ∷ past) = openings_of past ++ p ∷ []
openings_of (took w p ∷ past) = openings_of past
openings_of (put w p ∷ past) = openings_of past
openings_of (refreshed w p line ∷ past) = openings_of past

-- the refreshes, in order
abbrev pub refreshes_of : List Event → List Given
refreshes_of [] = []
refreshes_of (opened w p ∷ past) = refreshes_of past
refreshes_of (took w p ∷ past) = refreshes_of past
refreshes_of (put w p ∷ past) = refreshes_of past
refreshes_of (refreshed w p line ∷ past) = refreshes_of past ++ record { lane = w; place = p; line = line } ∷ []

-- the places that a worker took, in order
abbrev pub takes_of : List Event → ℕ → List Place
takes_of [] w = []
takes_of (opened v p ∷ past) w = takes_of past w
takes_of (took v p ∷ past) w = changed (takes_of past) v (takes_of past v ++ p ∷ []) w
takes_of (put v p ∷ past) w = takes_of past w
takes_of (refreshed v p line ∷ past) w = takes_of past w

-- the number of the mapping that a lane was given last, or 0
abbrev pub newest : List Event → ℕ → ℕ
newest [] w = 0
newest (opened v p ∷ past) w = changed (newest past) v p.mapping w
newest (took v p ∷ past) w = newest past w
newest (put v p ∷ past) w = newest past w
newest (refreshed v p line ∷ past) w = changed (newest past) v p.mapping w

-- the line of the refresh that replaced a mapping, or 0: it replaces the one that its lane was given last
abbrev pub line_of : List Event → ℕ → ℕ
line_of [] m = 0
line_of (opened v p ∷ past) m = line_of past m
line_of (took v p ∷ past) m = line_of past m
line_of (put v p ∷ past) m = line_of past m
line_of (refreshed v p line ∷ past) m = changed (line_of past) (newest past v) line m

-- all numbers given so far are below this one
abbrev pub AreBelow : List Event → ℕ → Type 0
AreBelow [] m = Unit {0}
AreBelow (opened w p ∷ past) m = (p.mapping < m) × AreBelow past m
AreBelow (took w p ∷ past) m = AreBelow past m
AreBelow (put w p ∷ past) m = AreBelow past m
AreBelow (refreshed w p line ∷ past) m = (p.mapping < m) × AreBelow past m

-- the next lane is opened, with a number of its own, before any refresh
pub record MayOpen (past : List Event) (w : ℕ) (p : Place) : Type 0 where
  pub next : w ≡ length (openings_of past)
  pub place : IsStackPlace p
  pub fresh : status past p.mapping ≡ unmade
  pub first : refreshes_of past ≡ []

-- the stack is In the lane, and the lane's worker holds none
pub record MayTake (past : List Event) (w : ℕ) (p : Place) : Type 0 where
  pub is_in : status past p.mapping ≡ in_lane w p
  pub free : held_of past w ≡ None

-- the lane's worker holds the stack
abbrev pub MayPut : List Event → ℕ → Place → Type 0
MayPut past w p = status past p.mapping ≡ held w p

-- the lane gets a stack with a number above all given before, in a line of the script
pub record MayRefresh (past : List Event) (w : ℕ) (p : Place) (line : ℕ) : Type 0 where
  pub lane : w < length (openings_of past)
  pub place : IsStackPlace p
  pub above : AreBelow past p.mapping
  pub from_line : 0 < line

-- the event may come after these
abbrev pub Lawful : Event → List Event → Type 0
Lawful (opened w p) past = MayOpen past w p
Lawful (took w p) past = MayTake past w p
Lawful (put w p) past = MayPut past w p
Lawful (refreshed w p line) past = MayRefresh past w p line

-- each event might come when it came
abbrev pub AreLawful : List Event → Type 0
AreLawful [] = Unit {0}
AreLawful (e ∷ past) = Lawful e past × AreLawful past

-- the numbers of these places never fall
abbrev pub NeverFall : List Place → Type 0
NeverFall ps = AllPairs (λ (p q : Place). p.mapping ≤ q.mapping) ps

-- the number is above those of the opening and of the refreshes
pub record IsAbove (openings : List Place) (made : List Given) (m : ℕ) : Type 0 where
  pub opened : All (λ (p : Place). p.mapping < m) openings
  pub refreshed : All (λ (g : Given). g.place.mapping < m) made
