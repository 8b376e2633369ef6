-- What the lines of a script make of the mover: its list of moves, the lists of its seats in the two tables, and its draws.
use Rattle.std.specs.Prelude.{◌≡◌, ◌≢◌, ℕ, ◌+◌, ◌*◌, ◌<◌, ◌≤◌, nat_lt, if◌then◌else◌, List, [], ◌∷◌, ◌++◌, length, map, slice_index, slice_set, All}
use Rattle.ad_base.specs.declared.layout.TheConstants.{MAPPINGS, STACK_PAGES}
use Rattle.ad_base.specs.declared.ledger.Kind.TheVariants as kinds
use Rattle.ad_base.specs.declared.ledger.MoveEnd.{MoveEnd}
use Rattle.ad_base.specs.declared.ledger.MoveEnd.TheVariants as ends
use Rattle.ad_base.specs.declared.ledger.Moved.{Moved}
use Rattle.ad_base.specs.declared.place.Place.{Place}
use Rattle.ad_maps.specs.declared.shape.Shape.{Shape}
use Rattle.ad_maps.specs.declared.view.Deed.{Deed}
use Rattle.ad_maps.specs.declared.view.Deed.TheVariants as deed
use Rattle.ad_maps.specs.declared.view.Made.{Made}
use Rattle.ad_maps.specs.Ledger.{all_made, line_in, AreLastIn}
use Rattle.ad_maps.specs.MapPlace.{opening_of}
use Rattle.ad_maps.specs.Seen.{looks_from}
use Rattle.ad_place.specs.Choice.{Drawn, next_place, with_next}
use Rattle.ad_script.specs.declared.script.Step.{Step}
use Rattle.ad_script.specs.declared.script.Step.TheVariants as steps
use Rattle.ad_stacks.specs.declared.view.Given.{Given}

-- What comes of moving a module. No number is left for a mapping; or each frame of the module is owned, those before the last
-- by these and the last by this one; or, behind frames that are owned by these, one isn't, and a mapping is made at a place in it.
pub data Outcome : Type 0 where
  NoNumber : Outcome
  AllOwned : List ℕ → ℕ → Outcome
  Placed : List ℕ → Place → Outcome

-- how the move ends
abbrev pub end_of : Outcome → MoveEnd
end_of NoNumber = ends.Spent
end_of (AllOwned owners last) = ends.Busy last
end_of (Placed owners p) = ends.Made p

-- what the mover does in the mapping table for module m, whose first frame is this: it looks at frames in order, and where one has
-- no owner it maps the place and switches the module to it
abbrev pub deeds_of : ℕ → ℕ → Outcome → List Deed
deeds_of first m NoNumber = []
deeds_of first m (AllOwned owners last) = looks_from first (owners ++ last ∷ [])
deeds_of first m (Placed owners p) = looks_from first (owners ++ 0 ∷ []) ++ deed.Map m p ∷ deed.Switch m p ∷ []

-- what is drawn then, for a part of so many pages
abbrev pub drawn_by : ℕ → Drawn → Outcome → Drawn
drawn_by pages d NoNumber = d
drawn_by pages d (AllOwned owners last) = d
drawn_by pages d (Placed owners p) = with_next d kinds.Code pages

-- the number of the current mapping of each module then
abbrev pub current_after : ℕ → List ℕ → Outcome → List ℕ
current_after m current NoNumber = current
current_after m current (AllOwned owners last) = current
current_after m current (Placed owners p) = slice_set current m p.mapping

-- and what goes out by it is retired under the line
abbrev pub retired_by : ℕ → ℕ → List ℕ → Outcome → List Deed
retired_by line m current NoNumber = []
retired_by line m current (AllOwned owners last) = []
retired_by line m current (Placed owners p) = deed.Retire (slice_index current m) line ∷ []

-- Moving module m may come to this, where these places were drawn and these mappings were made before. It is spent exactly where
-- no number is left. It is busy only where each frame of the module was owned as it was looked at. Else the new mapping lies at the
-- next place that is drawn, in the first frame without owner. No owner is 0, so that the looks end at that frame.
abbrev pub MayCome : Shape → ℕ → Drawn → List Made → Outcome → Type 0
MayCome shape m d mappings NoNumber = MAPPINGS ≤ length d.places
MayCome shape m d mappings (AllOwned owners last) =
    (length d.places < MAPPINGS) × (length owners + 1 ≡ shape.frames) × AreLastIn mappings (m * shape.frames) (owners ++ last ∷ [])
    × All (λ o. o ≢ 0) (owners ++ last ∷ [])
MayCome shape m d mappings (Placed owners p) =
    (length d.places < MAPPINGS) × (length owners < shape.frames) × AreLastIn mappings (m * shape.frames) owners
    × (p ≡ record (next_place d kinds.Code (opening_of shape m).place.pages) { frame = m * shape.frames + length owners })
    × All (λ o. o ≢ 0) owners

-- what is seen of a mover: what was drawn, what it did in the mapping table, its current mapping of each module, the stacks that it
-- gave to lanes, and what came of its moves so far
pub record Moving : Type 0 where
  pub drawn : Drawn
  pub deeds : List Deed
  pub current : List ℕ
  pub refreshes : List Given
  pub moves : List Moved

-- a mover once moving module m, in a line, came to this
abbrev pub with_outcome : Shape → ℕ → ℕ → Outcome → Moving → Moving
with_outcome shape line m o s = record s {
  drawn = drawn_by (opening_of shape m).place.pages s.drawn o;
  deeds = s.deeds ++ deeds_of (m * shape.frames) m o;
  current = current_after m s.current o;
  moves = s.moves ++ record { line = line; kind = kinds.Code; who = m; end = end_of o } ∷ [];
}

-- moving one module, in a line, came to this, and what went out by it is to be retired
pub record MovesModule (shape : Shape) (line m : ℕ) (before : Moving) (retires : List Deed) (after : Moving) : Type 0 where
  pub outcome : Outcome
  pub may : MayCome shape m before.drawn (all_made shape before.deeds) outcome
  pub is : after ≡ with_outcome shape line m outcome before
  pub out : retires ≡ retired_by line m before.current outcome

-- and so did moving modules, in order
abbrev pub MovesModules : Shape → ℕ → List ℕ → Moving → List Deed → Moving → Type 0
MovesModules shape line [] before retires after = (retires ≡ []) × (after ≡ before)
MovesModules shape line (m ∷ ms) before retires after =
    (mid : Moving) × (first rest : List Deed) × MovesModule shape line m before first mid × MovesModules shape line ms mid rest after × (retires ≡ first ++ rest)

-- A move line: its modules are moved, and then what went out is retired, all before the next line. Where the mover is the last to pay
-- what is owed of a batch, it unmaps the batch's mappings: that depends on who runs beside it, so that these may be any mappings that
-- it had retired by then.
pub record MovesLine (shape : Shape) (line : ℕ) (modules : List ℕ) (before after : Moving) : Type 0 where
  pub switched : Moving
  pub retires : List Deed
  pub unmapped : List ℕ
  pub moved : MovesModules shape line modules before retires switched
  pub none : retires ≡ [] → unmapped ≡ []
  pub retired : All (λ (n : ℕ). 0 < line_in (switched.deeds ++ retires) n) unmapped
  pub is : after ≡ record switched { deeds = switched.deeds ++ retires ++ map (λ (n : ℕ). deed.Unmap n) unmapped }

-- what comes of a stack line: spent exactly where no number is left
abbrev pub stack_end : Drawn → MoveEnd
stack_end d = if nat_lt (length d.places) MAPPINGS then ends.Made (next_place d kinds.Stack STACK_PAGES) else ends.Spent

-- what is drawn by it, and what the lane is given
abbrev pub stack_drawn : Drawn → MoveEnd → Drawn
stack_drawn d (ends.Made p) = with_next d kinds.Stack STACK_PAGES
stack_drawn d (ends.Busy owner) = d
stack_drawn d ends.Spent = d

abbrev pub given_by : ℕ → ℕ → MoveEnd → List Given
given_by line worker (ends.Made p) = record { lane = worker; place = p; line = line } ∷ []
given_by line worker (ends.Busy owner) = []
given_by line worker ends.Spent = []

-- a mover once a line gave a worker a fresh stack, if a number was left
abbrev pub with_stack : ℕ → ℕ → Moving → Moving
with_stack line worker s =
    let end = stack_end s.drawn in
    record s {
      drawn = stack_drawn s.drawn end;
      refreshes = s.refreshes ++ given_by line worker end;
      moves = s.moves ++ record { line = line; kind = kinds.Stack; who = worker; end = end } ∷ [];
    }

-- what a step makes of the mover: a call nothing
abbrev pub MakesStep : Shape → Step → Moving → Moving → Type 0
MakesStep shape (steps.Call line worker «module» export args) before after = after ≡ before
MakesStep shape (steps.Move line modules) before after = MovesLine shape line modules before after
MakesStep shape (steps.Stack line worker) before after = after ≡ with_stack line worker before

-- what the steps of a script make of it, in order
abbrev pub MakesSteps : Shape → List Step → Moving → Moving → Type 0
MakesSteps shape [] before after = after ≡ before
MakesSteps shape (step ∷ steps) before after = (mid : Moving) × MakesStep shape step before mid × MakesSteps shape steps mid after
