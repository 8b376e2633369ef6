-- What contracts see of the table and of its handles.
use Rattle.std.specs.Prelude.{◌≡◌, ◌≢◌, ℕ, Bool, true, ◌+◌, ◌<◌, List, [], ◌∷◌, ◌++◌, length, map, AllPairs, Contains, slice_get, All, Some}
use Rattle.atomic_table.specs.Seated.{TableId}
use Rattle.ad_base.specs.declared.place.Place.{Place}
use Rattle.ad_maps.specs.declared.shape.Shape.{Shape}
use Rattle.ad_maps.specs.declared.view.Act.{Act}
use Rattle.ad_maps.specs.declared.view.Act.TheVariants as act
use Rattle.ad_maps.specs.declared.view.Deed.{Deed}
use Rattle.ad_maps.specs.declared.view.Deed.TheVariants as deed
use Rattle.ad_maps.specs.declared.view.Made.{Made}
use Rattle.ad_maps.specs.Ledger.{all_made, line_in, AreLastIn}
use Rattle.ad_maps.specs.MapPlace.{numbers}

-- the list of what a worker did grew by unmaps alone
pub record AddsUnmaps (before after : List Act) : Type 0 where
  pub numbers : List ℕ
  pub grew : after ≡ before ++ map (λ (n : ℕ). act.Unmap n) numbers

-- the retires of these mappings under a line
abbrev pub retires_of : ℕ → List Made → List Deed
retires_of line outs = map (λ (g : Made). deed.Retire g.place.mapping line) outs

-- the list of what the mover did grew by its retires of these mappings under this line, in order, and then by unmaps alone, each
-- of a mapping that it had retired by then
pub record AddsRetires (outs : List Made) (line : ℕ) (before after : List Deed) : Type 0 where
  pub numbers : List ℕ
  pub grew : after ≡ before ++ retires_of line outs ++ map (λ (n : ℕ). deed.Unmap n) numbers
  pub retired : All (λ (n : ℕ). 0 < line_in (before ++ retires_of line outs) n) numbers

-- these are mappings that are out, each once
pub record AreOuts (all outs : List Made) : Type 0 where
  pub each : (g : Made) → Contains outs g → Contains all g
  pub differ : AllPairs (λ (g h : Made). g.place.mapping ≢ h.place.mapping) outs

-- a table, and what it was opened with
pub record OpenMaps : Type 0 where
  pub table : TableId
  pub shape : Shape

-- a worker's seat: its table, its worker's number, what it did, in order, and whether it is away and has nothing to pay, to
-- free or to give back
pub record SeatSeen : Type 0 where
  pub table : TableId
  pub worker : ℕ
  pub acts : List Act
  pub at_rest : Bool

-- a worker that is inside a mapping: its seat, the module, and the place that it read
pub record InsideSeen : Type 0 where
  pub seat : SeatSeen
  pub of_module : ℕ
  pub place : Place

-- The mover's seat: its table, the number of the current mapping of each module, the mappings that were made and aren't
-- current yet, those that were current and aren't retired yet, frames that it found without owner and hasn't taken since,
-- what it did, in order, and whether
-- no mapping and no batch is under way and it has nothing to free or to give back
pub record MoverSeen : Type 0 where
  pub table : TableId
  pub current : List ℕ
  pub fresh : List Made
  pub outs : List Made
  pub rooms : List ℕ
  pub deeds : List Deed
  pub at_rest : Bool

-- a frame of a module, which had no owner when the mover looked at it
pub record RoomSeen : Type 0 where
  pub of_module : ℕ
  pub frame : ℕ

-- the seat of a worker that did nothing yet
abbrev pub new_seat : TableId → ℕ → SeatSeen
new_seat table w = record { table = table; worker = w; acts = []; at_rest = true }

-- one seat for each of n workers, in order, which did nothing yet
pub record AreNew (table : TableId) (n : ℕ) (seats : List SeatSeen) : Type 0 where
  pub count : length seats ≡ n
  pub each : (w : ℕ) → w < n → slice_get seats w ≡ Some (new_seat table w)

-- the mover's seat as a table is opened
abbrev pub new_mover : TableId → Shape → MoverSeen
new_mover table shape = record { table = table; current = numbers shape; fresh = []; outs = []; rooms = []; deeds = []; at_rest = true }

-- the mover's looks at frames in order of number, from this one on, where it found these owners
abbrev pub looks_from : ℕ → List ℕ → List Deed
looks_from f [] = []
looks_from f (o ∷ os) = deed.Look f o ∷ looks_from (f + 1) os

-- The looks for a room: each frame from the first one on had an owner, the mapping that was made last in it, up to one
-- that had none
pub record FoundRoom (shape : Shape) (first frames : ℕ) (before after : MoverSeen) (room : RoomSeen) : Type 0 where
  pub owners : List ℕ
  pub owned : All (λ (o : ℕ). o ≢ 0) owners
  pub last : AreLastIn (all_made shape before.deeds) first owners
  pub frame : room.frame ≡ first + length owners
  pub within : length owners < frames
  pub looks : after.deeds ≡ before.deeds ++ looks_from first (owners ++ 0 ∷ [])
  pub rooms : after.rooms ≡ room.frame ∷ before.rooms

-- each frame had an owner, the mapping that was made last in it, the last one this
pub record FoundNone (shape : Shape) (first frames : ℕ) (before after : MoverSeen) (owner : ℕ) : Type 0 where
  pub owners : List ℕ
  pub owned : All (λ (o : ℕ). o ≢ 0) (owners ++ owner ∷ [])
  pub last : AreLastIn (all_made shape before.deeds) first (owners ++ owner ∷ [])
  pub all : length owners + 1 ≡ frames
  pub looks : after.deeds ≡ before.deeds ++ looks_from first (owners ++ owner ∷ [])
  pub rooms : after.rooms ≡ before.rooms
