-- What holds of the places that the code keeps.
use Rattle.std.specs.Prelude.{◌≡◌, ℕ, ◌+◌, ◌≤◌, List, length, slice_get, Some, All}
use Rattle.ad_base.specs.declared.layout.TheConstants.{MAPPINGS, STACK_PAGES}
use Rattle.ad_base.specs.declared.ledger.Row.{Row}
use Rattle.ad_base.specs.declared.place.Place.{Place}
use Rattle.ad_base.specs.Image.{IsWhole, movable_pages}
use Rattle.ad_base.specs.Place.{IsPlace}
use Rattle.ad_call.specs.Call.{HasData}
use Rattle.ad_lines.specs.declared.line_run.ModuleRun.{ModuleRun}
use Rattle.ad_lines.specs.declared.mappings.Thing.{Thing}
use Rattle.ad_lines.specs.LineRun.{Placement, new_row}
use Rattle.ad_lines.specs.Opening.{Request, stack_request}

-- a placement, and for how many more moves there is room
pub record PlacementWithRoom : Type 0 where
  pub placement : Placement
  pub room : ℕ

-- rows are numbered from 1
abbrev pub AreNumbered : List Row → Type 0
AreNumbered rows = (k : ℕ) (r : Row) → slice_get rows k ≡ Some r → r.mapping ≡ k + 1

-- places have mapping numbers from 1 on
abbrev pub AreNumberedPlaces : List Place → Type 0
AreNumberedPlaces places = (k : ℕ) (p : Place) → slice_get places k ≡ Some p → p.mapping ≡ k + 1

-- there is a numbered row for each place that was drawn, and room for all that may be drawn
pub record IsMappingList (places : List Place) (rows : List Row) (capacity : ℕ) : Type 0 where
  pub numbered : AreNumbered rows
  pub each : length rows ≡ length places
  pub room : MAPPINGS ≤ capacity

-- what a place is asked for, without the pages
abbrev pub thing_of : Request → Thing
thing_of r = record { kind = r.kind; who = r.who }

abbrev pub stack_thing : ℕ → Thing
stack_thing worker = thing_of (stack_request worker)

-- the row of a thing at its place
abbrev pub thing_row : Thing × Place → Row
thing_row (t, p) = new_row t.kind t.who p

-- a place with one of so many mapping numbers
pub record IsMapped (count : ℕ) (p : Place) : Type 0 where
  pub place : IsPlace p
  pub number : p.mapping ≤ count

-- a module whose image is whole, whose data has the image's size, and which lies at a mapped place of as many pages
pub record IsModuleRun (count : ℕ) (m : ModuleRun) : Type 0 where
  pub whole : IsWhole m.image
  pub lengths : HasData m.image m.book.writable m.book.fixed
  pub mapped : IsMapped count m.movable
  pub pages : m.movable.pages ≡ movable_pages m.image

-- a stack lies at a mapped place of its pages
pub record IsStackRun (count : ℕ) (p : Place) : Type 0 where
  pub mapped : IsMapped count p
  pub pages : p.pages ≡ STACK_PAGES

-- all modules and stacks are so
pub record IsSound (count : ℕ) (modules : List ModuleRun) (stacks : List Place) : Type 0 where
  pub modules_are : All (IsModuleRun count) modules
  pub stacks_are : All (IsStackRun count) stacks
