-- Where mappings lie, what a table is opened with, and what the words hold of it.
use Rattle.std.specs.Prelude.{◌≡◌, ◌≢◌, ℕ, ◌+◌, ◌*◌, ◌/◌, ◌^◌, ◌<◌, ◌≤◌, List, [], map, length, slice_index, slice_index_or}
use Rattle.ad_base.specs.Layout.{local_word}
use Rattle.ad_base.specs.declared.image.Cell.{Cell}
use Rattle.ad_base.specs.declared.place.Place.{Place}
use Rattle.ad_base.specs.Place.{packed, IsModulePlace}
use Rattle.ad_maps.specs.declared.shape.Opening.{Opening}
use Rattle.ad_maps.specs.declared.shape.Shape.{Shape}
use Rattle.ad_maps.specs.declared.words.TheConstants.{SLOTS, MODULE_FRAMES, MODULE_WORDS, CELLS}

-- the directory's word of a mapping: its place, and its unmap steps in bits 56 to 63
abbrev pub directory_word : Place → ℕ → ℕ
directory_word p unmaps = packed p + unmaps * 2 ^ 56

-- the member's word of a mapping: the line that retired it, and its region
abbrev pub member_word : ℕ → ℕ → ℕ
member_word line region = line * 2 ^ 16 + region

-- the word at an entry of a local area, which is 0 past the cells
abbrev pub cell_word : List Cell → ℕ → ℕ → ℕ
cell_word cells base e = slice_index (map (local_word base) cells) e

-- no place
abbrev pub nowhere : Place
nowhere = record { region = 0; start = 0; pages = 0; mapping = 0; frame = 0 }

abbrev pub no_opening : Opening
no_opening = record { place = nowhere; cells = [] }

-- what module m was opened with
abbrev pub opening_of : Shape → ℕ → Opening
opening_of shape m = slice_index_or shape.modules m no_opening

-- the cells of module m
abbrev pub cells_of : Shape → ℕ → List Cell
cells_of shape m = (opening_of shape m).cells

-- the numbers of the mappings of the opening
abbrev pub numbers : Shape → List ℕ
numbers shape = map (λ (o : Opening). o.place.mapping) shape.modules

-- the module whose frame this is: module m's frames are m * frames and following
abbrev pub module_of_frame : Shape → ℕ → ℕ
module_of_frame shape f = f / shape.frames

-- a place of a mapping of module m: in a region for modules, of the module's pages, with a frame of the module
pub record IsPlaceOf (shape : Shape) (m : ℕ) (p : Place) : Type 0 where
  pub for_module : m < length shape.modules
  pub place : IsModulePlace p
  pub size : p.pages ≡ (opening_of shape m).place.pages
  pub frame : module_of_frame shape p.frame ≡ m

-- a module may be opened so: with the first of its frames, and at most a frame's cells
pub record IsOpening (shape : Shape) (m : ℕ) : Type 0 where
  pub place : IsModulePlace (opening_of shape m).place
  pub frame : (opening_of shape m).place.frame ≡ m * shape.frames
  pub few_cells : length (cells_of shape m) ≤ CELLS

-- a table may be opened so: 1 to 16 slots, 2 to 16 frames for each module, at most 64 workers and 8 modules, whose
-- mappings differ in number and in region
pub record IsShape (shape : Shape) : Type 0 where
  pub some_slot : 1 ≤ shape.slots
  pub few_slots : shape.slots ≤ SLOTS
  pub some_frames : 2 ≤ shape.frames
  pub few_frames : shape.frames ≤ MODULE_FRAMES
  pub few_workers : shape.workers ≤ 64
  pub few_modules : length shape.modules ≤ MODULE_WORDS
  pub each : (m : ℕ) → m < length shape.modules → IsOpening shape m
  pub numbers_differ : (m n : ℕ) → m < n → n < length shape.modules → (opening_of shape m).place.mapping ≢ (opening_of shape n).place.mapping
  pub regions_differ : (m n : ℕ) → m < n → n < length shape.modules → (opening_of shape m).place.region ≢ (opening_of shape n).place.region
