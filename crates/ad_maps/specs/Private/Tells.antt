-- What a step tells its seat.
use Rattle.std.specs.Prelude.{◌≡◌, ◌≢◌, ℕ, ◌/◌, ◌^◌, ◌<◌, ◌≤◌, ◌+◌, Contains, slice_index, [], Some}
use Rattle.atomic_table.specs.Table.{Step}
use Rattle.ad_base.specs.declared.layout.TheConstants.{REGION_BYTES, MAPPINGS}
use Rattle.ad_base.specs.declared.place.Place.{Place}
use Rattle.ad_base.specs.Place.{base_of, packed, IsPlace, place_at}
use Rattle.ad_maps.specs.declared.shape.Shape.{Shape}
use Rattle.ad_maps.specs.declared.words.TheConstants.{FRAME_WORDS, NUMBERS}
use Rattle.ad_maps.specs.declared.view.Act.TheVariants as act
use Rattle.ad_maps.specs.declared.view.Made.{Made}
use Rattle.ad_maps.specs.declared.view.Stage.TheVariants as stage
use Rattle.ad_maps.specs.Ledger.{all_made, reads_of, IsLastIn, NeverFall}
use Rattle.ad_maps.specs.MapPlace.{nowhere, cell_word, cells_of, IsPlaceOf}
use Rattle.ad_maps.specs.Steps.{Sat, made, Becomes, after_read, after_act, after_leave, after_look, after_open, after_switch, after_unmap}
use Rattle.ad_maps.specs.Private.Handles.{acts_of, stance_of, pinned_by, plan_of, HasRetired, HasRoom}

-- the word is that of a place of module m
pub record IsWordOf (shape : Shape) (m : ℕ) (word : ℕ) : Type 0 where
  pub place : IsPlaceOf shape m (place_at word)
  pub packs : word ≡ packed (place_at word)

-- a read finds the word of a mapping of the module, and the numbers that the seat read of the module never fall
pub record Reads (shape : Shape) (m : ℕ) (st : Step (Unit {0})) (me : Sat) (found : ℕ) (me' : Sat) : Type 0 where
  pub becomes : Becomes (after_read m) st me found me'
  pub word : IsWordOf shape m found
  pub falls : NeverFall (reads_of m (acts_of me'.0))

-- a load of the directory finds the pinned mapping's word in its region, and in any other no word of a place with its number
pub record Pages (va : ℕ) (st : Step (Unit {0})) (me : Sat) (found : ℕ) (me' : Sat) : Type 0 where
  pub becomes : Becomes (after_act (act.Page va)) st me found me'
  pub own : (g : Made) → pinned_by (stance_of me.0) ≡ Some g → va / REGION_BYTES ≡ g.place.region → found ≡ packed g.place
  pub other : (g : Made) → pinned_by (stance_of me.0) ≡ Some g → va / REGION_BYTES ≢ g.place.region → (q : Place) → IsPlace q → found ≡ packed q → q.mapping ≢ g.place.mapping

-- a load of an entry finds the word of the pinned mapping
pub record Cells (shape : Shape) (e : ℕ) (st : Step (Unit {0})) (me : Sat) (found : ℕ) (me' : Sat) : Type 0 where
  pub becomes : Becomes (after_act (act.Cell e)) st me found me'
  pub word : (g : Made) → pinned_by (stance_of me.0) ≡ Some g → found ≡ cell_word (cells_of shape g.of_module) (base_of g.place) e

-- who leaves finds the number of a batch in the slot's high half
pub record Leaves (st : Step (Unit {0})) (me : Sat) (found : ℕ) (me' : Sat) : Type 0 where
  pub becomes : Becomes after_leave st me found me'
  pub few : found / 2 ^ 32 < NUMBERS

-- who opens a batch leaves a number for one more, where there is another mapping to retire
pub record Opens (st : Step (Unit {0})) (me : Sat) (found : ℕ) (me' : Sat) : Type 0 where
  pub becomes : Becomes after_open st me found me'
  pub room : HasRoom (plan_of me'.0)

-- a look finds 0 or the number of a mapping: where no new mapping is under way, of the one that was made last in the frame
pub record Looks (shape : Shape) (f : ℕ) (st : Step (Unit {0})) (me : Sat) (found : ℕ) (me' : Sat) : Type 0 where
  pub becomes : Becomes (after_look f) st me found me'
  pub number : found ≤ MAPPINGS
  pub last : (plan_of me.0).stage ≡ stage.Idle → found ≢ 0 → IsLastIn (all_made shape (plan_of me.0).deeds) f found

-- a switch finds the word of the mapping that was current
pub record Switches (shape : Shape) (g : Made) (st : Step (Unit {0})) (me : Sat) (found : ℕ) (me' : Sat) : Type 0 where
  pub becomes : Becomes (after_switch g) st me found me'
  pub word : IsWordOf shape g.of_module found
  pub number : (place_at found).mapping ≡ slice_index (plan_of me.0).current g.of_module
  pub room : (plan_of me.0).batches + 1 < NUMBERS
  pub new : (h : Made) → Contains (plan_of me.0).outs h → h.place.mapping ≢ (place_at found).mapping

-- an unmap finds the word of the mapping's place, whose frame is one of the table's; the mover's, of a mapping that it retired
pub record Unmaps (st : Step (Unit {0})) (me : Sat) (found : ℕ) (me' : Sat) : Type 0 where
  pub becomes : Becomes after_unmap st me found me'
  pub place : IsPlace (place_at found)
  pub packs : found ≡ packed (place_at found)
  pub frame : (place_at found).frame < FRAME_WORDS
  pub retired : HasRetired me.0 (place_at found).mapping

-- notes that no step makes
abbrev pub nothing_made : Made
nothing_made = made 0 nowhere

abbrev pub nothing_known : Shape
nothing_known = record { slots = 0; frames = 0; workers = 0; modules = [] }
