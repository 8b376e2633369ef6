-- What the tests keep of a table and its mover.
use Rattle.std.specs.Prelude.{◌≡◌, ℕ, ◌+◌, ◌<◌, ◌≤◌, List, [], ◌∷◌, length, slice_index, Contains}
use Rattle.ad_base.specs.declared.image.Cell.TheVariants.{Off, Num}
use Rattle.ad_maps.specs.declared.view.Made.{Made}
use Rattle.ad_maps.specs.Ledger.{all_made}
use Rattle.ad_maps.specs.MapPlace.{opening_of, cells_of}
use Rattle.ad_maps.specs.Seen.{AreOuts, MoverSeen, OpenMaps}

-- the mover may make a mapping of this number, and retire these mappings
pub record MayMove (maps : OpenMaps) (mover : MoverSeen) (away : List Made) (number : ℕ) : Type 0 where
  pub table : mover.table ≡ maps.table
  pub frames : maps.shape.frames ≤ 16
  pub pages : (m : ℕ) → m < length maps.shape.modules → (opening_of maps.shape m).place.pages ≡ 3
  pub cells : (m : ℕ) → m < length maps.shape.modules → cells_of maps.shape m ≡ Off 16 ∷ Num 7 ∷ []
  pub currents : length mover.current ≡ length maps.shape.modules
  pub current : (m : ℕ) → m < length maps.shape.modules → slice_index mover.current m < number
  pub above : (x : Made) → Contains (all_made maps.shape mover.deeds) x → x.place.mapping < number
  pub region : (x : Made) → Contains (all_made maps.shape mover.deeds) x → x.place.region < 2 + number
  pub outs : AreOuts mover.outs away
