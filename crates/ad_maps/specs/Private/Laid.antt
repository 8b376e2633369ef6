-- The words of the table as it is opened, module by module.
use Rattle.std.specs.Prelude.{◌≡◌, ◌≢◌, ◌⊎◌, ℕ, ◌<◌, ◌≤◌, List, length}
use Rattle.ad_base.specs.declared.place.Place.{Place}
use Rattle.ad_base.specs.Place.{base_of, packed}
use Rattle.ad_maps.specs.declared.shape.Shape.{Shape}
use Rattle.ad_maps.specs.MapPlace.{opening_of, cells_of, cell_word, module_of_frame}
use Rattle.ad_maps.specs.Names.{Words, AreWords}

-- where module m's first mapping lies
abbrev pub place_of_module : Shape → ℕ → Place
place_of_module shape m = (opening_of shape m).place

-- The words, once k modules have their words, c of them have their cells, and e cells of the next one are filled
pub record LaidBy (shape : Shape) (k c e : ℕ) (words : Words) : Type 0 where
  pub slot : (s : ℕ) → words.slot s ≡ 0
  pub count : (b : ℕ) → words.count b ≡ 0
  pub member : (b i : ℕ) → words.member b i ≡ 0
  pub current : (m : ℕ) → m < k → words.current m ≡ packed (place_of_module shape m)
  pub directory : (m : ℕ) → m < k → words.directory (place_of_module shape m).region ≡ packed (place_of_module shape m)
  pub region : (v : ℕ) → words.directory v ≢ 0 → (m : ℕ) × (m < k) × ((place_of_module shape m).region ≡ v)
  pub owner : (m : ℕ) → m < k → words.owner (place_of_module shape m).frame ≡ (place_of_module shape m).mapping
  pub owned : (f : ℕ) → (words.owner f ≡ 0) ⊎ ((m : ℕ) × (m < k) × ((place_of_module shape m).frame ≡ f) × (words.owner f ≡ (place_of_module shape m).mapping))
  pub cells : (m : ℕ) → m < c → (i : ℕ) → words.cell (place_of_module shape m).frame i ≡ cell_word (cells_of shape m) (base_of (place_of_module shape m)) i
  pub part : (i : ℕ) → i < e → words.cell (place_of_module shape c).frame i ≡ cell_word (cells_of shape c) (base_of (place_of_module shape c)) i
  pub spare : (m : ℕ) → k ≤ m → words.current m ≡ 0
  pub filled : (f i : ℕ) → words.cell f i ≢ 0 → (m : ℕ) × (m < k) × ((place_of_module shape m).frame ≡ f)
  pub past : (f i : ℕ) → length (cells_of shape (module_of_frame shape f)) ≤ i → words.cell f i ≡ 0

-- the table's words are so
pub record Laying (shape : Shape) (k c e : ℕ) (xs : List ℕ) : Type 0 where
  pub words : Words
  pub are : AreWords xs words
  pub laid : LaidBy shape k c e words

-- the table's words, once k modules are laid
abbrev pub Laid : Shape → ℕ → List ℕ → Type 0
Laid shape k xs = Laying shape k k 0 xs
