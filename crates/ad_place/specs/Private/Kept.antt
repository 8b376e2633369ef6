-- What the fields of a placer hold.
use Rattle.std.specs.Prelude.{◌≡◌, ℕ, ◌*◌, ◌<◌, ◌≤◌, Bool, false, List, length, slice_index_or}
use Rattle.rand_chacha.specs.ChaCha.{ChaCha, key_of}
use Rattle.ad_base.specs.declared.layout.TheConstants.{MAPPINGS, REGIONS}
use Rattle.ad_base.specs.declared.place.Place.{Place}
use Rattle.ad_place.specs.Choice.{has_region, seed_bytes}

-- the generator of a seed's random words, before word k
abbrev pub before_word : ℕ → ℕ → ChaCha
before_word seed k = record { key = key_of (seed_bytes seed); stream = 0; word_pos = k }

-- two words were taken for each place, and the index says which regions the places have
pub record IsKept (seed : ℕ) (generator : ChaCha) (used : List Bool) (places : List Place) : Type 0 where
  pub words : generator ≡ before_word seed (2 * length places)
  pub regions : length used ≡ REGIONS
  pub index : (region : ℕ) → region < REGIONS → slice_index_or used region false ≡ has_region places region
  pub few : length places ≤ MAPPINGS
