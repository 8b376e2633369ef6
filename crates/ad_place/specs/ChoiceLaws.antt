-- Laws of the choice of places, in plain words.
use Rattle.std.specs.Prelude.{◌≡◌, ◌≢◌, ℕ, ◌+◌, ◌<◌, ◌≤◌, List, length, All, Any}
use Rattle.ad_base.specs.declared.layout.TheConstants.{MAPPINGS, PART_PAGES}
use Rattle.ad_base.specs.declared.ledger.Kind.{Kind}
use Rattle.ad_base.specs.declared.place.Place.{Place}
use Rattle.ad_base.specs.Place.{IsPlace}
use Rattle.ad_place.specs.Choice.{candidate, first_region, region_count}

-- no more than there may be mappings, each of at least one page and of at most as many as a part has
pub record MayBeDrawn (requests : List (Kind × ℕ)) : Type 0 where
  pub few : length requests ≤ MAPPINGS
  pub pages : All (λ request. (1 ≤ request.1) × (request.1 ≤ PART_PAGES)) requests

-- a place in a region for this kind, of so many pages, with this mapping number
pub record IsPlaceFor (kind : Kind) (page_count number : ℕ) (p : Place) : Type 0 where
  pub place : IsPlace p
  pub region_from : first_region kind ≤ p.region
  pub region_to : p.region < first_region kind + region_count kind
  pub pages : p.pages ≡ page_count
  pub mapping : p.mapping ≡ number
  pub frame : p.frame ≡ 0

-- candidate i is the first one that none of the places has
pub record IsFirstUnused (places : List Place) (kind : Kind) (word i : ℕ) : Type 0 where
  pub inside : i < region_count kind
  pub unused : All (λ p. p.region ≢ candidate kind word i) places
  pub used_before : (j : ℕ) → j < i → Any (λ p. p.region ≡ candidate kind word j) places
