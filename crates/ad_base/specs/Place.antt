-- Where mappings lie, and the word that a place packs into.
use Rattle.std.specs.Prelude.{ℕ, ◌+◌, ◌-◌, ◌*◌, ◌/◌, ◌%◌, ◌^◌, ◌<◌, ◌≤◌}
use Rattle.ad_base.specs.declared.layout.TheConstants.{FRAMES, MAPPINGS, MODULE_REGION, PAGE_BYTES, REGION_BYTES, REGION_PAGES, REGIONS, STACK_REGION}
use Rattle.ad_base.specs.declared.place.Place.{Place}

-- the address of the first byte
abbrev pub base_of : Place → ℕ
base_of p = p.region * REGION_BYTES + p.start * PAGE_BYTES

-- The numbers of a place: its region is none of the first two, at least one unmapped page lies on
-- either side inside the region, mappings are numbered from 1 to 4,095, and there are 256 frames.
pub record IsPlace (p : Place) : Type 0 where
  pub region_from : MODULE_REGION ≤ p.region
  pub region_to : p.region < REGIONS
  pub page_before : 1 ≤ p.start
  pub some_page : 1 ≤ p.pages
  pub page_behind : p.start + p.pages < REGION_PAGES
  pub mapping_from : 1 ≤ p.mapping
  pub mapping_to : p.mapping ≤ MAPPINGS
  pub frame_to : p.frame < FRAMES

-- a place in a region for modules
pub record IsModulePlace (p : Place) : Type 0 where
  pub place : IsPlace p
  pub for_modules : p.region < STACK_REGION

-- The word of a place: the region is in bits 0 to 15, the start page in 16 to 25, the pages in 26 to
-- 35, the mapping number in 36 to 47, the frame in 48 to 55, and bits 56 to 63 are zero.
abbrev pub packed : Place → ℕ
packed p = p.region + p.start * 2 ^ 16 + p.pages * 2 ^ 26 + p.mapping * 2 ^ 36 + p.frame * 2 ^ 48

-- the place that packs into this word
unfoldable pub place_at : ℕ → Place
place_at word = record {
  region = word % 2 ^ 16;
  start = word / 2 ^ 16 % 2 ^ 10;
  pages = word / 2 ^ 26 % 2 ^ 10;
  mapping = word / 2 ^ 36 % 2 ^ 12;
  frame = word / 2 ^ 48 % 2 ^ 8;
}

-- the address is one of the place's bytes
pub record IsInside (p : Place) (at : ℕ) : Type 0 where
  pub from : base_of p ≤ at
  pub to : at < base_of p + p.pages * PAGE_BYTES

-- the number of the page that an address of the place is in, counted from 0
abbrev pub page_number : Place → ℕ → ℕ
page_number p at = (at - base_of p) / PAGE_BYTES
