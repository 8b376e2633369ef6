-- A module and a stack of worked examples.
use Rattle.std.specs.Prelude.{ℕ, ◌+◌, ◌*◌, List, [], ◌∷◌}
use Rattle.ad_base.specs.declared.image.Cell.TheVariants.{Num}
use Rattle.ad_base.specs.declared.image.Image.{Image}
use Rattle.ad_base.specs.declared.layout.TheConstants.{PAGE_BYTES}
use Rattle.ad_base.specs.declared.place.Place.{Place}
use Rattle.ad_base.specs.Image.{zeros}
use Rattle.ad_base.specs.Segments.{Access, Fetch, Load, Store}
use Rattle.ad_call.specs.declared.asked.Asked.{Asked}
use Rattle.ad_call.specs.Asked.{asked_by}

-- a place from the second page of a region on
abbrev pub place_in : ℕ → ℕ → Place
place_in region pages = record { region = region; start = 1; pages = pages; mapping = 1; frame = 0 }

-- A module of so many pages of text, so many of read-only data, and a page of data. Its immovable part, of a page of text, lies
-- in region 3.
abbrev pub image_of : ℕ → ℕ → Image
image_of text_pages read_pages = record {
  text_pages = text_pages;
  read_pages = read_pages;
  data_pages = 1;
  code = zeros ((text_pages + 1 + read_pages) * PAGE_BYTES);
  cells = Num 5 ∷ Num 6 ∷ [];
  writable = zeros PAGE_BYTES;
  table = [];
  fixed_text_pages = 1;
  fixed_read_pages = 0;
  fixed_data_pages = 0;
  fixed_code = zeros (2 * PAGE_BYTES);
  fixed_data = [];
  fixed = place_in 3 3;
  exports = [];
}

abbrev pub fetch_at : ℕ → Access
fetch_at at = record { at = at; size = 4; use_of = Fetch }

abbrev pub load_at : ℕ → Access
load_at at = record { at = at; size = 8; use_of = Load }

abbrev pub store_at : ℕ → Access
store_at at = record { at = at; size = 8; use_of = Store }

-- what an access asks in a call of a module of one page of text and none of read-only data, whose movable part lies in region 2
-- and whose stack in region 32,768
abbrev pub asks : Access → List Asked
asks a = asked_by (image_of 1 0) (place_in 2 5) (place_in 32768 4) a
