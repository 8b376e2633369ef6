-- Which images are whole, the zero bytes that fill up their pages, and the image of a text alone.
use Rattle.std.specs.Prelude.{◌≡◌, ℕ, ◌+◌, ◌-◌, ◌*◌, ◌≤◌, List, [], ◌++◌, length, replicate}
use Rattle.ad_base.specs.declared.layout.TheConstants.{LOCAL_PAGES, LOCAL_WORDS, PAGE_BYTES, PART_PAGES, STUB_PAGES, TABLE_PAGES, TABLE_WORDS}
use Rattle.ad_base.specs.declared.image.Export.{Export}
use Rattle.ad_base.specs.declared.image.Image.{Image}
use Rattle.ad_base.specs.declared.place.Place.{Place}
use Rattle.ad_base.specs.Place.{IsModulePlace}

-- so many zero bytes
unfoldable pub zeros : ℕ → List ℕ
zeros n = replicate n 0

-- text, stubs, read-only data, the fixed table, the local area, writable data
abbrev pub movable_pages : Image → ℕ
movable_pages i = i.text_pages + STUB_PAGES + i.read_pages + TABLE_PAGES + LOCAL_PAGES + i.data_pages

-- text, stubs, read-only data, the fixed table, writable data
abbrev pub fixed_pages : Image → ℕ
fixed_pages i = i.fixed_text_pages + STUB_PAGES + i.fixed_read_pages + TABLE_PAGES + i.fixed_data_pages

-- Each list of bytes fills its pages, no part and no table is too long, and the immovable part has a
-- place of its pages among those for modules.
pub record IsWhole (i : Image) : Type 0 where
  pub code : length i.code ≡ (i.text_pages + STUB_PAGES + i.read_pages) * PAGE_BYTES
  pub writable : length i.writable ≡ i.data_pages * PAGE_BYTES
  pub fixed_code : length i.fixed_code ≡ (i.fixed_text_pages + STUB_PAGES + i.fixed_read_pages) * PAGE_BYTES
  pub fixed_data : length i.fixed_data ≡ i.fixed_data_pages * PAGE_BYTES
  pub movable_pages_fit : movable_pages i ≤ PART_PAGES
  pub fixed_pages_fit : fixed_pages i ≤ PART_PAGES
  pub cells_fit : length i.cells ≤ LOCAL_WORDS
  pub table_fits : length i.table ≤ TABLE_WORDS
  pub fixed_size : i.fixed.pages ≡ fixed_pages i
  pub fixed_place : IsModulePlace i.fixed

-- The image of a page of text and nothing else: the text's page and the stub pages are filled up with zeros, and there
-- are no cells, no table entries and no data. The immovable part lies at a place.
abbrev pub text_image : List ℕ → List Export → Place → Image
text_image text exports fixed = record {
  text_pages = 1;
  read_pages = 0;
  data_pages = 0;
  code = text ++ zeros ((1 + STUB_PAGES) * PAGE_BYTES - length text);
  cells = [];
  writable = [];
  table = [];
  fixed_text_pages = 0;
  fixed_read_pages = 0;
  fixed_data_pages = 0;
  fixed_code = zeros (STUB_PAGES * PAGE_BYTES);
  fixed_data = [];
  fixed = fixed;
  exports = exports;
}
