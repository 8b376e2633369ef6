-- The image of a text alone.
use Rattle.std.proofs.Common.{◌≡◌, ℕ, ◌+◌, ◌-◌, ◌*◌, ◌≤◌, List, [], ◌++◌, length, refl, arith}
use Rattle.std.proofs.lemmas.List.{length-append}
use Rattle.ad_base.specs.declared.image.Cell.{Cell}
use Rattle.ad_base.specs.declared.image.Export.{Export}
use Rattle.ad_base.specs.declared.image.Image.{Image}
use Rattle.ad_base.specs.declared.layout.TheConstants.{PAGE_BYTES, STUB_PAGES, TABLE_PAGES}
use Rattle.ad_base.specs.declared.place.Place.{Place}
use Rattle.ad_base.specs.Image.{IsWhole, text_image, zeros}
use Rattle.ad_base.specs.Place.{IsModulePlace}
use Rattle.ad_base.proofs.Zeros.{length-zeros}

-- it is whole, where the place of its immovable part has its pages
pub text_image-whole : (text : List ℕ) (exports : List Export) (fixed : Place) → length text ≤ PAGE_BYTES → IsModulePlace fixed → fixed.pages ≡ STUB_PAGES + TABLE_PAGES → IsWhole (text_image text exports fixed)
text_image-whole text exports fixed short place pages = record {
  code = omega (arith, length-append text (zeros ((1 + STUB_PAGES) * PAGE_BYTES - length text)), length-zeros ((1 + STUB_PAGES) * PAGE_BYTES - length text), short);
  writable = refl;
  fixed_code = length-zeros (STUB_PAGES * PAGE_BYTES);
  fixed_data = refl;
  movable_pages_fit = omega arith;
  fixed_pages_fit = omega arith;
  cells_fit = omega arith;
  table_fits = omega arith;
  fixed_size = pages;
  fixed_place = place;
}

-- an image whose lists are those of a text alone
pub text_image-is : (text : List ℕ) (exports : List Export) (fixed : Place) (code : List ℕ) (cells : List Cell) (writable table fixed_code fixed_data : List ℕ) (given : List Export)
    → code ≡ text ++ zeros ((1 + STUB_PAGES) * PAGE_BYTES - length text) → cells ≡ [] → writable ≡ [] → table ≡ [] → fixed_code ≡ zeros (STUB_PAGES * PAGE_BYTES) → fixed_data ≡ []
    → given ≡ exports
    → ◌≡◌ {A = Image} (record {
      text_pages = 1;
      read_pages = 0;
      data_pages = 0;
      code = code;
      cells = cells;
      writable = writable;
      table = table;
      fixed_text_pages = 0;
      fixed_read_pages = 0;
      fixed_data_pages = 0;
      fixed_code = fixed_code;
      fixed_data = fixed_data;
      fixed = fixed;
      exports = given;
    }) (text_image text exports fixed)
text_image-is text exports fixed code cells writable table fixed_code fixed_data given e0 e1 e2 e3 e4 e5 e6 = rw (e0, e1, e2, e3, e4, e5, e6) refl
