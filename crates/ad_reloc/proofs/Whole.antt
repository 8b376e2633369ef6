-- The image of parts that are as long as their areas is whole.
use Rattle.std.proofs.Common.{◌≡◌, ℕ, zero, suc, ◌+◌, ◌*◌, ◌≤◌, Bool, true, false, List, ◌++◌, drop, take, length, length-take-le, length-drop, length-append, ap, ◌∙◌, arith}
use Rattle.std.proofs.lemmas.List.{length-map}
use Rattle.ad_base.specs.Image.{IsWhole}
use Rattle.ad_base.specs.Place.{IsModulePlace}
use Rattle.ad_base.specs.declared.layout.TheConstants.{STUB_PAGES, TABLE_PAGES}
use Rattle.ad_base.specs.declared.place.Place.{Place}
use Rattle.ad_elf.specs.declared.object.Object.{Object}
use Rattle.ad_elf.proofs.Below.{joined-more, joined-zero}
use Rattle.ad_parts.specs.Area.{area_in}
use Rattle.ad_parts.specs.Layout.{area_from, area_to}
use Rattle.ad_parts.specs.Parts.{IsLayout}
use Rattle.ad_parts.specs.declared.layout.Group.TheVariants as group
use Rattle.ad_parts.specs.declared.layout.Layout.{Layout}
use Rattle.ad_parts.specs.declared.layout.Sizes.{Sizes}
use Rattle.ad_tables.specs.Tables.{AreTables, section_words}
use Rattle.ad_tables.specs.declared.table_set.TableSet.{TableSet}
use Rattle.ad_reloc.specs.Addresses.{stubs_from, table_from}
use Rattle.ad_reloc.specs.Image.{Parts, cell_at, code_of, image_of, stub_bytes, stubs, with_bytes, word_of}
use Rattle.ad_reloc.proofs.Linkable.{few}
use Rattle.ad_reloc.proofs.Pointed.{length_each}
use Rattle.ad_reloc.proofs.TablesFit.{tables_fit}

same_length : (at : ℕ) (bytes part : List ℕ) → at + length bytes ≤ length part → length (with_bytes at bytes part) ≡ length part
same_length at bytes part inside =
    let all : length (take at part ++ bytes ++ drop (at + length bytes) part) ≡ length part =
    omega (arith, inside, length-append (take at part ++ bytes) (drop (at + length bytes) part), length-append (take at part) bytes, length-take-le at part (omega (arith, inside)), length-drop (at + length bytes) part) in
    all

stubs_long : (l : Layout) (movable : Bool) (n : ℕ) → length (stubs l movable n) ≡ 16 * n
unfolding stubs
stubs_long l movable zero = ap length (joined-zero (stub_bytes l movable))
stubs_long l movable (suc n) =
    let more : suc n ≡ n + 1 = omega arith in
    let before : length (stubs l movable n) ≡ 16 * n = stubs_long l movable n in
    ap (λ n. length (stubs l movable n)) more ∙ ap length (joined-more (stub_bytes l movable) n) ∙ omega (arith, length-append (stubs l movable n) (stub_bytes l movable n), before)

code_long : (l : Layout) (t : TableSet) (movable : Bool) (part : List ℕ) → length t.fixed ≤ 256 → table_from l.sizes movable ≤ length part → length (code_of l t movable part) ≡ table_from l.sizes movable
code_long l t movable part few long =
    let cut = length-take-le (table_from l.sizes movable) part long in
    same_length (stubs_from l.sizes movable) (stubs l movable (length t.fixed)) (take (table_from l.sizes movable) part) (inside movable (omega (arith, cut))) ∙ cut
  where
    inside : (m : Bool) → table_from l.sizes m ≤ length (take (table_from l.sizes movable) part) → stubs_from l.sizes m + length (stubs l movable (length t.fixed)) ≤ length (take (table_from l.sizes movable) part)
    inside true h = omega (arith, h, few, stubs_long l movable (length t.fixed))
    inside false h = omega (arith, h, few, stubs_long l movable (length t.fixed))

pub whole : (o : Object) (l : Layout) (t : TableSet) (fixed : Place) (p : Parts) → IsLayout o l → AreTables o l t → IsModulePlace fixed
    → fixed.pages ≡ l.sizes.fixed_text_pages + STUB_PAGES + l.sizes.fixed_read_pages + TABLE_PAGES + l.sizes.fixed_data_pages
    → length p.movable ≡ area_to l.sizes (area_in true group.Writable) → length p.fixed ≡ area_to l.sizes (area_in false group.Writable) → IsWhole (image_of o l t fixed p)
unfolding image_of
whole o l t fixed p laid tables place pages movable immovable =
    let fit = tables_fit o l t tables in
    let fewer = few o l laid in
    let same = laid.sizes_laid in
    record {
      code = omega (arith, code_long l t true p.movable fit.1 (omega (arith, movable)));
      writable = omega (arith, movable, length-drop (area_from l.sizes (area_in true group.Writable)) p.movable);
      fixed_code = omega (arith, code_long l t false p.fixed fit.1 (omega (arith, immovable)));
      fixed_data = omega (arith, immovable, length-drop (area_from l.sizes (area_in false group.Writable)) p.fixed);
      movable_pages_fit = omega (arith, fewer.0, ap (λ (z : Sizes). z.text_pages) same, ap (λ (z : Sizes). z.read_pages) same, ap (λ (z : Sizes). z.data_pages) same);
      fixed_pages_fit = omega (arith, fewer.1, ap (λ (z : Sizes). z.fixed_text_pages) same, ap (λ (z : Sizes). z.fixed_read_pages) same, ap (λ (z : Sizes). z.fixed_data_pages) same);
      cells_fit = omega (arith, fit.0, length_each (cell_at o l t p.movable o.relas) (section_words l + length t.local));
      table_fits = omega (arith, fit.1, length-map t.fixed (word_of o l fixed));
      fixed_size = pages;
      fixed_place = place;
    }
