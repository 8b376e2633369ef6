-- What a link has found of a module's file before its immovable part has a place, and why it may have found nothing.
use Rattle.std.specs.Prelude.{ℕ, ◌+◌, List}
use Rattle.ad_base.specs.declared.layout.TheConstants.{LOCAL_PAGES, STUB_PAGES, TABLE_PAGES}
use Rattle.ad_elf.specs.declared.object.Object.{Object}
use Rattle.ad_elf.specs.Range.{IsInRange}
use Rattle.ad_elf.specs.Refusals.{IsObject}
use Rattle.ad_elf.specs.Refusals as file
use Rattle.ad_parts.specs.declared.layout.Layout.{Layout}
use Rattle.ad_parts.specs.declared.layout.Sizes.{Sizes}
use Rattle.ad_parts.specs.Parts.{IsLayout}
use Rattle.ad_parts.specs.Parts as parts
use Rattle.ad_base.specs.declared.place.Place.{Place}
use Rattle.ad_reloc.specs.Refusals as reloc
use Rattle.ad_tables.specs.declared.table_set.TableSet.{TableSet}
use Rattle.ad_tables.specs.Tables.{AreTables}
use Rattle.ad_tables.specs.Tables as tables
use Rattle.ad_link.specs.declared.refusal.LinkRefusal.{LinkRefusal}
use Rattle.ad_link.specs.declared.refusal.LinkRefusal.TheVariants as refusal

-- the object of the file, where its sections go, and its tables
pub record Planned : Type 0 where
  pub object : Object
  pub layout : Layout
  pub tables : TableSet

-- The object is in range, and these are its layout and its tables.
pub record IsSound (p : Planned) : Type 0 where
  pub range : IsInRange p.object
  pub layout : IsLayout p.object p.layout
  pub tables : AreTables p.object p.layout p.tables

-- The first is the object of the file, the second its layout, and the third its tables.
pub record IsPlan (bytes : List ℕ) (p : Planned) : Type 0 where
  pub object : IsObject bytes p.object
  pub layout : IsLayout p.object p.layout
  pub tables : AreTables p.object p.layout p.tables

-- The file is refused so: as a file; or, once it has an object, as one without a layout; or, once it has a layout, as one
-- without tables.
abbrev pub IsRefused : List ℕ → LinkRefusal → Type 0
IsRefused bytes (refusal.Object r) = file.IsRefused bytes r
IsRefused bytes (refusal.Parts r) = (o : Object) × IsObject bytes o × parts.IsRefused o r
IsRefused bytes (refusal.Tables r) = (o : Object) × (l : Layout) × IsObject bytes o × IsLayout o l × tables.IsRefused o l r
IsRefused bytes (refusal.Reloc r) = ⊥
IsRefused bytes refusal.OutOfMemory = ⊥

-- The plan is refused so with the immovable part at a place: a relocation can't be applied.
abbrev pub IsRefusedAt : Place → Planned → LinkRefusal → Type 0
IsRefusedAt fixed p (refusal.Object r) = ⊥
IsRefusedAt fixed p (refusal.Parts r) = ⊥
IsRefusedAt fixed p (refusal.Tables r) = ⊥
IsRefusedAt fixed p (refusal.Reloc r) = reloc.IsRefused p.object p.layout p.tables fixed r
IsRefusedAt fixed p refusal.OutOfMemory = ⊥

-- the pages of each part
abbrev pub movable_pages : Sizes → ℕ
movable_pages z = z.text_pages + STUB_PAGES + z.read_pages + TABLE_PAGES + LOCAL_PAGES + z.data_pages

abbrev pub fixed_pages : Sizes → ℕ
fixed_pages z = z.fixed_text_pages + STUB_PAGES + z.fixed_read_pages + TABLE_PAGES + z.fixed_data_pages
