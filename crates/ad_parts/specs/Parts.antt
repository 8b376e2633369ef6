-- The layout of an object, and why it may have none.
use Rattle.std.specs.Prelude.{◌≡◌, ◌==◌, not, List, Option, Some, None, find, length, if◌then◌else◌}
use Rattle.std.specs.Option.{option_map, option_or}
use Rattle.ad_base.specs.declared.image.Export.{Export}
use Rattle.ad_elf.specs.declared.object.Object.{Object}
use Rattle.ad_elf.specs.declared.object.Section.{Section}
use Rattle.ad_parts.specs.declared.layout.Layout.{Layout}
use Rattle.ad_parts.specs.declared.refusal.PartRefusal.{PartRefusal}
use Rattle.ad_parts.specs.declared.refusal.PartRefusal.TheVariants.{Alignment, Duplicate, NoExport, TooManyPages}
use Rattle.ad_parts.specs.Ends.{is_aligned}
use Rattle.ad_parts.specs.Layout.{ends, pages_over, sizes, spots}
use Rattle.ad_parts.specs.Symbols.{exports, first_repeated, name_of}

-- the first section whose alignment isn't taken
abbrev pub misaligned : Object → Option Section
misaligned o = find (λ s. not (is_aligned s)) o.sections

-- the exports of the object
abbrev pub all_exports : Object → List Export
all_exports o = exports (spots o.sections) o.symbols

-- The rows on sections: one is misaligned, or a part has too many pages.
abbrev pub section_row : Object → Option PartRefusal
section_row o = option_or (option_map (λ (s : Section). Alignment s.index) (misaligned o)) (option_map TooManyPages (pages_over (ends o.sections)))

-- The rows on exports: there is none, or the name of one is repeated.
abbrev pub export_row : List Export → Option PartRefusal
export_row es = if length es == 0 then Some NoExport else option_map (λ j. Duplicate (name_of es j)) (first_repeated es)

-- the first row that holds
abbrev pub first_row : Object → Option PartRefusal
first_row o = option_or (section_row o) (export_row (all_exports o))

-- The object has no layout, for this reason.
unfoldable pub IsRefused : Object → PartRefusal → Type 0
IsRefused o r = first_row o ≡ Some r

-- This is the layout of the object.
pub record IsLayout (o : Object) (l : Layout) : Type 0 where
  pub no_row : first_row o ≡ None
  pub spots_laid : l.spots ≡ spots o.sections
  pub sizes_laid : l.sizes ≡ sizes (ends o.sections)
  pub exports_found : l.exports ≡ all_exports o
