-- The plan of each module, and its images.
use Rattle.std.proofs.Common.{◌≡◌, inl, inr, [], ◌∷◌, None, Some, refl, subst, sym, ap, ◌∙◌}
use Rattle.std.specs.List.{All, slice_index_or}
use Rattle.ad_base.specs.declared.image.Image.{Image}
use Rattle.ad_base.specs.declared.place.Place.{Place}
use Rattle.ad_elf.specs.Below.{first, joined}
use Rattle.ad_elf.specs.Relocation.{width}
use Rattle.ad_kit.specs.ObjectFile.{names_of}
use Rattle.ad_kit.specs.ReadBack.{is_kept, object_of, rela_of, relas_said, section_of, sections_said, symbol_of}
use Rattle.ad_link.specs.Plan.{IsPlan, IsRefusedAt, Planned}
use Rattle.ad_link.specs.declared.refusal.LinkRefusal.{LinkRefusal}
use Rattle.ad_link.specs.declared.refusal.LinkRefusal.TheVariants as refusal
use Rattle.ad_link.proofs.OneAnswer.{not_both, one_plan}
use Rattle.ad_parts.specs.Area.{area_of, is_fixed_name}
use Rattle.ad_parts.specs.Ends.{end_of, is_aligned, next}
use Rattle.ad_parts.specs.Layout.{ends, pages_of, sizes, spot_at, spots, spots_behind}
use Rattle.ad_parts.specs.Parts.{all_exports}
use Rattle.ad_parts.specs.Parts as parts
use Rattle.ad_parts.specs.Symbols.{export, has_name, home}
use Rattle.ad_parts.specs.declared.layout.Layout.{Layout}
use Rattle.ad_reloc.specs.Addresses.{field_address, field_offset, own_value, symbol_address, word_address}
use Rattle.ad_reloc.specs.Highs.{high_of}
use Rattle.ad_reloc.specs.Image.{IsImage, image_of}
use Rattle.ad_reloc.specs.Refusals.{are_pair, crosses, is_misaligned, is_out_of_range, leaves_pointer, plain_row, row_of, value_of, value_row}
use Rattle.ad_reloc.specs.Refusals as reloc
use Rattle.ad_reloc.specs.Table.{row, rows}
use Rattle.ad_reloc.specs.declared.refusal.RelocRefusal.{RelocRefusal}
use Rattle.ad_reloc.proofs.SomeImage.{some_answer}
use Rattle.ad_tables.specs.Symbols.{service_of, symbol_resolved}
use Rattle.ad_tables.specs.Tables.{fixed_symbols, local_symbols, need, need_of, unresolved_row, uses_symbol, without_repeats}
use Rattle.ad_tables.specs.Tables as tables
use Rattle.ad_tables.specs.declared.table_set.TableSet.{TableSet}
use Rattle.ad_generator.specs.Linked.{HasImages, IsPlanned, export_of}
use Rattle.ad_generator.specs.Modules.{Module, file, modules, object}
use Rattle.ad_generator.proofs.Readable.{HasObject, each_module, each_object}

-- the layout of a module's object, its tables, and the plan
abbrev layout : Module → Layout
layout m = record { spots = spots (object m).sections; sizes = sizes (ends (object m).sections); exports = all_exports (object m) }

abbrev tables_of : Module → TableSet
tables_of m = record { local = local_symbols (object m) (layout m) (object m).relas; fixed = fixed_symbols (object m) (layout m) (object m).relas }

abbrev planned : Module → Planned
planned m = record { object = object m; layout = layout m; tables = tables_of m }

-- no section, export, symbol or relocation of the object is refused
record HasNoRow (m : Module) : Type 0 where
  laid : parts.first_row (object m) ≡ None
  listed : tables.first_row (object m) (layout m) ≡ None
  exported : all_exports (object m) ≡ export_of m ∷ []

abbrev IsAppliedAnywhere : Module → Type 0
IsAppliedAnywhere m = (fixed : Place) → reloc.first_row (object m) (layout m) (tables_of m) fixed ≡ None

each_fine : All HasNoRow modules
unfolding area_of end_of export first has_name home is_aligned is_fixed_name is_kept joined names_of need need_of next object_of pages_of rela_of relas_said section_of sections_said service_of spot_at spots_behind symbol_of symbol_resolved unresolved_row uses_symbol width without_repeats
each_fine =
    each_module HasNoRow (record { laid = refl; listed = refl; exported = refl }) (record { laid = refl; listed = refl; exported = refl })
    (record { laid = refl; listed = refl; exported = refl }) (record { laid = refl; listed = refl; exported = refl })

-- So there is a plan, and only this one.
is_plan : (m : Module) → HasObject m → HasNoRow m → IsPlan (file m) (planned m)
is_plan m has fine = record {
  object = has;
  layout = record { no_row = fine.laid; spots_laid = refl; sizes_laid = refl; exports_found = refl };
  tables = record { no_row = fine.listed; local_found = refl; fixed_found = refl };
}

is_planned : (m : Module) → HasObject m → HasNoRow m → IsPlanned m
is_planned m has fine =
    let plan = is_plan m has fine in
    record {
      some = (planned m, plan);
      not_refused = λ r refused. not_both (file m) (planned m) r plan refused;
      export = λ p is. ap (λ (q : Planned). q.layout.exports) (one_plan (file m) p (planned m) is plan) ∙ fine.exported;
    }

pub each_planned : All IsPlanned modules
each_planned k d below = is_planned (slice_index_or modules k d) (each_object k d below) (each_fine k d below)

-- All relocations are in the movable part, and what they say doesn't depend on the place of the immovable part.
each_applied : All IsAppliedAnywhere modules
unfolding are_pair area_of crosses end_of export field_address field_offset first has_name high_of home is_aligned is_fixed_name is_kept is_misaligned is_out_of_range joined leaves_pointer names_of need need_of next object_of own_value pages_of plain_row rela_of relas_said row row_of rows section_of sections_said service_of spot_at spots_behind symbol_address symbol_of symbol_resolved uses_symbol value_of value_row width without_repeats word_address
each_applied = each_module IsAppliedAnywhere (λ fixed. refl) (λ fixed. refl) (λ fixed. refl) (λ fixed. refl)

some-none : (r : RelocRefusal) → None ≡ Some r → ⊥
some-none r e = cc

none_at : (p : Planned) (fixed : Place) → reloc.first_row p.object p.layout p.tables fixed ≡ None → (r : LinkRefusal) → IsRefusedAt fixed p r → ⊥
unfolding reloc.IsRefused
none_at p fixed none (refusal.Object r) refused = refused
none_at p fixed none (refusal.Parts r) refused = refused
none_at p fixed none (refusal.Tables r) refused = refused
none_at p fixed none (refusal.Reloc r) refused = some-none r (sym none ∙ refused)
none_at p fixed none refusal.OutOfMemory refused = refused

image_at : (p : Planned) (fixed : Place) → reloc.first_row p.object p.layout p.tables fixed ≡ None → (i : Image) × IsImage p.object p.layout p.tables fixed i
unfolding reloc.IsRefused
image_at p fixed none = elim (some_answer p.object p.layout p.tables fixed) [
  | inl found ↦ found
  | inr refused ↦ absurd (some-none refused.0 (sym none ∙ refused.1))
]

-- an image has the exports of its layout
image_exports : (p : Planned) (fixed : Place) (i : Image) → IsImage p.object p.layout p.tables fixed i → i.exports ≡ p.layout.exports
unfolding image_of
image_exports p fixed i is = ap (λ (x : Image). x.exports) is.made

has_images : (m : Module) → HasObject m → HasNoRow m → IsAppliedAnywhere m → HasImages m
has_images m has fine applied =
    let plan = is_plan m has fine in
    let none : (p : Planned) (fixed : Place) → IsPlan (file m) p → reloc.first_row p.object p.layout p.tables fixed ≡ None =
    λ p fixed is.
    subst (λ (q : Planned). reloc.first_row q.object q.layout q.tables fixed ≡ None) (sym (one_plan (file m) p (planned m) is plan)) (applied fixed)
    in
    record {
      some = λ p fixed is. image_at p fixed (none p fixed is);
      not_refused = λ p fixed r is refused. none_at p fixed (none p fixed is) r refused;
      exports = λ p fixed i is image. image_exports p fixed i image ∙ (is_planned m has fine).export p is;
    }

pub each_image : All HasImages modules
each_image k d below = has_images (slice_index_or modules k d) (each_object k d below) (each_fine k d below) (each_applied k d below)
