use Rattle.std.proofs.Common.{subst, sym, ◌∙◌}
use Rattle.ad_elf.specs.declared.object.Object.{Object}
use Rattle.ad_parts.specs.declared.layout.Layout.{Layout}
use Rattle.ad_reloc.specs.Private.Parts.{FieldsFit}
use Rattle.ad_reloc.proofs.FieldsFit.{fields_fit, pointers_fine}
use Rattle.ad_reloc.proofs.TablesFit.{same_fit}
use Rattle.ad_reloc.proofs.Whole.{whole}
use Rattle.ad_reloc.proofs.Fitted.{sections_fit}
use Rattle.std.proofs.Common.{◌≡◌}
use Rattle.ad_base.specs.Image.{IsWhole}
use Rattle.ad_reloc.specs.Image.{image_of}
use Rattle.ad_reloc.specs.Private.Linking.{tables_of}
use Rattle.ad_reloc.specs.Private.Parts.{ArePointersFine, lists_of}
use Rattle.ad_reloc.proofs.image.relocate.Goals as goal

-- src/image.rt:54:18
pub laid_part-requires : goal.laid_part-requires
laid_part-requires c = sections_fit c.args.object.now c.args.layout.now c.args.tables.now c.requires.range c.requires.laid c.requires.tables

-- src/image.rt:55:16
pub laid_part-requires-2 : goal.laid_part-requires-2
laid_part-requires-2 c = sections_fit c.args.object.now c.args.layout.now c.args.tables.now c.requires.range c.requires.laid c.requires.tables

-- src/image.rt:57:5
pub apply_all-requires-clause-fields : goal.apply_all-requires-clause-fields
apply_all-requires-clause-fields c =
    let p = lists_of (record { movable = c.in_ok-laid_part.field-0; fixed = c.in_ok-laid_part-2.field-0 }) in
    let fit = fields_fit c.args.object.now c.args.layout.now c.args.tables.now p c.requires.range c.requires.laid c.requires.tables c.in_ok-laid_part.ensures.whole c.in_ok-laid_part-2.ensures.whole in
    subst (λ (o : Object). FieldsFit o c.in_ok-linking.linking.layout.now p) (sym c.in_ok-linking.ensures.object) (subst (λ (l : Layout). FieldsFit c.args.object.now l p) (sym c.in_ok-linking.ensures.layout) fit)

-- src/image.rt:58:8
pub image-requires-clause-local : goal.image-requires-clause-local
image-requires-clause-local c = (same_fit c.args.object.now c.args.layout.now c.in_ok-linking.linking.layout.now c.args.tables.now (tables_of c.in_ok-linking.linking) c.requires.tables c.in_ok-linking.ensures.layout c.in_ok-linking.ensures.tables).0

-- src/image.rt:58:8
pub image-requires-clause-words : goal.image-requires-clause-words
image-requires-clause-words c = (same_fit c.args.object.now c.args.layout.now c.in_ok-linking.linking.layout.now c.args.tables.now (tables_of c.in_ok-linking.linking) c.requires.tables c.in_ok-linking.ensures.layout c.in_ok-linking.ensures.tables).1

-- src/image.rt:58:8
pub image-requires-clause-pointers : goal.image-requires-clause-pointers
image-requires-clause-pointers c =
    let fine = pointers_fine c.args.object.now c.args.layout.now c.args.tables.now c.args.fixed c.requires.range c.requires.laid c.requires.tables c.in_ok-check_relocations.ensures.fine in
    subst (λ (o : Object). ArePointersFine o c.in_ok-linking.linking.layout.now) (sym c.in_ok-linking.ensures.object) (subst (ArePointersFine c.args.object.now) (sym c.in_ok-linking.ensures.layout) fine)

-- src/image.rt:35:1
pub returns-clause-whole : goal.returns-clause-whole
returns-clause-whole c =
    let p = lists_of c.apply_all.new.parts in
    let full = whole c.args.object.now c.args.layout.now c.args.tables.now c.args.fixed p c.requires.laid c.requires.tables c.requires.place c.requires.pages (c.apply_all.ensures.movable ∙ c.in_ok-laid_part.ensures.whole) (c.apply_all.ensures.fixed ∙ c.in_ok-laid_part-2.ensures.whole) in
    let same = c.in_ok-linking.ensures in
    let image : c.in_ok-image.field-0 ≡ image_of c.args.object.now c.args.layout.now c.args.tables.now c.args.fixed p = c.in_ok-image.ensures ∙ (λ i. image_of (same.object i) (same.layout i) (same.tables i) (same.fixed i) p) in
    subst IsWhole (sym image) full
