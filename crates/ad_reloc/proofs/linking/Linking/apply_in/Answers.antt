use Rattle.std.proofs.Common.{ℤ, sym, subst, ◌∙◌, arith, rules}
use Rattle.std.specs.Int.{w128}
use Rattle.std.proofs.lemmas.Int.{to_z-of_z}
use Rattle.ad_reloc.specs.Fields.{CanSpell, bytes_of}
use Rattle.ad_reloc.specs.Private.Linking.{tables_of}
use Rattle.ad_reloc.specs.Relocated.{field_value, number_at}
use Rattle.ad_reloc.proofs.Spellable.{fits_width, listed, spellable}
use Rattle.ad_reloc.proofs.linking.Linking.apply_in.Goals as goal

pub set_field-requires-clause-inside : goal.set_field-requires-clause-inside
set_field-requires-clause-inside c =
    omega (arith, c.field_offset-at.ensures.value, c.requires.field, fits_width c.args.rela.now.typ c.in-Some.row (sym c.row_of.ensures ∙ c.in-Some.is))

pub set_field-requires-clause-spelled : goal.set_field-requires-clause-spelled
set_field-requires-clause-spelled c =
    let value = to_z-of_z w128 c.value_of.result (search rules) ∙ c.value_of.ensures.value in
    subst (λ (v : ℤ). CanSpell c.in-Some.row.form (field_value c.in-Some.row.formula (number_at (bytes_of c.in-Some.row.form) c.field_offset-at.result c.args.part.now) v)) (sym value)
    (spellable c.args.self.now.object.now c.args.self.now.layout.now (tables_of c.args.self.now) c.args.self.now.fixed c.args.rela.now c.requires.fine.0 c.in-Some.row _ c.requires.fine.1 (sym c.row_of.ensures ∙ c.in-Some.is))

pub returns-in_default-clause-applied : goal.returns-in_default-clause-applied
returns-in_default-clause-applied c =
    absurd (listed c.args.self.now.object.now c.args.self.now.layout.now (tables_of c.args.self.now) c.args.self.now.fixed c.args.rela.now c.requires.fine.0 c.requires.fine.1 (sym c.row_of.ensures ∙ c.in_default.is))
