use Rattle.std.proofs.Common.{◌≡◌, ℕ, ℤ, ap, ap₂, subst, ◌∙◌, rules}
use Rattle.std.specs.Int.{w128}
use Rattle.std.proofs.lemmas.Int.{to_z-of_z}
use Rattle.ad_reloc.specs.declared.row.Form.{Form}
use Rattle.ad_reloc.specs.Fields.{Spells}
use Rattle.ad_reloc.specs.Relocated.{field_value, number_at, with_number}
use Rattle.ad_reloc.proofs.part.set_field.Goals as goal

spells_same : (g : Form) (v w : ℤ) (n m new : ℕ) → v ≡ w → n ≡ m → Spells g v n new → Spells g w m new
spells_same g v w n m new same found spells = subst (λ x. Spells g x m new) same (subst (λ x. Spells g v x new) found spells)

pub returns : goal.returns
returns c =
    let number = to_z-of_z w128 c.field_value-number.result (search rules) in
    let value = to_z-of_z w128 c.args.value (search rules) in
    let found = c.number_at-field.ensures.found ∙ ap (λ n. number_at n c.args.at c.args.bytes.now) c.bytes_of-size.ensures.value in
    let made = number ∙ c.field_value-number.ensures ∙ ap₂ (λ n v. field_value c.args.row.formula n v) found value in
    record {
      field = c.spelled.result;
      spells = spells_same c.args.row.form _ _ _ _ c.spelled.result made found c.spelled.ensures.value;
      rest = c.put_number.ensures ∙ ap (λ n. with_number n c.args.at c.spelled.result c.args.bytes.now) c.bytes_of-size.ensures.value;
    }
