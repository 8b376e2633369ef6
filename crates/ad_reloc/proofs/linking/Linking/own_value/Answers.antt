use Rattle.std.proofs.Common.{◌≡◌, Some, ap, refl, sym, ◌∙◌, rules}
use Rattle.std.specs.Int.{w128, w64}
use Rattle.std.proofs.lemmas.Int.{to_z-of_z}
use Rattle.ad_base.specs.declared.place.Place.{Place}
use Rattle.ad_elf.specs.declared.object.Object.{Object}
use Rattle.ad_elf.specs.declared.object.Rela.{Rela}
use Rattle.ad_parts.specs.declared.layout.Layout.{Layout}
use Rattle.ad_tables.specs.declared.table_set.TableSet.{TableSet}
use Rattle.ad_reloc.specs.Addresses.{computed, field_address, own_value, symbol_address, word_address}
use Rattle.ad_reloc.specs.Table.{row}
use Rattle.ad_reloc.specs.declared.row.Row.{Row}
use Rattle.ad_reloc.proofs.linking.Linking.own_value.Goals as goal

own_value-some : (o : Object) (l : Layout) (t : TableSet) (fixed : Place) (r : Rela) (w : Row) → row r.typ ≡ Some w
    → own_value o l t fixed r ≡ computed w.formula (symbol_address o l t fixed r) (word_address o l t fixed r) (field_address l fixed r) r.addend
unfolding own_value
own_value-some o l t fixed r w e = rw e refl

pub returns-in-Some-clause-value : goal.returns-in-Some-clause-value
returns-in-Some-clause-value c =
    to_z-of_z w128 c.computed.result (search rules)
    ∙ c.computed.ensures.value
    ∙ ap (λ a. computed c.in-Some.row.formula c.symbol_address.result c.word_address.result c.field_address.result a) (to_z-of_z w64 c.args.rela.now.addend (search rules))
    ∙ (λ i. computed c.in-Some.row.formula (c.symbol_address.ensures.value i) (c.word_address.ensures.value i) (c.field_address.ensures.value i) c.args.rela.now.addend)
    ∙ sym (own_value-some c.args.self.now.object.now c.args.self.now.layout.now _ c.args.self.now.fixed c.args.rela.now c.in-Some.row (sym c.row_of.ensures ∙ c.in-Some.is))
