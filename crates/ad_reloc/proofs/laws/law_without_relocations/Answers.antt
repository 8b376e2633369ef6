use Rattle.std.proofs.Common.{◌≡◌, ℕ, Bool, List, [], length, None, refl, subst, sym, ap, ◌∙◌}
use Rattle.ad_base.specs.declared.place.Place.{Place}
use Rattle.ad_elf.specs.declared.object.Object.{Object}
use Rattle.ad_elf.specs.declared.object.Rela.{Rela}
use Rattle.ad_elf.specs.Below.{first}
use Rattle.ad_elf.proofs.Below.{first-zero}
use Rattle.ad_parts.specs.declared.layout.Layout.{Layout}
use Rattle.ad_reloc.specs.Image.{AreApplied, laid_parts}
use Rattle.ad_reloc.specs.Refusals.{entry_row, first_row}
use Rattle.std.specs.Prelude.{is_some, option_and_then}
use Rattle.ad_tables.specs.declared.table_set.TableSet.{TableSet}
use Rattle.ad_reloc.proofs.laws.law_without_relocations.Goals as goal

none_refused : (o : Object) (l : Layout) (t : TableSet) (fixed : Place) → o.relas ≡ [] → first_row o l t fixed ≡ None
none_refused o l t fixed none =
    let p : ℕ → Bool = λ k. is_some (entry_row o l t fixed k) in
    ap (λ n. option_and_then (entry_row o l t fixed) (first p n)) (ap length none) ∙ ap (option_and_then (entry_row o l t fixed)) (first-zero p)

none_applied : (o : Object) (l : Layout) (t : TableSet) (fixed : Place) (rs : List Rela) → [] ≡ rs → AreApplied o l t fixed rs (laid_parts o l) (laid_parts o l)
unfolding AreApplied
none_applied o l t fixed [] none = refl
none_applied o l t fixed rs none = subst (λ xs. AreApplied o l t fixed xs (laid_parts o l) (laid_parts o l)) none refl

pub returns : goal.returns
returns c = λ o l t fixed none. record { no_row = none_refused o l t fixed none; parts = laid_parts o l; applied = none_applied o l t fixed o.relas (sym none); made = refl }
