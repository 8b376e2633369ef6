use Rattle.std.proofs.Common.{◌≡◌, ◌⊎◌, inl, inr, Option, Some, None, refl, sym, ◌∙◌}
use Rattle.ad_elf.specs.declared.object.Object.{Object}
use Rattle.ad_parts.specs.declared.layout.Layout.{Layout}
use Rattle.ad_tables.specs.declared.refusal.TableRefusal.{TableRefusal}
use Rattle.ad_tables.specs.declared.table_set.TableSet.{TableSet}
use Rattle.ad_tables.specs.Tables.{AreTables, IsRefused, first_row, fixed_symbols, local_symbols}
use Rattle.ad_tables.proofs.laws.law_one_answer.Goals as goal

one_set : (o : Object) (l : Layout) (t u : TableSet) → AreTables o l t → AreTables o l u → t ≡ u
one_set o l t u a b = λ i. record { local = (a.local_found ∙ sym b.local_found) i; fixed = (a.fixed_found ∙ sym b.fixed_found) i }

same_some : {X : Type 0} (x y : X) → Some x ≡ Some y → x ≡ y
same_some x y e = cc

one_refusal : (o : Object) (l : Layout) (r s : TableRefusal) → IsRefused o l r → IsRefused o l s → r ≡ s
unfolding IsRefused
one_refusal o l r s a b = same_some r s (sym a ∙ b)

none_some : {X : Type 0} (x : X) → None ≡ Some x → ⊥
none_some x e = cc

apart : (o : Object) (l : Layout) (t : TableSet) (r : TableRefusal) → AreTables o l t → IsRefused o l r → ⊥
unfolding IsRefused
apart o l t r a b = none_some r (sym a.no_row ∙ b)

-- by the first row, if there is one
by_row : (o : Object) (l : Layout) (x : Option TableRefusal) → first_row o l ≡ x → ((t : TableSet) × AreTables o l t) ⊎ ((r : TableRefusal) × IsRefused o l r)
unfolding IsRefused
by_row o l None none = inl (record { local = local_symbols o l o.relas; fixed = fixed_symbols o l o.relas }, record { no_row = none; local_found = refl; fixed_found = refl })
by_row o l (Some r) row = inr (r, row)

some : (o : Object) (l : Layout) → ((t : TableSet) × AreTables o l t) ⊎ ((r : TableRefusal) × IsRefused o l r)
some o l = by_row o l (first_row o l) refl

pub returns : goal.returns
returns c = record { one_set = one_set; one_refusal = one_refusal; apart = apart; some = some }
