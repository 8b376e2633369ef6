-- An object that has a layout and tables has one image at a place, or one refusal.
use Rattle.std.proofs.Common.{◌≡◌, inl, inr, ℕ, ◌+◌, ◌++◌, Bool, true, false, not, ℤ, List, [], ◌∷◌, take, drop, Option, Some, None, subst, sym, ap, ◌∙◌}
use Rattle.std.proofs.lemmas.Bool.{cases_Bool}
use Rattle.ad_base.specs.declared.image.Image.{Image}
use Rattle.ad_base.specs.declared.place.Place.{Place}
use Rattle.ad_elf.specs.declared.object.Object.{Object}
use Rattle.ad_elf.specs.declared.object.Rela.{Rela}
use Rattle.ad_parts.specs.declared.layout.Layout.{Layout}
use Rattle.ad_tables.specs.Tables.{in_movable}
use Rattle.ad_tables.specs.declared.table_set.TableSet.{TableSet}
use Rattle.ad_reloc.specs.declared.refusal.RelocRefusal.{RelocRefusal}
use Rattle.ad_reloc.specs.declared.row.Row.{Row}
use Rattle.ad_reloc.specs.Addresses.{field_offset}
use Rattle.ad_reloc.specs.Fields.{bytes_of}
use Rattle.ad_reloc.specs.Image.{Applies, AppliesIn, AreApplied, IsImage, Parts, image_of, laid_parts, makes_word, part_of}
use Rattle.ad_reloc.specs.Refusals.{IsRefused, value_of}
use Rattle.ad_reloc.specs.Relocated.{IsSet, field_value, number_at}
use Rattle.ad_reloc.specs.Table.{row}
use Rattle.ad_reloc.proofs.OneField.{one_field}

same_some : {A : Type 0} (x y : A) (o : Option A) → o ≡ Some x → o ≡ Some y → x ≡ y
same_some x y o a b = cc

-- a row sets a field in one way
set_one : (w : Row) (v : ℤ) (at : ℕ) (before x y : List ℕ) → IsSet w v at before x → IsSet w v at before y → x ≡ y
set_one w v at before x y a b =
    let size = bytes_of w.form in
    let old = number_at size at before in
    let bytes = one_field w.form (field_value w.formula old v) old a.field b.field a.spells b.spells in
    a.rest ∙ ap (λ bs. take at before ++ bs ++ drop (at + size) before) bytes ∙ sym b.rest

same_parts : (m : Bool) (x y : Parts) → part_of x m ≡ part_of y m → part_of x (not m) ≡ part_of y (not m) → x ≡ y
same_parts true x y this other = λ i. record { movable = this i; fixed = other i }
same_parts false x y this other = λ i. record { movable = other i; fixed = this i }

module _ (o : Object) (l : Layout) (t : TableSet) (fixed : Place) where
  -- an entry makes one list of bytes of its part, and one pair of parts
  applied_in_one : (r : Rela) (before x y : List ℕ) → AppliesIn o l t fixed r before x → AppliesIn o l t fixed r before y → x ≡ y
  applied_in_one r before x y a b =
      elim (cases_Bool (makes_word o l r)) [
        | inl word ↦ a.no_byte word ∙ sym (b.no_byte word)
        | inr bytes ↦ (let one = a.field bytes in
            let other = b.field bytes in
            let same = same_some other.0 one.0 (row r.typ) other.1 one.1 in
            set_one one.0 (value_of o l t fixed r) (field_offset l r) before x y one.2 (subst (λ w. IsSet w (value_of o l t fixed r) (field_offset l r) before y) same other.2))
      ]

  applied_one : (r : Rela) (before x y : Parts) → Applies o l t fixed r before x → Applies o l t fixed r before y → x ≡ y
  applied_one r before x y a b =
      let m = in_movable l.spots r.target in
      same_parts m x y (applied_in_one r (part_of before m) (part_of x m) (part_of y m) a.part b.part) (a.other_part ∙ sym b.other_part)

  all_applied_one : (rs : List Rela) (before x y : Parts) → AreApplied o l t fixed rs before x → AreApplied o l t fixed rs before y → x ≡ y
  unfolding AreApplied
  all_applied_one [] before x y a b = sym a ∙ b
  all_applied_one (r ∷ rs) before x y a b =
      let same = applied_one r before b.0 a.0 b.1 a.1 in
      all_applied_one rs a.0 x y a.2 (subst (λ next. AreApplied o l t fixed rs next y) same b.2)

pub one_image : (o : Object) (l : Layout) (t : TableSet) (fixed : Place) (i j : Image) → IsImage o l t fixed i → IsImage o l t fixed j → i ≡ j
one_image o l t fixed i j a b = a.made ∙ ap (image_of o l t fixed) (all_applied_one o l t fixed o.relas (laid_parts o l) a.parts b.parts a.applied b.applied) ∙ sym b.made

pub one_refusal : (o : Object) (l : Layout) (t : TableSet) (fixed : Place) (r s : RelocRefusal) → IsRefused o l t fixed r → IsRefused o l t fixed s → r ≡ s
unfolding IsRefused
one_refusal o l t fixed r s a b = same_some r s _ a b

some_none : {A : Type 0} (x : A) (o : Option A) → o ≡ None → o ≡ Some x → ⊥
some_none x o a b = cc

pub not_both : (o : Object) (l : Layout) (t : TableSet) (fixed : Place) (i : Image) (r : RelocRefusal) → IsImage o l t fixed i → IsRefused o l t fixed r → ⊥
unfolding IsRefused
not_both o l t fixed i r a b = some_none r _ a.no_row b
