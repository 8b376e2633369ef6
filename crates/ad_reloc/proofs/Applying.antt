-- Entries that are applied one behind the other.
use Rattle.std.proofs.Common.{◌≡◌, ℕ, zero, suc, ◌+◌, ◌<◌, ◌≤◌, Bool, true, false, List, [], ◌∷◌, drop, get_or, length, Option, None, Some, is_some, option_and_then, subst, refl, sym, ap, ◌∙◌, arith}
use Rattle.std.specs.List.{All}
use Rattle.std.proofs.lemmas.List.{drop_all}
use Rattle.ad_base.specs.declared.place.Place.{Place}
use Rattle.ad_elf.specs.Below.{first}
use Rattle.ad_elf.specs.Relocation.{width}
use Rattle.ad_elf.proofs.Below.{fails_where_none}
use Rattle.ad_elf.specs.declared.object.Object.{Object}
use Rattle.ad_elf.specs.declared.object.Rela.{Rela}
use Rattle.ad_parts.specs.declared.layout.Layout.{Layout}
use Rattle.ad_tables.specs.declared.table_set.TableSet.{TableSet}
use Rattle.ad_tables.specs.Tables.{in_movable}
use Rattle.ad_reloc.specs.Addresses.{field_offset}
use Rattle.ad_reloc.specs.Image.{Applies, AreApplied, part_of}
use Rattle.ad_reloc.specs.Image.{Parts as Lists}
use Rattle.ad_reloc.specs.Private.Parts.{HasField}
use Rattle.ad_reloc.specs.Refusals.{entry_row, first_row, row_of}
use Rattle.ad_reloc.proofs.Applied.{entry_row-is}
use Rattle.ad_reloc.proofs.Spellable.{clash, first_holds}

drop_next : {A : Type 0} (xs : List A) (k : ℕ) (d : A) → k < length xs → drop k xs ≡ get_or xs k d ∷ drop (suc k) xs
drop_next [] k d h = absurd (omega arith)
drop_next (x ∷ xs) zero d h = refl
drop_next (x ∷ xs) (suc k) d h = drop_next xs k d (omega arith)

drop_one : {A : Type 0} (xs : List A) (k : ℕ) (d : A) → k < length xs → drop k xs ≡ get_or xs k d ∷ drop (k + 1) xs
drop_one xs k d h =
    let more : suc k ≡ k + 1 = omega arith in
    drop_next xs k d h ∙ ap (λ n. get_or xs k d ∷ drop n xs) more

module _ (o : Object) (l : Layout) (t : TableSet) (fixed : Place) where
  none_left : (x : Option ℕ) → first (λ k. is_some (entry_row o l t fixed k)) (length o.relas) ≡ x → option_and_then (entry_row o l t fixed) x ≡ None → (k : ℕ) → k < length o.relas → is_some (entry_row o l t fixed k) ≡ false
  none_left None e none k below = fails_where_none (λ k. is_some (entry_row o l t fixed k)) (length o.relas) k e below
  none_left (Some i) e none k below =
      let there = first_holds (λ k. is_some (entry_row o l t fixed k)) (length o.relas) i e in
      let nowhere : is_some (entry_row o l t fixed i) ≡ false = ap is_some none in
      absurd (clash _ there nowhere)

  no_some : {X : Type 0} (x : Option X) → is_some x ≡ false → x ≡ None
  no_some None e = refl
  no_some (Some x) e = cc

  pub fine_entry : (rs : List Rela) (k : ℕ) (d : Rela) → rs ≡ o.relas → first_row o l t fixed ≡ None → k < length rs → row_of o l t fixed (get_or rs k d) k ≡ None
  fine_entry rs k d same none below =
      sym (entry_row-is o l t fixed rs k d same below) ∙ no_some (entry_row o l t fixed k) (none_left (first (λ k. is_some (entry_row o l t fixed k)) (length o.relas)) refl none k (omega (arith, below, ap length same)))

  pub apply_more : (rs : List Rela) (k : ℕ) (d : Rela) (before next after : Lists) → k < length rs → Applies o l t fixed (get_or rs k d) before next → AreApplied o l t fixed (drop (k + 1) rs) next after → AreApplied o l t fixed (drop k rs) before after
  unfolding AreApplied
  apply_more rs k d before next after below one more = subst (λ rs. AreApplied o l t fixed rs before after) (sym (drop_one rs k d below)) (next, one, more)

  pub applied_all : (rs : List Rela) (k : ℕ) (parts : Lists) → length rs ≤ k → AreApplied o l t fixed (drop k rs) parts parts
  unfolding AreApplied
  applied_all rs k parts all = subst (λ rs. AreApplied o l t fixed rs parts parts) (sym (drop_all k rs all)) refl

pub field_in : (l : Layout) (p q : Lists) (r : Rela) → length q.movable ≡ length p.movable → length q.fixed ≡ length p.fixed → HasField l p r → HasField l q r
field_in l p q r movable fixed has = by_part (in_movable l.spots r.target) has
  where
    by_part : (m : Bool) → field_offset l r + width r.typ ≤ length (part_of p m) → field_offset l r + width r.typ ≤ length (part_of q m)
    by_part true h = omega (arith, h, movable)
    by_part false h = omega (arith, h, fixed)

pub all_at : (p : Lists) (l : Layout) (rs qs : List Rela) (k : ℕ) (d : Rela) → rs ≡ qs → All (HasField l p) qs → k < length rs → HasField l p (get_or rs k d)
all_at p l rs qs k d same all below = subst (λ rs. All (HasField l p) rs) (sym same) all k d below
