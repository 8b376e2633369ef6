-- The words of the local area that no entry points from.
use Rattle.std.proofs.Common.{◌≡◌, ℕ, ◌+◌, ◌*◌, ◌-◌, ◌<◌, ◌≤◌, nat_lt, true, false, List, [], ◌∷◌, ◌++◌, slice_index, ap, ap₂, sym, ◌∙◌, arith}
use Rattle.ad_base.specs.declared.image.Cell.{Cell}
use Rattle.ad_base.specs.declared.image.Cell.TheVariants.{Num, Off}
use Rattle.ad_elf.specs.Below.{each}
use Rattle.ad_elf.proofs.Below.{joined-zero, joined_push}
use Rattle.ad_elf.specs.declared.object.Object.{Object}
use Rattle.ad_parts.specs.declared.layout.Layout.{Layout}
use Rattle.ad_tables.specs.declared.table_set.TableSet.{TableSet}
use Rattle.ad_tables.specs.Symbols.{resolved}
use Rattle.ad_tables.specs.Tables.{section_words}
use Rattle.ad_reloc.specs.Image.{local_at, offset_of, other_cell}
use Rattle.ad_reloc.specs.Relocated.{number_at}

module _ (o : Object) (l : Layout) (t : TableSet) (movable : List ℕ) where
  pub no_cells : (out : List Cell) → out ≡ [] → out ≡ each (other_cell o l t movable) 0
  no_cells out empty = empty ∙ sym (joined-zero (λ i. other_cell o l t movable i ∷ []))

  below_is : (k n : ℕ) → k < n → nat_lt k n ≡ true
  below_is k n h = grind (arith, h)

  behind_is : (k n : ℕ) → n ≤ k → nat_lt k n ≡ false
  behind_is k n h = grind (arith, h)

  pub one_number : (k from n : ℕ) (old new : List Cell) → k < section_words l → from ≡ local_at l 0 → n ≡ number_at 8 (from + 8 * k) movable → old ≡ each (other_cell o l t movable) k → new ≡ old ++ Num n ∷ [] → new ≡ each (other_cell o l t movable) (k + 1)
  one_number k from n old new below at is before made =
      let place : from + 8 * k ≡ local_at l k = omega (arith, at) in
      let number : Num n ≡ Num (number_at 8 (local_at l k) movable) = ap Num (is ∙ ap (λ a. number_at 8 a movable) place) in
      let here : Num n ≡ other_cell o l t movable k = rw (below_is k (section_words l) below) number in
      joined_push (λ i. other_cell o l t movable i ∷ []) k old new (Num n ∷ []) before made (ap (λ c. c ∷ []) here)

  pub one_offset : (k symbol n : ℕ) (list : List ℕ) (old new : List Cell) → list ≡ t.local → symbol ≡ slice_index list k → n ≡ offset_of (resolved l.spots o.symbols symbol)
      → old ≡ each (other_cell o l t movable) (section_words l + k) → new ≡ old ++ Off n ∷ [] → new ≡ each (other_cell o l t movable) (section_words l + (k + 1))
  one_offset k symbol n list old new same at is before made =
      let place : k ≡ section_words l + k - section_words l = omega arith in
      let symbols : symbol ≡ slice_index t.local (section_words l + k - section_words l) = at ∙ ap₂ slice_index same place in
      let offset : Off n ≡ Off (offset_of (resolved l.spots o.symbols (slice_index t.local (section_words l + k - section_words l)))) = ap Off (is ∙ ap (λ s. offset_of (resolved l.spots o.symbols s)) symbols) in
      let here : Off n ≡ other_cell o l t movable (section_words l + k) = rw (behind_is (section_words l + k) (section_words l) (omega arith)) offset in
      let more : section_words l + k + 1 ≡ section_words l + (k + 1) = omega arith in
      joined_push (λ i. other_cell o l t movable i ∷ []) (section_words l + k) old new (Off n ∷ []) before made (ap (λ c. c ∷ []) here) ∙ ap (each (other_cell o l t movable)) more
