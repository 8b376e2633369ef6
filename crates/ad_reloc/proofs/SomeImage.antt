-- An object of which no entry is refused has an image, so every object that is laid out has an image or is refused.
use Rattle.std.proofs.Common.{◌≡◌, ◌⊎◌, inl, inr, ℕ, suc, Bool, true, false, not, List, [], ◌∷◌, Option, Some, None, refl, subst, sym, arith}
use Rattle.std.specs.List.{All}
use Rattle.std.proofs.lemmas.Bool.{cases_Bool}
use Rattle.ad_base.specs.declared.image.Image.{Image}
use Rattle.ad_base.specs.declared.place.Place.{Place}
use Rattle.ad_elf.specs.declared.object.Object.{Object}
use Rattle.ad_elf.specs.declared.object.Rela.{Rela}
use Rattle.ad_parts.specs.declared.layout.Layout.{Layout}
use Rattle.ad_tables.specs.Tables.{in_movable}
use Rattle.ad_tables.specs.declared.table_set.TableSet.{TableSet}
use Rattle.ad_reloc.specs.declared.refusal.RelocRefusal.{RelocRefusal}
use Rattle.ad_reloc.specs.declared.row.Row.{Row}
use Rattle.ad_reloc.specs.Addresses.{field_offset}
use Rattle.ad_reloc.specs.Image.{Applies, AppliesIn, AreApplied, IsImage, Parts, image_of, laid_parts, makes_word, part_of}
use Rattle.ad_reloc.specs.Refusals.{IsRefused, first_row, row_of, value_of}
use Rattle.ad_reloc.specs.Relocated.{IsSet}
use Rattle.ad_reloc.specs.Table.{row}
use Rattle.ad_reloc.proofs.Applying.{fine_entry}
use Rattle.ad_reloc.proofs.SomeField.{some_set}
use Rattle.ad_reloc.proofs.Spellable.{clash, listed, spellable}

-- parts with other bytes for one of them
record IsOther (before : Parts) (m : Bool) (bytes : List ℕ) (after : Parts) : Type 0 where
  here : part_of after m ≡ bytes
  there : part_of after (not m) ≡ part_of before (not m)

other_part : (before : Parts) (m : Bool) (bytes : List ℕ) → (after : Parts) × IsOther before m bytes after
other_part before true bytes = (record { movable = bytes; fixed = before.fixed }, record { here = refl; there = refl })
other_part before false bytes = (record { movable = before.movable; fixed = bytes }, record { here = refl; there = refl })

module _ (o : Object) (l : Layout) (t : TableSet) (fixed : Place) where
  -- an entry that isn't refused at its number in the list
  abbrev IsFine : Rela → Type 0
  IsFine r = (k : ℕ) × (row_of o l t fixed r k ≡ None)

  -- an entry that isn't refused makes some list of bytes of its part, and some pair of parts
  some_bytes : (r : Rela) (before : List ℕ) (x : Option Row) → IsFine r → row r.typ ≡ x → (after : List ℕ) × (w : Row) × (row r.typ ≡ Some w) × IsSet w (value_of o l t fixed r) (field_offset l r) before after
  some_bytes r before None fine at = absurd (listed o l t fixed r fine.0 fine.1 at)
  some_bytes r before (Some w) fine at =
      let set = some_set w (value_of o l t fixed r) (field_offset l r) before (λ n. spellable o l t fixed r fine.0 w n fine.1 at) in
      (set.0, w, at, set.1)

  some_applied_in : (r : Rela) (before : List ℕ) → IsFine r → (after : List ℕ) × AppliesIn o l t fixed r before after
  some_applied_in r before fine =
      elim (cases_Bool (makes_word o l r)) [
        | inl word ↦ (before, record { no_byte = λ e. refl; field = λ e. absurd (clash _ word e) })
        | inr bytes ↦ (let set = some_bytes r before (row r.typ) fine refl in
            (set.0, record { no_byte = λ e. absurd (clash _ e bytes); field = λ e. (set.1, set.2, set.3) }))
      ]

  some_applied : (r : Rela) (before : Parts) → IsFine r → (after : Parts) × Applies o l t fixed r before after
  some_applied r before fine =
      let m = in_movable l.spots r.target in
      let bytes = some_applied_in r (part_of before m) fine in
      let after = other_part before m bytes.0 in
      (after.0, record { part = subst (AppliesIn o l t fixed r (part_of before m)) (sym after.1.here) bytes.1; other_part = after.1.there })

  all_applied : (rs : List Rela) (before : Parts) → All IsFine rs → (after : Parts) × AreApplied o l t fixed rs before after
  unfolding AreApplied
  all_applied [] before fine = (before, refl)
  all_applied (r ∷ rs) before fine =
      let next = some_applied r before (fine 0 r (omega arith)) in
      let rest = all_applied rs next.0 (λ k d below. fine (suc k) d (omega (arith, below))) in
      (rest.0, (next.0, next.1, rest.1))

  pub some_image : first_row o l t fixed ≡ None → (i : Image) × IsImage o l t fixed i
  some_image none =
      let parts = all_applied o.relas (laid_parts o l) (λ k d below. (k, fine_entry o l t fixed o.relas k d refl none below)) in
      (image_of o l t fixed parts.0, record { no_row = none; parts = parts.0; applied = parts.1; made = refl })

  by_row : (x : Option RelocRefusal) → first_row o l t fixed ≡ x → ((i : Image) × IsImage o l t fixed i) ⊎ ((r : RelocRefusal) × IsRefused o l t fixed r)
  unfolding IsRefused
  by_row None e = inl (some_image e)
  by_row (Some r) e = inr (r, e)

  pub some_answer : ((i : Image) × IsImage o l t fixed i) ⊎ ((r : RelocRefusal) × IsRefused o l t fixed r)
  some_answer = by_row (first_row o l t fixed) refl
