-- The first entry that is refused.
use Rattle.std.proofs.Common.{◌≡◌, ℕ, ◌+◌, ◌<◌, List, Some, None, Result, Ok, Err, get_or, length, refl, sym, ap, ◌∙◌}
use Rattle.std.specs.Option.{is_some}
use Rattle.std.specs.Result.{IsErrAnd}
use Rattle.std.proofs.lemmas.Option.{slice_get-get_or}
use Rattle.ad_base.specs.declared.place.Place.{Place}
use Rattle.ad_elf.specs.declared.object.Object.{Object}
use Rattle.ad_elf.specs.declared.object.Rela.{Rela}
use Rattle.ad_elf.specs.Below.{first}
use Rattle.ad_elf.proofs.Below.{first_here, first_more}
use Rattle.ad_parts.specs.declared.layout.Layout.{Layout}
use Rattle.ad_tables.specs.declared.table_set.TableSet.{TableSet}
use Rattle.ad_reloc.specs.declared.refusal.RelocRefusal.{RelocRefusal}
use Rattle.ad_reloc.specs.Refusals.{IsRefused, entry_row, first_row, row_of}

pub handed_on : {A E : Type 0} (r : Result A E) (u : E) → IsErrAnd r (λ t. t ≡ u) → r ≡ Err u
handed_on (Ok a) u is = absurd is
handed_on (Err t) u is = ap Err is

pub entry_row-is : (o : Object) (l : Layout) (t : TableSet) (fixed : Place) (rs : List Rela) (k : ℕ) (d : Rela) → rs ≡ o.relas → k < length rs → entry_row o l t fixed k ≡ row_of o l t fixed (get_or rs k d) k
entry_row-is o l t fixed rs k d same below =
    rw (← same, slice_get-get_or rs k d below) refl

pub refused_at : (o : Object) (l : Layout) (t : TableSet) (fixed : Place) (k : ℕ) (r : RelocRefusal) → first (λ j. is_some (entry_row o l t fixed j)) k ≡ None → k < length o.relas → entry_row o l t fixed k ≡ Some r → IsRefused o l t fixed r
unfolding IsRefused
refused_at o l t fixed k r none below row =
    let here = sym (first_here (λ j. is_some (entry_row o l t fixed j)) k (length o.relas) none (ap is_some row) below) in
    rw here row

pub fine_at : (o : Object) (l : Layout) (t : TableSet) (fixed : Place) (k : ℕ) → first (λ j. is_some (entry_row o l t fixed j)) k ≡ None → entry_row o l t fixed k ≡ None → first (λ j. is_some (entry_row o l t fixed j)) (k + 1) ≡ None
fine_at o l t fixed k none row = first_more (λ j. is_some (entry_row o l t fixed j)) k none (ap is_some row)

pub all_fine : (o : Object) (l : Layout) (t : TableSet) (fixed : Place) (k : ℕ) → first (λ j. is_some (entry_row o l t fixed j)) k ≡ None → k ≡ length o.relas → first_row o l t fixed ≡ None
all_fine o l t fixed k none all = rw (← all, none) refl

-- the same, told of an object, a layout, tables and a place that are these
pub entry_row-as : (o p : Object) (l m : Layout) (t u : TableSet) (fixed at : Place) (rs : List Rela) (k : ℕ) (d : Rela) → rs ≡ o.relas → k < length rs → p ≡ o → m ≡ l → u ≡ t → at ≡ fixed
    → entry_row o l t fixed k ≡ row_of p m u at (get_or rs k d) k
entry_row-as o p l m t u fixed at rs k d same below object layout tables place =
    let here : row_of p m u at (get_or rs k d) k ≡ row_of o l t fixed (get_or rs k d) k = λ i. row_of (object i) (layout i) (tables i) (place i) (get_or rs k d) k in
    entry_row-is o l t fixed rs k d same below ∙ sym here
