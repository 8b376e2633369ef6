-- What an image has of its layout: its pages, the place of its immovable part, and exports that lie in the text of the
-- movable part, and so at small offsets.
use Rattle.std.proofs.Common.{◌≡◌, ◌≢◌, inl, inr, ℕ, suc, ◌+◌, ◌^◌, ◌<◌, ◌≤◌, ◌==◌, false, List, [], ◌∷◌, drop, filter_map, length, Option, Some, None, IfSome, refl, subst, sym, ◌∙◌, ap, arith}
use Rattle.std.specs.List.{All, cons_option}
use Rattle.std.specs.Option.{option_and_then}
use Rattle.std.proofs.lemmas.Bool.{cases_Bool, eqb-true}
use Rattle.std.proofs.lemmas.List.Elements.{All-cons, All-nil}
use Rattle.ad_base.specs.declared.image.Export.{Export}
use Rattle.ad_base.specs.declared.image.Image.{Image}
use Rattle.ad_base.specs.declared.place.Place.{Place}
use Rattle.ad_base.specs.Image.{movable_pages}
use Rattle.ad_elf.specs.declared.elf.TheConstants.{SHN_UNDEF}
use Rattle.ad_elf.specs.declared.object.Object.{Object}
use Rattle.ad_elf.specs.declared.object.Symbol.{Symbol}
use Rattle.ad_elf.specs.Range.{IsInRange}
use Rattle.ad_parts.specs.declared.layout.Layout.{Layout}
use Rattle.ad_parts.specs.declared.layout.Sizes.{Sizes}
use Rattle.ad_parts.specs.declared.layout.Spot.{Spot}
use Rattle.ad_parts.specs.Layout.{area_to}
use Rattle.ad_parts.specs.Parts.{IsLayout}
use Rattle.ad_parts.specs.Symbols.{AreInAreas, IsInArea, area_at, export, export_at, exports, home, is_callable, is_movable_text, spot_of}
use Rattle.ad_parts.proofs.Fitted.{law_symbols}
use Rattle.ad_reloc.specs.Private.Small.{AreSmall}
use Rattle.ad_reloc.specs.Image.{IsImage, image_of}
use Rattle.ad_reloc.proofs.Linkable.{sizes_small}
use Rattle.ad_reloc.proofs.Low.{area_small, find_all}
use Rattle.ad_tables.specs.declared.table_set.TableSet.{TableSet}
use Rattle.ad_tables.specs.Tables.{AreTables}
use Rattle.ad_link.specs.Plan as plan

-- the export is at an offset of 64 bits
abbrev pub IsLow : Export → Type 0
IsLow x = x.offset < 2 ^ 64

unequal : (a b : ℕ) → (a == b) ≡ false → a ≢ b
unequal a b e = grind (arith, e)

module _ (z : Sizes) (spots : List Spot) (small : AreSmall z) where
  in_spot : (y : Symbol) (x : Option Spot) → All (λ (t : Spot). t.section ≡ y.shndx → t.offset + y.value ≤ area_to z (area_at t)) spots → spot_of spots y.shndx ≡ x
      → IfSome (option_and_then (export_at y) x) IsLow
  in_spot y None inside found = tt
  in_spot y (Some t) inside found =
      let here = find_all (λ (t : Spot). t.section ≡ y.shndx → t.offset + y.value ≤ area_to z (area_at t)) (λ (t : Spot). t.section == y.shndx) spots t inside found in
      let upto = here.0 (eqb-true t.section y.shndx here.1) in
      elim (cases_Bool (is_movable_text t)) [
        | inl text ↦ (rw text (omega (arith, upto, area_small z small t.movable t.group)))
        | inr other ↦ (rw other tt)
      ]

  is_low : (y : Symbol) → IsInArea z spots y → IfSome (export spots y) IsLow
  unfolding export home
  is_low y inside =
      elim (cases_Bool (is_callable y)) [
        | inl callable ↦ (elim (cases_Bool (y.shndx == SHN_UNDEF)) [
          | inl undefined ↦ (rw (callable, undefined) tt)
          | inr defined ↦ (rw (callable, defined) (in_spot y (spot_of spots y.shndx) (inside (unequal y.shndx SHN_UNDEF defined)) refl))
        ])
        | inr other ↦ (rw other tt)
      ]

  one_more : (x : Option Export) (es : List Export) → IfSome x IsLow → All IsLow es → All IsLow (cons_option x es)
  one_more None es low all = all
  one_more (Some e) es low all = All-cons IsLow e es low all

  are_low : (ys : List Symbol) → All (IsInArea z spots) ys → All IsLow (filter_map (export spots) ys)
  are_low [] all = All-nil IsLow
  are_low (y ∷ ys) all = one_more (export spots y) (filter_map (export spots) ys) (is_low y (all 0 y (omega arith))) (are_low ys (λ k d below. all (suc k) d (omega (arith, below))))

  behind_first : (ys : List Symbol) → AreInAreas z spots ys → All (IsInArea z spots) (drop 1 ys)
  behind_first [] all = All-nil (IsInArea z spots)
  behind_first (y ∷ ys) all = λ k d below. all (suc k) d (omega arith) (omega (arith, below))

-- the exports of an object that is in range
exports_low : (o : Object) (l : Layout) → AreSmall l.sizes → IsInRange o → IsLayout o l → All IsLow l.exports
exports_low o l small range laid =
    let found : l.exports ≡ exports l.spots o.symbols = laid.exports_found ∙ ap (λ spots. exports spots o.symbols) (sym laid.spots_laid) in
    subst (All IsLow) (sym found) (are_low l.sizes l.spots small (drop 1 o.symbols) (behind_first l.sizes l.spots small o.symbols (law_symbols o l range laid)))

module _ (o : Object) (l : Layout) (t : TableSet) (fixed : Place) (i : Image) (is : IsImage o l t fixed i) where
  pub image_place : i.fixed ≡ fixed
  unfolding image_of
  image_place = ap (λ (x : Image). x.fixed) is.made

  pub image_pages : movable_pages i ≡ plan.movable_pages l.sizes
  unfolding image_of
  image_pages = ap movable_pages is.made

  pub image_exports : IsInRange o → IsLayout o l → AreTables o l t → All IsLow i.exports
  unfolding image_of
  image_exports range laid tables = subst (All IsLow) (ap (λ (x : Image). x.exports) (sym is.made)) (exports_low o l (sizes_small o l t laid tables) range laid)
