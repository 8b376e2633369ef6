-- What a symbol stands for lies in its part, and so its offset is small.
use Rattle.std.proofs.Common.{◌≡◌, ◌≢◌, inl, inr, ℕ, suc, ◌+◌, ◌^◌, ◌<◌, ◌≤◌, ◌==◌, Bool, true, false, List, [], ◌∷◌, Option, Some, None, find, refl, subst, arith}
use Rattle.std.specs.List.{All, slice_get}
use Rattle.std.specs.Option.{option_and_then, option_map}
use Rattle.std.proofs.lemmas.Bool.{cases_Bool, eqb-true}
use Rattle.std.proofs.lemmas.Option.{get_or_from_slice_get, slice_get_within}
use Rattle.ad_elf.specs.declared.elf.TheConstants.{SHN_ABS, SHN_UNDEF, STB_GLOBAL}
use Rattle.ad_elf.specs.declared.object.Symbol.{Symbol}
use Rattle.ad_parts.specs.declared.layout.Sizes.{Sizes}
use Rattle.ad_parts.specs.declared.layout.Spot.{Spot}
use Rattle.ad_parts.specs.Layout.{area_to}
use Rattle.ad_parts.specs.Area.{area_in}
use Rattle.ad_parts.specs.declared.layout.Group.{Group}
use Rattle.ad_parts.specs.declared.layout.Group.TheVariants as group
use Rattle.ad_parts.specs.Symbols.{AreInAreas, IsInArea, area_at, home, position_at, spot_of}
use Rattle.ad_tables.specs.declared.resolved.Resolved.{Resolved}
use Rattle.ad_tables.specs.declared.resolved.Resolved.TheVariants.{Import, Number}
use Rattle.ad_tables.specs.Symbols.{in_part, resolved, service_of, symbol_resolved}
use Rattle.ad_reloc.specs.Private.Small.{AreSmall, IsLow}

-- what a search finds passes its test, and is one of the list
pub find_all : {X : Type 0} (P : X → Type 0) (p : X → Bool) (xs : List X) (t : X) → All P xs → find p xs ≡ Some t → P t × (p t ≡ true)
find_all P p [] t all e = cc
find_all P p (x ∷ xs) t all e =
    elim (cases_Bool (p x)) [
      | inl here ↦ (let same : x ≡ t = some_same x t (rw here at e) in (subst P same (all 0 x (omega arith)), subst (λ y. p y ≡ true) same here))
      | inr other ↦ find_all P p xs t (λ k d below. all (suc k) d (omega arith)) (rw other at e)
    ]
  where
    some_same : {X : Type 0} (x y : X) → Some x ≡ Some y → x ≡ y
    some_same x y e = cc

-- an area ends far below 2^64
pub area_small : (z : Sizes) → AreSmall z → (movable : Bool) (g : Group) → area_to z (area_in movable g) < 2 ^ 63
area_small z h true group.Text = omega (arith, h.text)
area_small z h true group.ReadOnly = omega (arith, h.text, h.read)
area_small z h true group.Local = omega (arith, h.text, h.read, h.local)
area_small z h true group.Writable = omega (arith, h.text, h.read, h.written)
area_small z h false group.Text = omega (arith, h.fixed_text)
area_small z h false group.ReadOnly = omega (arith, h.fixed_text, h.fixed_read)
area_small z h false group.Local = omega (arith, h.text, h.read, h.local)
area_small z h false group.Writable = omega (arith, h.fixed_text, h.fixed_read, h.fixed_written)

same_some : {X : Type 0} (x y : X) → Some x ≡ Some y → x ≡ y
same_some x y e = cc

low_in_part : (movable : Bool) (n : ℕ) → n < 2 ^ 63 → IsLow (in_part (record { movable = movable; offset = n }))
low_in_part true n small = small
low_in_part false n small = small

place_low : (z : Sizes) (spots : List Spot) (y : Symbol) (s : Resolved) (x : Option Spot) → AreSmall z → All (λ (t : Spot). t.section ≡ y.shndx → t.offset + y.value ≤ area_to z (area_at t)) spots
    → spot_of spots y.shndx ≡ x → option_map in_part (option_map (position_at y) x) ≡ Some s → IsLow s
place_low z spots y s None h inside found e = cc
place_low z spots y s (Some t) h inside found e =
    let here = find_all (λ (t : Spot). t.section ≡ y.shndx → t.offset + y.value ≤ area_to z (area_at t)) (λ (t : Spot). t.section == y.shndx) spots t inside found in
    let upto = here.0 (eqb-true t.section y.shndx here.1) in
    subst IsLow (same_some (in_part (position_at y t)) s e) (low_in_part t.movable (t.offset + y.value) (omega (arith, upto, area_small z h t.movable t.group)))

import_low : (x : Option ℕ) (s : Resolved) → option_map Import x ≡ Some s → IsLow s
import_low None s e = cc
import_low (Some n) s e = subst IsLow (same_some (Import n) s e) tt

none_low : (s : Resolved) → None ≡ Some s → IsLow s
none_low s e = cc

symbol_low : (z : Sizes) (spots : List Spot) (y : Symbol) (s : Resolved) → AreSmall z → IsInArea z spots y → symbol_resolved spots y ≡ Some s → IsLow s
unfolding symbol_resolved home
symbol_low z spots y s h inside e =
    elim (cases_Bool (y.shndx == SHN_UNDEF)) [
      | inl undefined ↦ (elim (cases_Bool (y.bind == STB_GLOBAL)) [
        | inl global ↦ import_low (service_of y.name) s (rw (undefined, global) at e)
        | inr local ↦ none_low s (rw (undefined, local) at e)
      ])
      | inr defined ↦ (elim (cases_Bool (y.shndx == SHN_ABS)) [
        | inl absolute ↦ (subst IsLow (same_some (Number y.value) s (rw (defined, absolute) at e)) tt)
        | inr placed ↦ (place_low z spots y s (spot_of spots y.shndx) h (inside (λ same. eqb_false_ne y.shndx SHN_UNDEF defined same)) refl (rw (defined, placed) at e))
      ])
    ]
  where
    eqb_false_ne : (a b : ℕ) → (a == b) ≡ false → a ≢ b
    eqb_false_ne a b e = grind (arith, e)

number_low : (spots : List Spot) (ys : List Symbol) (z : Sizes) (j : ℕ) (s : Resolved) (x : Option Symbol) → AreSmall z → AreInAreas z spots ys → slice_get ys j ≡ x → (j == 0) ≡ false → option_and_then (symbol_resolved spots) x ≡ Some s → IsLow s
number_low spots ys z j s None h inside found other e = cc
number_low spots ys z j s (Some y) h inside found other e =
    let some : 1 ≤ j = grind (arith, other) in
    symbol_low z spots y s h (subst (IsInArea z spots) (get_or_from_slice_get ys j y y found) (inside j y some (slice_get_within ys j y found))) e

pub resolved_low : (z : Sizes) (spots : List Spot) (ys : List Symbol) (j : ℕ) (s : Resolved) → AreSmall z → AreInAreas z spots ys → resolved spots ys j ≡ Some s → IsLow s
resolved_low z spots ys j s h inside e =
    elim (cases_Bool (j == 0)) [
      | inl first ↦ (subst IsLow (same_some (Number 0) s (rw first at e)) tt)
      | inr other ↦ (number_low spots ys z j s (slice_get ys j) h inside refl other (rw other at e))
    ]

-- what begins in its area begins far below 2^64
pub spot_low : (z : Sizes) (spots : List Spot) (n : ℕ) (t : Spot) → AreSmall z → All (λ (t : Spot). t.offset ≤ area_to z (area_at t)) spots → spot_of spots n ≡ Some t → t.offset < 2 ^ 63
spot_low z spots n t h inside found =
    let here = find_all (λ (t : Spot). t.offset ≤ area_to z (area_at t)) (λ (t : Spot). t.section == n) spots t inside found in
    omega (arith, here.0, area_small z h t.movable t.group)
