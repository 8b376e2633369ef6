-- What the parts of an access ask is what the access asks, and what is kept of all accesses of a call.
use Rattle.std.proofs.Common.{◌≡◌, ℕ, ◌+◌, ◌-◌, ◌*◌, ◌/◌, ◌%◌, ◌<◌, ◌≤◌, Bool, true, false, if◌then◌else◌, List, [], ◌∷◌, ◌++◌, Option, None, Some, inl, inr, refl, sym, ap, ◌∙◌, arith}
use Rattle.std.specs.Prelude.{◌&&◌, ◌||◌, nat_lt, fold, option_map}
use Rattle.std.proofs.lemmas.Bool.{cases_lt}
use Rattle.std.proofs.lemmas.Bool.Decides.{nat_tests}
use Rattle.std.proofs.lemmas.List.{append-nil, append_assoc}
use Rattle.ad_base.specs.declared.image.Image.{Image}
use Rattle.ad_base.specs.declared.layout.TheConstants.{LOCAL_PAGES, PAGE_BYTES, REGION_BYTES, STACK_PAGES, WORD_BYTES}
use Rattle.ad_base.specs.declared.place.Place.{Place}
use Rattle.ad_base.specs.declared.role.Role.{Role}
use Rattle.ad_base.specs.declared.role.Role.TheVariants.{Cells, Code, Constants, Data, Table}
use Rattle.ad_base.specs.Image.{movable_pages}
use Rattle.ad_base.specs.Layout.{fixed_roles, movable_roles, size_of, stack_roles}
use Rattle.ad_base.specs.Place.{base_of}
use Rattle.ad_base.specs.Segments.{Access, Load, Use, told}
use Rattle.ad_call.specs.declared.asked.Asked.{Asked}
use Rattle.ad_call.specs.declared.asked.Asked.TheVariants as asked
use Rattle.ad_call.specs.declared.asked.Track.{Track}
use Rattle.ad_call.specs.declared.spot.Spot.{Spot}
use Rattle.ad_call.specs.Asked.{asked_by, asked_by_all, is_stack_or_immovable, is_load, is_local, is_within, local_base, page_asked}
use Rattle.ad_call.specs.Private.Asks.{cell_asked, is_cells, place_asked, told_asked, track_rule}
use Rattle.ad_call.specs.Private.Spots.{spot_at, spot_in}
use Rattle.ad_call.specs.View.{View, with_asked}
use Rattle.ad_call.proofs.Spotted.{spot-behind, spot-first}

module _ {A : Type 0} where
  -- nothing more
  pub no-more : (o : Option (List A)) → option_map (λ l. l ++ []) o ≡ o
  no-more None = refl
  no-more (Some l) = ap Some (append-nil l)

  -- some, and then more
  pub and-more : (o : Option (List A)) (xs ys : List A) → option_map (λ l. l ++ ys) (option_map (λ l. l ++ xs) o) ≡ option_map (λ l. l ++ (xs ++ ys)) o
  and-more None xs ys = refl
  and-more (Some l) xs ys = ap Some (append_assoc l xs ys)

module _ {O : Type 0} where
  -- pages that were asked nothing more
  pub none-more : (v : View O) (more : List Asked) → more ≡ [] → v ≡ with_asked v more
  none-more v more is = ap (λ o. record v { asked = o }) (sym (no-more v.asked)) ∙ ap (with_asked v) (sym is)

  -- some, and then more
  pub more-and-more : (v : View O) (xs ys : List Asked) → with_asked (with_asked v xs) ys ≡ with_asked v (xs ++ ys)
  more-and-more v xs ys = ap (λ o. record v { asked = o }) (and-more v.asked xs ys)

  -- what is kept of accesses is all that they ask
  pub kept : (accesses : List Access) (t : Track O) → fold track_rule t accesses ≡ record t { asked = option_map (λ l. l ++ asked_by_all t.image t.under t.stack accesses) t.asked }
  kept [] t = ap (λ o. record t { asked = o }) (sym (no-more t.asked))
  kept (a ∷ rest) t =
      kept rest (track_rule t a)
      ∙ ap (λ o. record t { asked = o }) (and-more t.asked (asked_by t.image t.under t.stack a) (asked_by_all t.image t.under t.stack rest))

  -- so the rest stays
  pub record Keeps (accesses : List Access) (before after : Track O) : Type 0 where
    pub image : after.image ≡ before.image
    pub under : after.under ≡ before.under
    pub origin : after.origin ≡ before.origin
    pub asked : after.asked ≡ option_map (λ l. l ++ asked_by_all before.image before.under before.stack accesses) before.asked

  pub keeps : (accesses : List Access) (before after : Track O) → after ≡ fold track_rule before accesses → Keeps accesses before after
  keeps accesses before after is =
      let all = is ∙ kept accesses before in
      record { image = ap (λ (t : Track O). t.image) all; under = ap (λ (t : Track O). t.under) all; origin = ap (λ (t : Track O). t.origin) all; asked = ap (λ (t : Track O). t.asked) all }

-- the local word of a byte of a piece, if there is one
abbrev cells_of : Option Spot → List Asked
cells_of None = []
cells_of (Some spot) = cell_asked spot

abbrev no_cells : List Role → Bool
no_cells [] = true
no_cells (r ∷ rs) = if is_cells r then false else no_cells rs

-- pieces that are no local area have no local word
other-pieces : (size : Role → ℕ) (roles : List Role) (o : ℕ) → no_cells roles ≡ true → cells_of (spot_in size roles o) ≡ []
other-pieces size [] o none = refl
other-pieces size (r ∷ rs) o none = each (is_cells r) (nat_lt o (size r)) none refl (λ later. other-pieces size rs (o - size r) later)
  where
    each : (cells here : Bool) → (if cells then false else no_cells rs) ≡ true → is_cells r ≡ cells → (no_cells rs ≡ true → cells_of (spot_in size rs (o - size r)) ≡ [])
        → cells_of (if here then Some (record { role = r; offset = o }) else spot_in size rs (o - size r)) ≡ []
    each true here none is rest = absurd cc
    each false true none is rest = ap (λ b. if b then asked.Cell (o / WORD_BYTES) ∷ [] else []) is
    each false false none is rest = rest none

module _ (i : Image) (under stack : Place) (at : ℕ) where
  -- the local word that a load finds, if its address is one of the local area
  abbrev local_part : List Asked
  local_part = if is_local i under at then asked.Cell ((at - local_base i under) / WORD_BYTES) ∷ [] else []

  outside-local : (local_base i under ≤ at → at < local_base i under + LOCAL_PAGES * PAGE_BYTES → ⊥) → local_part ≡ []
  outside-local out = elim (cases_lt at (local_base i under)) [
    | inl before ↦ grind (arith, nat_tests)
    | inr low ↦ elim (cases_lt at (local_base i under + LOCAL_PAGES * PAGE_BYTES)) [
      | inl high ↦ absurd (out low high)
      | inr behind ↦ grind (arith, nat_tests)
    ]
  ]

  inside-local : local_base i under ≤ at → at < local_base i under + LOCAL_PAGES * PAGE_BYTES → local_part ≡ asked.Cell ((at - local_base i under) / WORD_BYTES) ∷ []
  inside-local low high = grind (arith, nat_tests)

  -- the pieces before the local area have no local word
  before-local : at < local_base i under → base_of under ≤ at → cells_of (spot_in (size_of i) movable_roles (at - base_of under)) ≡ []
  before-local below low =
      let o = at - base_of under in
      elim (cases_lt o (size_of i Code)) [
        | inl here ↦ ap cells_of (spot-first (size_of i) Code (Constants ∷ Table ∷ Cells ∷ Data ∷ []) o here)
        | inr past ↦
            let p = o - size_of i Code in
            ap cells_of (spot-behind (size_of i) Code (Constants ∷ Table ∷ Cells ∷ Data ∷ []) o past)
            ∙ elim (cases_lt p (size_of i Constants)) [
              | inl here ↦ ap cells_of (spot-first (size_of i) Constants (Table ∷ Cells ∷ Data ∷ []) p here)
              | inr past' ↦
                  ap cells_of (spot-behind (size_of i) Constants (Table ∷ Cells ∷ Data ∷ []) p past')
                  ∙ ap cells_of (spot-first (size_of i) Table (Cells ∷ Data ∷ []) (p - size_of i Constants) (omega (arith, below, low, past, past')))
            ]
      ]

  -- the pieces from the local area on
  from-local : local_base i under ≤ at → spot_in (size_of i) movable_roles (at - base_of under) ≡ spot_in (size_of i) (Cells ∷ Data ∷ []) (at - local_base i under)
  from-local low =
      let o = at - base_of under in
      let p = o - size_of i Code in
      let q = p - size_of i Constants in
      let same : q - size_of i Table ≡ at - local_base i under = omega (arith, low) in
      spot-behind (size_of i) Code (Constants ∷ Table ∷ Cells ∷ Data ∷ []) o (omega (arith, low))
      ∙ spot-behind (size_of i) Constants (Table ∷ Cells ∷ Data ∷ []) p (omega (arith, low))
      ∙ spot-behind (size_of i) Table (Cells ∷ Data ∷ []) q (omega (arith, low))
      ∙ ap (λ n. spot_in (size_of i) (Cells ∷ Data ∷ []) n) same

  -- the local word at a byte of the movable part is that of a load from its address
  movable-cells : base_of under ≤ at → cells_of (spot_in (size_of i) movable_roles (at - base_of under)) ≡ local_part
  movable-cells low = elim (cases_lt at (local_base i under)) [
    | inl before ↦ before-local before low ∙ sym (outside-local (λ from to. omega (arith, before, from)))
    | inr from ↦
        let n = at - local_base i under in
        ap cells_of (from-local from)
        ∙ elim (cases_lt n (size_of i Cells)) [
          | inl here ↦ ap cells_of (spot-first (size_of i) Cells (Data ∷ []) n here) ∙ sym (inside-local from (omega (arith, here, from)))
          | inr past ↦
              ap cells_of (spot-behind (size_of i) Cells (Data ∷ []) n past) ∙ other-pieces (size_of i) (Data ∷ []) (n - size_of i Cells) refl
              ∙ sym (outside-local (λ from to. omega (arith, past, to)))
        ]
  ]

  -- what a load asks: for its page, and for the local word at the byte that it finds
  pub load-asks : (size : ℕ) (o : Option Spot) → spot_at i under stack at ≡ o → asked_by i under stack (record { at = at; size = size; use_of = Load }) ≡ place_asked i stack at ++ cells_of o
  load-asks size o is =
      parts (is_within (base_of stack) (STACK_PAGES * PAGE_BYTES) at) (is_within (base_of i.fixed) (i.fixed.pages * PAGE_BYTES) at) (is_within (base_of under) (movable_pages i * PAGE_BYTES) at)
      (spot_in (size_of i) stack_roles (at - base_of stack)) (spot_in (size_of i) fixed_roles (at - base_of i.fixed)) (spot_in (size_of i) movable_roles (at - base_of under))
      (other-pieces (size_of i) stack_roles (at - base_of stack) refl) (other-pieces (size_of i) fixed_roles (at - base_of i.fixed) refl)
      (λ e. movable-cells (grind (arith, nat_tests)))
      (λ e. outside-local (λ from to. outside e from to))
      ∙ ap (λ x. place_asked i stack at ++ cells_of x) is
    where
      outside : is_within (base_of under) (movable_pages i * PAGE_BYTES) at ≡ false → local_base i under ≤ at → at < local_base i under + LOCAL_PAGES * PAGE_BYTES → ⊥
      outside e from to =
          let inside : is_within (base_of under) (movable_pages i * PAGE_BYTES) at ≡ true = (
          let low : base_of under ≤ at = omega (arith, from) in
          let high : at < base_of under + movable_pages i * PAGE_BYTES = omega (arith, to) in
          grind (arith, nat_tests)) in
          cc

      parts : (a b c : Bool) (in_stack in_fixed in_movable : Option Spot) → cells_of in_stack ≡ [] → cells_of in_fixed ≡ [] → (c ≡ true → cells_of in_movable ≡ local_part) → (c ≡ false → local_part ≡ [])
          → (if a || b then [] else page_asked at ++ local_part) ≡ (if a || b then [] else page_asked at) ++ cells_of (if a then in_stack else (if b then in_fixed else (if c then in_movable else None)))
      parts true b c in_stack in_fixed in_movable first second third fourth = sym first
      parts false true c in_stack in_fixed in_movable first second third fourth = sym second
      parts false false true in_stack in_fixed in_movable first second third fourth = ap (λ l. page_asked at ++ l) (sym (third refl))
      parts false false false in_stack in_fixed in_movable first second third fourth = ap (λ l. page_asked at ++ l) (fourth refl)

  -- what a fetch or a store asks: for its page
  pub other-asks : (use_of : Use) (size : ℕ) → is_load use_of ≡ false → asked_by i under stack (record { at = at; size = size; use_of = use_of }) ≡ place_asked i stack at
  other-asks use_of size unloaded = ap (λ b. if is_stack_or_immovable i stack at then [] else page_asked at ++ (if b && is_local i under at then asked.Cell ((at - local_base i under) / WORD_BYTES) ∷ [] else [])) unloaded
      ∙ ap (λ l. if is_stack_or_immovable i stack at then [] else l) (append-nil (page_asked at))

  -- an aligned access outside region 1 is told, and one in region 1 is not
  told-here : (use_of : Use) (size : ℕ) → at % size ≡ 0 → ¬ (at / REGION_BYTES ≡ 1) → told use_of size at ≡ record { at = at; size = size; use_of = use_of } ∷ []
  told-here use_of size aligned outside = grind (arith, nat_tests)

  told-nothing : (use_of : Use) (size : ℕ) → at % size ≡ 0 → at / REGION_BYTES ≡ 1 → told use_of size at ≡ []
  told-nothing use_of size aligned region = grind (arith, nat_tests)

  pub told-asks : (use_of : Use) (size : ℕ) (more : List Asked) → at % size ≡ 0 → ¬ (at / REGION_BYTES ≡ 1) → asked_by i under stack (record { at = at; size = size; use_of = use_of }) ≡ more → more ≡ told_asked i under stack use_of size at
  told-asks use_of size more aligned outside is =
      sym is ∙ sym (append-nil (asked_by i under stack (record { at = at; size = size; use_of = use_of }))) ∙ ap (asked_by_all i under stack) (sym (told-here use_of size aligned outside))

  pub region-asks : (use_of : Use) (size : ℕ) → at % size ≡ 0 → at / REGION_BYTES ≡ 1 → told_asked i under stack use_of size at ≡ []
  region-asks use_of size aligned region = ap (asked_by_all i under stack) (told-nothing use_of size aligned region)

module _ {O : Type 0} (i : Image) (under stack : Place) (at size : ℕ) (aligned : at % size ≡ 0) (before after : View O) where
  -- an access to region 1 asks nothing
  pub asked-region : (use_of : Use) → at / REGION_BYTES ≡ 1 → before ≡ with_asked before (told_asked i under stack use_of size at)
  asked-region use_of region = none-more before (told_asked i under stack use_of size at) (region-asks i under stack at use_of size aligned region)

  -- a fetch or a store outside region 1 asks for its page
  pub asked-page : (use_of : Use) → is_load use_of ≡ false → ¬ (at / REGION_BYTES ≡ 1) → after ≡ with_asked before (place_asked i stack at) → after ≡ with_asked before (told_asked i under stack use_of size at)
  asked-page use_of unloaded outside is =
      is ∙ ap (with_asked before) (told-asks i under stack at use_of size (place_asked i stack at) aligned outside (other-asks i under stack at use_of size unloaded))

  -- a load outside region 1 that finds nothing asks for its page
  pub asked-missing : ¬ (at / REGION_BYTES ≡ 1) → spot_at i under stack at ≡ None → after ≡ with_asked before (place_asked i stack at) → after ≡ with_asked before (told_asked i under stack Load size at)
  asked-missing outside none is =
      is ∙ ap (with_asked before)
      (told-asks i under stack at Load size (place_asked i stack at) aligned outside (load-asks i under stack at size None none ∙ append-nil (place_asked i stack at)))

  -- and one that finds a byte asks for the local word there, too
  pub asked-number : (between : View O) (spot : Spot) → ¬ (at / REGION_BYTES ≡ 1) → spot_at i under stack at ≡ Some spot
      → between ≡ with_asked before (place_asked i stack at) → after ≡ with_asked between (cell_asked spot) → after ≡ with_asked before (told_asked i under stack Load size at)
  asked-number between spot outside found first second =
      second ∙ ap (λ v. with_asked v (cell_asked spot)) first ∙ more-and-more before (place_asked i stack at) (cell_asked spot)
      ∙ ap (with_asked before) (told-asks i under stack at Load size (place_asked i stack at ++ cell_asked spot) aligned outside (load-asks i under stack at size (Some spot) found))
