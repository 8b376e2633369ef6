-- Where the parts of an address space lie: each alone in its region, so an address finds only the segments of the part
-- whose region it is in.
use Rattle.std.proofs.Common.{◌≡◌, ◌≢◌, ℕ, ◌+◌, ◌*◌, ◌<◌, ◌≤◌, ◌⊎◌, Bool, List, [], ◌∷◌, ◌++◌, Option, None, Some, map, inl, inr, refl, sym, ap, ◌∙◌, add_assoc, append_assoc, arith}
use Rattle.std.specs.Option.{option_or}
use Rattle.std.specs.Prelude.{find}
use Rattle.std.proofs.lemmas.Bool.{cases_lt}
use Rattle.std.proofs.lemmas.Bool.Decides.{nat_tests}
use Rattle.std.proofs.lemmas.List.{length-map}
use Rattle.std.proofs.lemmas.List.Folds.{find-append}
use Rattle.ad_base.specs.declared.layout.TheConstants.{MODULE_REGION, PAGE_BYTES, REGION_BYTES, REGIONS}
use Rattle.ad_base.specs.declared.place.Place.{Place}
use Rattle.ad_base.specs.declared.role.Role.{Role}
use Rattle.ad_base.specs.Layout.{extents_from, fixed_roles, movable_roles, rights_of, size_of, stack_roles}
use Rattle.ad_base.specs.Place.{IsPlace, base_of}
use Rattle.ad_base.specs.Segments.{Extent, Segment, extent_of, extents, holding, holds}
use Rattle.ad_symbolic.specs.AddressSpace.{AddressSpace}
use Rattle.ad_symbolic.specs.declared.byte.Byte.{Byte}
use Rattle.ad_relate.specs.Stands.{Fits, IsApart, Places, byte_at, segment_at, segments_at}

-- the address is none of the place's bytes
abbrev pub Misses : Place → ℕ → Type 0
Misses q at = (at < base_of q) ⊎ (base_of q + q.pages * PAGE_BYTES ≤ at)

-- the address is in the region
pub record IsIn (region at : ℕ) : Type 0 where
  pub from : region * REGION_BYTES ≤ at
  pub to : at < (region + 1) * REGION_BYTES

-- how many bytes pieces have together
abbrev together : (Role → ℕ) → List Role → ℕ
together size [] = 0
together size (r ∷ rs) = size r + together size rs

-- these segments fill the pages of the place
pub record Fills (q : Place) (part : List (Segment ℕ)) : Type 0 where
  pub place : IsPlace q
  pub size : Role → ℕ
  pub roles : List Role
  pub lies : extents part ≡ extents_from (base_of q) size roles
  pub whole : together size roles ≡ q.pages * PAGE_BYTES

-- segments of which only these hold addresses of the place's region
pub record IsAlone (segments part : List (Segment ℕ)) (q : Place) : Type 0 where
  pub fills : Fills q part
  pub alone : (at : ℕ) → IsIn q.region at → holding segments at ≡ holding part at

-- an address before the pieces or behind them is in none of their segments
holding-outside : (part : List (Segment ℕ)) (base at : ℕ) (size : Role → ℕ) (roles : List Role) → extents part ≡ extents_from base size roles → (at < base) ⊎ (base + together size roles ≤ at) → holding part at ≡ None
holding-outside [] base at size roles e out = refl
holding-outside (s ∷ part) base at size [] e out = absurd cc
holding-outside (s ∷ part) base at size (r ∷ rs) e out =
    let here : extent_of s ≡ record { base = base; size = size r; rights = rights_of r; role = r } = cc in
    let start = ap (λ (x : Extent). x.base) here in
    let long = ap (λ (x : Extent). x.size) here in
    let rest : extents part ≡ extents_from (base + size r) size rs = cc in
    elim out [
      | inl before ↦ grind (arith, nat_tests, start, long, holding-outside part (base + size r) at size rs rest (inl (omega (arith, before))))
      | inr behind ↦ grind (arith, nat_tests, start, long, holding-outside part (base + size r) at size rs rest (inr (omega (arith, behind))))
    ]

pub holding-missed : (q : Place) (part : List (Segment ℕ)) (at : ℕ) → Fills q part → Misses q at → holding part at ≡ None
holding-missed q part at fills (inl before) = holding-outside part (base_of q) at fills.size fills.roles fills.lies (inl before)
holding-missed q part at fills (inr behind) = holding-outside part (base_of q) at fills.size fills.roles fills.lies (inr (omega (arith, fills.whole, behind)))

-- an address of another region misses a place
elsewhere : (q : Place) (region at : ℕ) → IsPlace q → region ≢ q.region → IsIn region at → Misses q at
elsewhere q region at place other here = elim (cases_lt at (base_of q)) [
  | inl before ↦ inl before
  | inr from ↦ inr (omega (arith, place.page_behind, other, here.from, here.to))
]

-- so does one that is in no region for places
misses-outside : (q : Place) (at : ℕ) → IsPlace q → (at < MODULE_REGION * REGION_BYTES) ⊎ (REGIONS * REGION_BYTES ≤ at) → Misses q at
misses-outside q at place (inl before) = inl (omega (arith, place.region_from))
misses-outside q at place (inr behind) = inr (omega (arith, place.region_to, place.page_behind))

-- where none is found in the first list, the second counts
pub find-second : {A : Type 0} (p : A → Bool) (xs ys : List A) → find p xs ≡ None → find p (xs ++ ys) ≡ find p ys
find-second p xs ys none = find-append p xs ys ∙ ap (λ x. option_or x (find p ys)) none

option_or-none : {A : Type 0} (x : Option A) → option_or x None ≡ x
option_or-none None = refl
option_or-none (Some x) = refl

-- where none is found in the second, the first counts
pub find-first : {A : Type 0} (p : A → Bool) (xs ys : List A) → find p ys ≡ None → find p (xs ++ ys) ≡ find p xs
find-first p xs ys none = find-append p xs ys ∙ ap (λ y. option_or (find p xs) y) none ∙ option_or-none (find p xs)

-- the segments that those of a part stand for, so many bytes further on
abbrev pub part_at : Places → ℕ → List (Segment Byte) → List (Segment ℕ)
part_at ps shift part = map (segment_at ps shift) part

-- they lie so many bytes further on
pub extents-at : (ps : Places) (shift base : ℕ) (size : Role → ℕ) (roles : List Role) (part : List (Segment Byte)) → extents part ≡ extents_from base size roles → extents (part_at ps shift part) ≡ extents_from (shift + base) size roles
extents-at ps shift base size [] [] e = refl
extents-at ps shift base size [] (s ∷ part) e = absurd cc
extents-at ps shift base size (r ∷ rs) [] e = absurd cc
extents-at ps shift base size (r ∷ rs) (s ∷ part) e =
    let here : extent_of s ≡ record { base = base; size = size r; rights = rights_of r; role = r } = cc in
    let rest : extents part ≡ extents_from (base + size r) size rs = cc in
    let long = length-map s.bytes (byte_at ps) ∙ ap (λ (x : Extent). x.size) here in
    let more = extents-at ps shift (base + size r) size rs part rest ∙ ap (λ n. extents_from n size rs) (sym (add_assoc shift base (size r))) in
    λ j. record { base = shift + (here j).base; size = long j; rights = (here j).rights; role = (here j).role } ∷ more j

module _ (space : AddressSpace) (ps : Places) where
  -- the segments of each part
  abbrev pub stack_segments : List (Segment ℕ)
  stack_segments = part_at ps (base_of ps.stack) space.stack

  abbrev pub fixed_segments : List (Segment ℕ)
  fixed_segments = part_at ps 0 space.fixed

  abbrev pub movable_segments : List (Segment ℕ)
  movable_segments = part_at ps (base_of ps.movable) space.movable

  module _ (apart : IsApart space.image ps) (fits : Fits space) where
    -- a part fills its place
    filled : (q : Place) (shift base : ℕ) (roles : List Role) (part : List (Segment Byte)) → IsPlace q → shift + base ≡ base_of q → together (size_of space.image) roles ≡ q.pages * PAGE_BYTES → extents part ≡ extents_from base (size_of space.image) roles → Fills q (part_at ps shift part)
    filled q shift base roles part place from whole lies = record {
      place = place;
      size = size_of space.image;
      roles = roles;
      lies = extents-at ps shift base (size_of space.image) roles part lies ∙ ap (λ n. extents_from n (size_of space.image) roles) from;
      whole = whole;
    }

    fills-stack : Fills ps.stack stack_segments
    fills-stack = filled ps.stack (base_of ps.stack) 0 stack_roles space.stack apart.stack (omega arith) (omega (arith, apart.stack_size)) fits.stack

    fills-fixed : Fills space.image.fixed fixed_segments
    fills-fixed = filled space.image.fixed 0 (base_of space.image.fixed) fixed_roles space.fixed apart.whole.fixed_place.place (omega arith) (omega (arith, apart.whole.fixed_size)) fits.fixed

    fills-movable : Fills ps.movable movable_segments
    fills-movable = filled ps.movable (base_of ps.movable) 0 movable_roles space.movable apart.movable.place (omega arith) (omega (arith, apart.movable_size)) fits.movable

    -- the stack counts first, and the movable part last
    in-order : segments_at ps space ≡ stack_segments ++ (fixed_segments ++ movable_segments)
    in-order = append_assoc stack_segments fixed_segments movable_segments

    -- where the stack does not hold an address, the immovable and the movable part count
    hidden : (at : ℕ) → Misses ps.stack at → holding (segments_at ps space) at ≡ holding (fixed_segments ++ movable_segments) at
    hidden at no_stack = ap (λ segments. holding segments at) in-order ∙ find-second (holds at) stack_segments (fixed_segments ++ movable_segments) (holding-missed ps.stack stack_segments at fills-stack no_stack)

    -- where the immovable part does not hold it, the movable one counts, and the other way round
    none-fixed : (at : ℕ) → Misses space.image.fixed at → holding (fixed_segments ++ movable_segments) at ≡ holding movable_segments at
    none-fixed at no_fixed = find-second (holds at) fixed_segments movable_segments (holding-missed space.image.fixed fixed_segments at fills-fixed no_fixed)

    none-movable : (at : ℕ) → Misses ps.movable at → holding (fixed_segments ++ movable_segments) at ≡ holding fixed_segments at
    none-movable at no_movable = find-first (holds at) fixed_segments movable_segments (holding-missed ps.movable movable_segments at fills-movable no_movable)

    -- each part holds no address of another region
    pub stack-misses : (region at : ℕ) → region ≢ ps.stack.region → IsIn region at → holding stack_segments at ≡ None
    stack-misses region at other here = holding-missed ps.stack stack_segments at fills-stack (elsewhere ps.stack region at apart.stack other here)

    pub fixed-misses : (region at : ℕ) → region ≢ space.image.fixed.region → IsIn region at → holding fixed_segments at ≡ None
    fixed-misses region at other here = holding-missed space.image.fixed fixed_segments at fills-fixed (elsewhere space.image.fixed region at apart.whole.fixed_place.place other here)

    pub movable-misses : (region at : ℕ) → region ≢ ps.movable.region → IsIn region at → holding movable_segments at ≡ None
    movable-misses region at other here = holding-missed ps.movable movable_segments at fills-movable (elsewhere ps.movable region at apart.movable.place other here)

    -- each part is alone in its region
    pub movable-alone : IsAlone (segments_at ps space) movable_segments ps.movable
    movable-alone = record {
      fills = fills-movable;
      alone = λ at here.
          hidden at (elsewhere ps.stack ps.movable.region at apart.stack apart.movable_stack here)
          ∙ none-fixed at (elsewhere space.image.fixed ps.movable.region at apart.whole.fixed_place.place apart.movable_fixed here);
    }

    pub fixed-alone : IsAlone (segments_at ps space) fixed_segments space.image.fixed
    fixed-alone = record {
      fills = fills-fixed;
      alone = λ at here.
          hidden at (elsewhere ps.stack space.image.fixed.region at apart.stack (λ e. apart.stack_fixed (sym e)) here)
          ∙ none-movable at (elsewhere ps.movable space.image.fixed.region at apart.movable.place (λ e. apart.movable_fixed (sym e)) here);
    }

    pub stack-alone : IsAlone (segments_at ps space) stack_segments ps.stack
    stack-alone = record {
      fills = fills-stack;
      alone = λ at here.
          ap (λ segments. holding segments at) in-order
          ∙ find-first (holds at) stack_segments (fixed_segments ++ movable_segments)
          (none-fixed at (elsewhere space.image.fixed ps.stack.region at apart.whole.fixed_place.place apart.stack_fixed here)
          ∙ holding-missed ps.movable movable_segments at fills-movable (elsewhere ps.movable ps.stack.region at apart.movable.place (λ e. apart.movable_stack (sym e)) here));
    }

    -- an address in no region for places is in none of the segments
    pub holding-none : (at : ℕ) → (at < MODULE_REGION * REGION_BYTES) ⊎ (REGIONS * REGION_BYTES ≤ at) → holding (segments_at ps space) at ≡ None
    holding-none at out =
        hidden at (misses-outside ps.stack at apart.stack out)
        ∙ none-fixed at (misses-outside space.image.fixed at apart.whole.fixed_place.place out)
        ∙ holding-missed ps.movable movable_segments at fills-movable (misses-outside ps.movable at apart.movable.place out)
