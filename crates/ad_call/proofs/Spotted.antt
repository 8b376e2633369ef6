-- Where an address lies among pieces that stand one behind the other, and among those of a module and a stack.
use Rattle.std.proofs.Common.{◌≡◌, ◌⊎◌, inl, inr, ℕ, ◌+◌, ◌-◌, ◌*◌, ◌/◌, ◌%◌, ◌^◌, ◌<◌, ◌≤◌, ◌&&◌, Bool, true, false, List, [], ◌∷◌, ◌++◌, length, Option, None, Some, refl, sym, ap, subst, ◌∙◌, arith}
use Rattle.std.specs.Prelude.{◌||◌, nat_le, nat_lt, if◌then◌else◌, All}
use Rattle.std.proofs.lemmas.Bool.{cases_lt, cond_both, leb-true}
use Rattle.std.proofs.lemmas.Bool.Decides.{nat_tests}
use Rattle.std.proofs.lemmas.List.Elements.{All-cons, All-head, All-nil, All-tail}
use Rattle.ad_base.specs.declared.image.Image.{Image}
use Rattle.ad_base.specs.declared.layout.TheConstants.{MODULE_REGION, PAGE_BYTES, REGION_BYTES, STACK_PAGES, WORD_BYTES}
use Rattle.ad_base.specs.declared.place.Place.{Place}
use Rattle.ad_base.specs.declared.role.Role.{Role}
use Rattle.ad_base.specs.declared.role.Role.TheVariants.{Cells, Code, Constants, Data, FixedCode, FixedConstants, FixedData, FixedTable, Stack, Table}
use Rattle.ad_base.specs.Image.{IsWhole, movable_pages}
use Rattle.ad_base.specs.Layout.{fixed_roles, laid_out, movable_roles, rights_of, size_of, stack_roles, text_bytes}
use Rattle.ad_base.specs.Place.{base_of}
use Rattle.ad_base.specs.Segments.{Segment, holding}
use Rattle.ad_core.specs.Image.{bytes_under, segments_of}
use Rattle.ad_call.specs.declared.spot.Spot.{Spot}
use Rattle.ad_call.specs.Asked.{is_stack_or_immovable, is_within}
use Rattle.ad_call.specs.Call.{HasData}
use Rattle.ad_call.specs.Private.Spots.{IsHeld, bounds_of, is_apart, is_text_alone, spot_at, spot_from, spot_in}
use Rattle.ad_call.specs.Private.WholeWords.{base-whole, length-bytes_under, size-whole}

-- a byte of the first piece
pub spot-first : (size : Role → ℕ) (r : Role) (rs : List Role) (o : ℕ) → o < size r → spot_in size (r ∷ rs) o ≡ Some (record { role = r; offset = o })
spot-first size r rs o below = grind (arith, nat_tests)

-- a byte behind the first piece
pub spot-behind : (size : Role → ℕ) (r : Role) (rs : List Role) (o : ℕ) → size r ≤ o → spot_in size (r ∷ rs) o ≡ spot_in size rs (o - size r)
spot-behind size r rs o from = grind (arith, nat_tests)

-- an address in a part is the byte of a piece of it, and one before or behind it is not
part-inside : (base n : ℕ) (size : Role → ℕ) (roles : List Role) (at : ℕ) (otherwise : Option Spot) → base ≤ at → at < base + n → spot_from base n size roles at otherwise ≡ spot_in size roles (at - base)
part-inside base n size roles at otherwise low high = grind (arith, nat_tests)

part-outside : (base n : ℕ) (size : Role → ℕ) (roles : List Role) (at : ℕ) (otherwise : Option Spot) → (base ≤ at → at < base + n → ⊥) → spot_from base n size roles at otherwise ≡ otherwise
part-outside base n size roles at otherwise out = elim (cases_lt at base) [
  | inl before ↦ grind (arith, nat_tests)
  | inr low ↦ elim (cases_lt at (base + n)) [
    | inl high ↦ absurd (out low high)
    | inr behind ↦ grind (arith, nat_tests)
  ]
]

-- what holds of the role of each piece holds of the role of a byte of one
spot-of : (P : Role → Type 0) (size : Role → ℕ) (roles : List Role) (o : ℕ) (spot : Spot) → All P roles → spot_in size roles o ≡ Some spot → P spot.role
spot-of P size [] o spot all is = absurd cc
spot-of P size (r ∷ rs) o spot all is = each (nat_lt o (size r)) (λ later. spot-of P size rs (o - size r) spot (All-tail P r rs all) later) is
  where
    each : (here : Bool) → (spot_in size rs (o - size r) ≡ Some spot → P spot.role) → (if here then Some (record { role = r; offset = o }) else spot_in size rs (o - size r)) ≡ Some spot → P spot.role
    each true rest e = let first : Spot = record { role = r; offset = o } in let same : first ≡ spot = cc in subst P (ap (λ (s : Spot). s.role) same) (All-head P r rs all)
    each false rest e = rest e

-- a piece of the movable part
abbrev pub is_movable : Role → Bool
is_movable Code = true
is_movable Constants = true
is_movable Table = true
is_movable Cells = true
is_movable Data = true
is_movable role = false

abbrev IsOther : Role → Type 0
IsOther r = is_movable r ≡ false

other-stack : All IsOther stack_roles
other-stack = All-cons IsOther Stack [] refl (All-nil IsOther)

other-fixed : All IsOther fixed_roles
other-fixed =
    All-cons IsOther FixedCode (FixedConstants ∷ FixedTable ∷ FixedData ∷ []) refl
    (All-cons IsOther FixedConstants (FixedTable ∷ FixedData ∷ []) refl (All-cons IsOther FixedTable (FixedData ∷ []) refl (All-cons IsOther FixedData [] refl (All-nil IsOther))))

-- an address in a piece of the movable part is in neither the stack nor the immovable part, and is one of the movable part
pub record IsMovableAt (i : Image) (under stack : Place) (at : ℕ) : Type 0 where
  pub apart : is_stack_or_immovable i stack at ≡ false
  pub from : base_of under ≤ at
  pub to : at < base_of under + movable_pages i * PAGE_BYTES

module _ (i : Image) (under stack : Place) (at : ℕ) where
  pub movable-at : (spot : Spot) → spot_at i under stack at ≡ Some spot → is_movable spot.role ≡ true → IsMovableAt i under stack at
  movable-at spot is may =
      let both = parts (is_within (base_of stack) (STACK_PAGES * PAGE_BYTES) at) (is_within (base_of i.fixed) (i.fixed.pages * PAGE_BYTES) at) (is_within (base_of under) (movable_pages i * PAGE_BYTES) at)
      (spot_in (size_of i) stack_roles (at - base_of stack)) (spot_in (size_of i) fixed_roles (at - base_of i.fixed)) (spot_in (size_of i) movable_roles (at - base_of under))
      (λ e. spot-of IsOther (size_of i) stack_roles (at - base_of stack) spot other-stack e) (λ e. spot-of IsOther (size_of i) fixed_roles (at - base_of i.fixed) spot other-fixed e) is in
      record { apart = both.0; from = grind (arith, nat_tests, both.1); to = grind (arith, nat_tests, both.1) }
    where
      parts : (a b c : Bool) (in_stack in_fixed in_movable : Option Spot) → (in_stack ≡ Some spot → IsOther spot.role) → (in_fixed ≡ Some spot → IsOther spot.role)
          → (if a then in_stack else (if b then in_fixed else (if c then in_movable else None))) ≡ Some spot → (a || b ≡ false) × (c ≡ true)
      parts true b c in_stack in_fixed in_movable first second e = let other : is_movable spot.role ≡ false = first e in absurd cc
      parts false true c in_stack in_fixed in_movable first second e = let other : is_movable spot.role ≡ false = second e in absurd cc
      parts false false true in_stack in_fixed in_movable first second e = (refl, refl)
      parts false false false in_stack in_fixed in_movable first second e = absurd cc

  -- an address in the stack
  pub spot-stack : base_of stack ≤ at → at < base_of stack + STACK_PAGES * PAGE_BYTES → spot_at i under stack at ≡ Some (record { role = Stack; offset = at - base_of stack })
  spot-stack low high =
      part-inside (base_of stack) (STACK_PAGES * PAGE_BYTES) (size_of i) stack_roles at _ low high ∙ spot-first (size_of i) Stack [] (at - base_of stack) (omega (arith, low, high))

  -- an address in the text of the movable part, and neither in the stack nor in the immovable part
  pub spot-text : (base_of stack ≤ at → at < base_of stack + STACK_PAGES * PAGE_BYTES → ⊥) → (base_of i.fixed ≤ at → at < base_of i.fixed + i.fixed.pages * PAGE_BYTES → ⊥)
      → base_of under ≤ at → at < base_of under + text_bytes i.text_pages → spot_at i under stack at ≡ Some (record { role = Code; offset = at - base_of under })
  spot-text no_stack no_fixed low high =
      part-outside (base_of stack) (STACK_PAGES * PAGE_BYTES) (size_of i) stack_roles at _ no_stack
      ∙ part-outside (base_of i.fixed) (i.fixed.pages * PAGE_BYTES) (size_of i) fixed_roles at _ no_fixed
      ∙ part-inside (base_of under) (movable_pages i * PAGE_BYTES) (size_of i) movable_roles at None low (omega (arith, high))
      ∙ spot-first (size_of i) Code (Constants ∷ Table ∷ Cells ∷ Data ∷ []) (at - base_of under) (omega (arith, low, high))

-- how far behind a base an address lies, as a difference of 64 bits says it
pub inside : (base n at : ℕ) → at < 2 ^ 64 → base + n ≤ 2 ^ 64 → (at + (2 ^ 64 - base)) % 2 ^ 64 < n → at ≡ base + (at + (2 ^ 64 - base)) % 2 ^ 64
inside base n at fits room below = omega (arith, fits, room, below)

-- an address so far behind the first of a piece of this role, behind region 1, is found there with no other look
pub record IsClear (i : Image) (under stack : Place) (role : Role) (offset at : ℕ) : Type 0 where
  pub spot : spot_at i under stack at ≡ Some (record { role = role; offset = offset })
  pub behind : ¬ (at / REGION_BYTES ≡ 1)

module _ (i : Image) (under stack : Place) where
  pub clear-stack : (offset : ℕ) → offset < (bounds_of i under stack).clear_stack → IsClear i under stack Stack offset (base_of stack + offset)
  clear-stack offset =
      cond_both (nat_le (MODULE_REGION * REGION_BYTES) (base_of stack)) (STACK_PAGES * PAGE_BYTES) 0 (λ n. offset < n → IsClear i under stack Stack offset (base_of stack + offset))
      (λ high below. record {
        spot = spot-stack i under stack (base_of stack + offset) (omega arith) (omega (arith, below)) ∙ ap (λ n. Some (record { role = Stack; offset = n })) (omega arith);
        behind = let from : MODULE_REGION * REGION_BYTES ≤ base_of stack = leb-true (MODULE_REGION * REGION_BYTES) (base_of stack) high in omega (arith, from);
      })
      (λ low below. absurd (omega (arith, below)))

  apart-from : (base bytes other more : ℕ) → is_apart base bytes other more ≡ true → (base + bytes ≤ other) ⊎ (other + more ≤ base)
  apart-from base bytes other more e = elim (cases_lt other (base + bytes)) [
    | inl into ↦ inr (grind (arith, nat_tests))
    | inr behind ↦ inl behind
  ]

  both : (a b : Bool) → a && b ≡ true → (a ≡ true) × (b ≡ true)
  both true b e = (refl, e)
  both false b e = absurd cc

  pub clear-text : (offset : ℕ) → offset < (bounds_of i under stack).clear_text → IsClear i under stack Code offset (base_of under + offset)
  clear-text offset =
      cond_both (is_text_alone i under stack) (text_bytes i.text_pages) 0 (λ n. offset < n → IsClear i under stack Code offset (base_of under + offset))
      (λ alone below.
      let parts = both (is_apart (base_of stack) (STACK_PAGES * PAGE_BYTES) (base_of under) (text_bytes i.text_pages) && is_apart (base_of i.fixed) (i.fixed.pages * PAGE_BYTES) (base_of under) (text_bytes i.text_pages)) (nat_le (MODULE_REGION * REGION_BYTES) (base_of under)) alone in
      let others = both (is_apart (base_of stack) (STACK_PAGES * PAGE_BYTES) (base_of under) (text_bytes i.text_pages)) (is_apart (base_of i.fixed) (i.fixed.pages * PAGE_BYTES) (base_of under) (text_bytes i.text_pages)) parts.0 in
      let no_stack = apart-from (base_of stack) (STACK_PAGES * PAGE_BYTES) (base_of under) (text_bytes i.text_pages) others.0 in
      let no_fixed = apart-from (base_of i.fixed) (i.fixed.pages * PAGE_BYTES) (base_of under) (text_bytes i.text_pages) others.1 in
      let at = base_of under + offset in
      record {
        spot = spot-text i under stack at (missed (base_of stack) (STACK_PAGES * PAGE_BYTES) no_stack below) (missed (base_of i.fixed) (i.fixed.pages * PAGE_BYTES) no_fixed below) (omega arith) (omega (arith, below))
            ∙ ap (λ n. Some (record { role = Code; offset = n })) (omega arith);
        behind = let from : MODULE_REGION * REGION_BYTES ≤ base_of under = leb-true (MODULE_REGION * REGION_BYTES) (base_of under) parts.1 in omega (arith, from);
      })
      (λ beside below. absurd (omega (arith, below)))
    where
      missed : (base bytes : ℕ) → (base + bytes ≤ base_of under) ⊎ (base_of under + text_bytes i.text_pages ≤ base) → offset < text_bytes i.text_pages → base ≤ base_of under + offset → base_of under + offset < base + bytes → ⊥
      missed base bytes (inl before) below low high = omega (arith, before, low, high)
      missed base bytes (inr behind) below low high = omega (arith, behind, below, low)

-- the bytes of these pieces
abbrev total : (Role → ℕ) → List Role → ℕ
total size [] = 0
total size (r ∷ rs) = size r + total size rs

-- segments that hold an address alike
held-alike : (xs ys : List (Segment ℕ)) (bytes : Role → List ℕ) (at : ℕ) (o : Option Spot) → holding xs at ≡ holding ys at → IsHeld ys bytes at o → IsHeld xs bytes at o
held-alike xs ys bytes at None same held = same ∙ held
held-alike xs ys bytes at (Some spot) same held = (same ∙ held.0, held.1, held.2, held.3, held.4)

-- the pieces are so long, and whole words
record HasSizes (bytes : Role → List ℕ) (size : Role → ℕ) : Type 0 where
  pub long : (r : Role) → length (bytes r) ≡ size r
  pub words : (r : Role) → size r % WORD_BYTES ≡ 0

module _ (bytes : Role → List ℕ) (size : Role → ℕ) (sizes : HasSizes bytes size) (at : ℕ) (rest : List (Segment ℕ)) where
  -- an address before pieces or behind them is in none
  holding-outside : (roles : List Role) (base : ℕ) → (at < base) ⊎ (base + total size roles ≤ at) → holding (laid_out base bytes roles ++ rest) at ≡ holding rest at
  holding-outside [] base out = refl
  holding-outside (r ∷ rs) base (inl before) =
      let long = sizes.long r in
      grind (arith, nat_tests, holding-outside rs (base + length (bytes r)) (inl (omega arith)))
  holding-outside (r ∷ rs) base (inr behind) =
      let long = sizes.long r in
      grind (arith, nat_tests, holding-outside rs (base + length (bytes r)) (inr (omega arith)))

  -- an address of the first piece
  held-first : (r : Role) (rs : List Role) (base : ℕ) → base % WORD_BYTES ≡ 0 → base ≤ at → at < base + size r
      → IsHeld (laid_out base bytes (r ∷ rs) ++ rest) bytes at (Some (record { role = r; offset = at - base }))
  held-first r rs base from low high =
      let long = sizes.long r in
      let words = sizes.words r in
      let found : holding (laid_out base bytes (r ∷ rs) ++ rest) at ≡ Some (record { base = base; bytes = bytes r; rights = rights_of r; role = r }) = grind (arith, nat_tests) in
      let back : base ≡ at - (at - base) = omega arith in
      (found ∙ ap (λ b. Some (record { base = b; bytes = bytes r; rights = rights_of r; role = r })) back, omega arith, omega arith, omega arith, omega arith)

  -- an address behind the first piece
  holding-behind : (r : Role) (rs : List Role) (base : ℕ) → base + size r ≤ at → holding (laid_out base bytes (r ∷ rs) ++ rest) at ≡ holding (laid_out (base + length (bytes r)) bytes rs ++ rest) at
  holding-behind r rs base behind =
      let long = sizes.long r in
      grind (arith, nat_tests)

  -- an address of the pieces is where it is counted from the first
  held-within : (roles : List Role) (base : ℕ) → base % WORD_BYTES ≡ 0 → base ≤ at → at < base + total size roles
      → IsHeld (laid_out base bytes roles ++ rest) bytes at (spot_in size roles (at - base))
  held-within [] base from low high = absurd (omega arith)
  held-within (r ∷ rs) base from low high = elim (cases_lt at (base + size r)) [
    | inl here ↦ subst (λ o. IsHeld (laid_out base bytes (r ∷ rs) ++ rest) bytes at o) (sym (spot-first size r rs (at - base) (omega arith))) (held-first r rs base from low here)
    | inr past ↦
        let long = sizes.long r in
        let words = sizes.words r in
        let next = base + length (bytes r) in
        let behind = held-within rs next (omega arith) (omega arith) (omega arith) in
        let same : spot_in size rs (at - next) ≡ spot_in size (r ∷ rs) (at - base) = ap (λ n. spot_in size rs n) (omega arith) ∙ sym (spot-behind size r rs (at - base) (omega arith)) in
        held-alike (laid_out base bytes (r ∷ rs) ++ rest) (laid_out next bytes rs ++ rest) bytes at (spot_in size (r ∷ rs) (at - base)) (holding-behind r rs base past)
        (subst (λ o. IsHeld (laid_out next bytes rs ++ rest) bytes at o) same behind)
  ]

  -- a part before others
  held-part : (roles : List Role) (base n : ℕ) (otherwise : Option Spot) → base % WORD_BYTES ≡ 0 → total size roles ≡ n → IsHeld rest bytes at otherwise
      → IsHeld (laid_out base bytes roles ++ rest) bytes at (spot_from base n size roles at otherwise)
  held-part roles base n otherwise from all held =
      let segments = laid_out base bytes roles ++ rest in
      let outside : (at < base) ⊎ (base + total size roles ≤ at) → spot_from base n size roles at otherwise ≡ otherwise → IsHeld segments bytes at (spot_from base n size roles at otherwise) =
      λ out is. subst (λ o. IsHeld segments bytes at o) (sym is) (held-alike segments rest bytes at otherwise (holding-outside roles base out) held) in
      elim (cases_lt at base) [
        | inl before ↦ outside (inl before) (grind (arith, nat_tests))
        | inr low ↦ elim (cases_lt at (base + n)) [
          | inl high ↦
              let is : spot_in size roles (at - base) ≡ spot_from base n size roles at otherwise = grind (arith, nat_tests) in
              subst (λ o. IsHeld segments bytes at o) is (held-within roles base from low (omega arith))
          | inr behind ↦ outside (inr (omega arith)) (grind (arith, nat_tests))
        ]
      ]

-- Where an address lies: in the stack, else in the immovable part, else in the movable one.
pub spotted : (i : Image) (under stack : Place) (at : ℕ) (stack_bytes fixed writable : List ℕ) → IsWhole i → length stack_bytes ≡ STACK_PAGES * PAGE_BYTES → HasData i writable fixed
    → IsHeld (segments_of i under stack stack_bytes fixed writable) (bytes_under i under stack_bytes fixed writable) at (spot_at i under stack at)
spotted i under stack at stack_bytes fixed writable whole long reaches =
    let bytes = bytes_under i under stack_bytes fixed writable in
    let size = size_of i in
    let sizes : HasSizes bytes size = record { long = length-bytes_under i under stack_bytes fixed writable whole long reaches; words = size-whole i } in
    let movable = laid_out (base_of under) bytes movable_roles in
    let parts = laid_out (base_of i.fixed) bytes fixed_roles ++ movable in
    let in_movable = spot_from (base_of under) (movable_pages i * PAGE_BYTES) size movable_roles at None in
    let in_parts = spot_from (base_of i.fixed) (i.fixed.pages * PAGE_BYTES) size fixed_roles at in_movable in
    held-part bytes size sizes at parts stack_roles (base_of stack) (STACK_PAGES * PAGE_BYTES) in_parts (base-whole stack) (omega arith)
    (held-part bytes size sizes at movable fixed_roles (base_of i.fixed) (i.fixed.pages * PAGE_BYTES) in_movable (base-whole i.fixed) (omega (arith, whole.fixed_size))
    (held-part bytes size sizes at [] movable_roles (base_of under) (movable_pages i * PAGE_BYTES) None (base-whole under) (omega arith) refl))
