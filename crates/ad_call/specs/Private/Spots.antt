-- Where an address lies among the pieces of a module and the stack.
use Rattle.std.specs.Prelude.{◌≡◌, ℕ, ◌+◌, ◌-◌, ◌*◌, ◌%◌, ◌^◌, ◌<◌, ◌≤◌, ◌&&◌, ◌||◌, Bool, nat_le, nat_lt, if◌then◌else◌, List, [], ◌∷◌, length, Option, Some, None}
use Rattle.ad_base.specs.declared.image.Image.{Image}
use Rattle.ad_base.specs.declared.layout.TheConstants.{MODULE_REGION, PAGE_BYTES, REGION_BYTES, STACK_PAGES, WORD_BYTES}
use Rattle.ad_base.specs.declared.place.Place.{Place}
use Rattle.ad_base.specs.declared.role.Role.{Role}
use Rattle.ad_base.specs.Image.{movable_pages}
use Rattle.ad_base.specs.Layout.{fixed_roles, movable_roles, rights_of, size_of, stack_roles, text_bytes}
use Rattle.ad_base.specs.Place.{base_of}
use Rattle.ad_base.specs.Segments.{Segment, holding}
use Rattle.ad_call.specs.declared.spot.Bounds.{Bounds}
use Rattle.ad_call.specs.declared.spot.Spot.{Spot}

-- the piece in which a byte lies, counted from the first byte of these pieces, and how far in it
abbrev pub spot_in : (Role → ℕ) → List Role → ℕ → Option Spot
spot_in size [] o = None
spot_in size (r ∷ rs) o = if nat_lt o (size r) then Some (record { role = r; offset = o }) else spot_in size rs (o - size r)

-- the piece of a part in which an address lies, where the part has so many bytes from a base on, or else another
abbrev pub spot_from : ℕ → ℕ → (Role → ℕ) → List Role → ℕ → Option Spot → Option Spot
spot_from base bytes size roles at otherwise = if nat_le base at && nat_lt at (base + bytes) then spot_in size roles (at - base) else otherwise

-- the piece in which an address lies: of the stack, of the immovable part, or of the movable one
abbrev pub spot_at : Image → Place → Place → ℕ → Option Spot
spot_at i under stack at =
    spot_from (base_of stack) (STACK_PAGES * PAGE_BYTES) (size_of i) stack_roles at
    (spot_from (base_of i.fixed) (i.fixed.pages * PAGE_BYTES) (size_of i) fixed_roles at
    (spot_from (base_of under) (movable_pages i * PAGE_BYTES) (size_of i) movable_roles at None))

-- so many bytes from a base on, and others from another on, have none in common
abbrev pub is_apart : ℕ → ℕ → ℕ → ℕ → Bool
is_apart base bytes other more = nat_le (base + bytes) other || nat_le (other + more) base

-- the text of the movable part has no byte of the stack, of the immovable part, or of a region before those for places
abbrev pub is_text_alone : Image → Place → Place → Bool
is_text_alone i under stack =
    is_apart (base_of stack) (STACK_PAGES * PAGE_BYTES) (base_of under) (text_bytes i.text_pages)
    && is_apart (base_of i.fixed) (i.fixed.pages * PAGE_BYTES) (base_of under) (text_bytes i.text_pages)
    && nat_le (MODULE_REGION * REGION_BYTES) (base_of under)

-- where the stack and the text of the movable part lie, and how many of their bytes are found with no other look
abbrev pub bounds_of : Image → Place → Place → Bounds
bounds_of i under stack = record {
  stack_base = base_of stack;
  text_base = base_of under;
  clear_stack = if nat_le (MODULE_REGION * REGION_BYTES) (base_of stack) then STACK_PAGES * PAGE_BYTES else 0;
  clear_text = if is_text_alone i under stack then text_bytes i.text_pages else 0;
}

-- these bytes lie so low that no address of theirs wraps
pub record IsLow (b : Bounds) : Type 0 where
  pub stack : b.stack_base < 2 ^ 35
  pub text : b.text_base < 2 ^ 35
  pub stack_bytes : b.clear_stack < 2 ^ 35
  pub text_bytes : b.clear_text < 2 ^ 35

-- The first segment that holds an address is the piece of this role, and the address is so far in it, if there is one.
abbrev pub IsHeld : List (Segment ℕ) → (Role → List ℕ) → ℕ → Option Spot → Type 0
IsHeld segments bytes at None = holding segments at ≡ None
IsHeld segments bytes at (Some spot) =
    (holding segments at ≡ Some (record { base = at - spot.offset; bytes = bytes spot.role; rights = rights_of spot.role; role = spot.role }))
    × (spot.offset ≤ at) × (spot.offset < length (bytes spot.role)) × ((at - spot.offset) % WORD_BYTES ≡ 0) × (length (bytes spot.role) % WORD_BYTES ≡ 0)
