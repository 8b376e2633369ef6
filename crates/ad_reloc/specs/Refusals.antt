-- Why an entry is refused.
use Rattle.std.specs.Prelude.{◌≡◌, ℕ, ◌+◌, ◌-◌, ◌%◌, ◌==◌, ◌&&◌, ◌||◌, not, Bool, true, false, ℤ, pos, int_lt, int_le, unsigned_abs, List, [], ◌∷◌, length, Option, Some, None, option_and_then, is_none, is_some, if◌then◌else◌}
use Rattle.std.specs.List.{list_any, slice_get}
use Rattle.std.specs.Option.{option_map_or}
use Rattle.ad_base.specs.declared.layout.TheConstants.{WORD_BYTES}
use Rattle.ad_base.specs.declared.place.Place.{Place}
use Rattle.ad_elf.specs.declared.elf.TheConstants.{R_RISCV_32, R_RISCV_32_PCREL, R_RISCV_64, R_RISCV_ADD32, R_RISCV_ADD64, R_RISCV_BRANCH, R_RISCV_CALL, R_RISCV_CALL_PLT, R_RISCV_GOT_HI20, R_RISCV_JAL, R_RISCV_PCREL_HI20, R_RISCV_SUB32, R_RISCV_SUB64}
use Rattle.ad_elf.specs.declared.object.Object.{Object}
use Rattle.ad_elf.specs.declared.object.Rela.{Rela}
use Rattle.ad_elf.specs.Below.{first}
use Rattle.ad_parts.specs.declared.layout.Group.{Group}
use Rattle.ad_parts.specs.declared.layout.Group.TheVariants as group
use Rattle.ad_parts.specs.declared.layout.Layout.{Layout}
use Rattle.ad_parts.specs.declared.layout.Spot.{Spot}
use Rattle.ad_parts.specs.Symbols.{spot_of}
use Rattle.ad_tables.specs.declared.table_set.TableSet.{TableSet}
use Rattle.ad_tables.specs.Symbols.{is_movable}
use Rattle.ad_tables.specs.Tables.{in_movable, is_low, symbol_of}
use Rattle.ad_reloc.specs.declared.refusal.RelocRefusal.{RelocRefusal}
use Rattle.ad_reloc.specs.declared.refusal.RelocRefusal.TheVariants.{CrossPart, Misaligned, MovablePointer, NoHi, Range, Unlisted}
use Rattle.ad_reloc.specs.declared.row.Row.{Row}
use Rattle.ad_reloc.specs.Addresses.{field_offset, own_value}
use Rattle.ad_reloc.specs.Highs.{high_of}
use Rattle.ad_reloc.specs.Table.{row}

-- the symbol of an entry is in the movable part
abbrev pub moves : Object → Layout → Rela → Bool
moves o l r = option_map_or is_movable (symbol_of o l r) false

abbrev pub is_among : ℕ → List ℕ → Bool
is_among typ types = list_any (λ t. t == typ) types

-- The types that the distance to a part of its own must be known for: in the movable part of what moves with it, and in the
-- immovable part of what doesn't move. What is far away may be called, or loaded from a table.
abbrev pub is_near : ℕ → Bool
is_near typ = is_among typ (R_RISCV_BRANCH ∷ R_RISCV_JAL ∷ R_RISCV_PCREL_HI20 ∷ R_RISCV_32_PCREL ∷ [])

abbrev pub is_far : ℕ → Bool
is_far typ = is_among typ (R_RISCV_CALL ∷ R_RISCV_CALL_PLT ∷ R_RISCV_GOT_HI20 ∷ [])

unfoldable pub crosses : Object → Layout → Rela → Bool
crosses o l r = if in_movable l.spots r.target then is_near r.typ && not (moves o l r) else (is_near r.typ || is_far r.typ) && moves o l r

-- the section that an entry applies to is in the local area
abbrev pub is_local_group : Group → Bool
is_local_group group.Local = true
is_local_group other = false

abbrev pub in_local_area : Layout → Rela → Bool
in_local_area l r = option_map_or (λ (t : Spot). is_local_group t.group) (spot_of l.spots r.target) false

-- the second type takes away what the first adds
abbrev pub is_opposite : ℕ → ℕ → Bool
is_opposite a b = ((a == R_RISCV_ADD32) && (b == R_RISCV_SUB32)) || ((a == R_RISCV_ADD64) && (b == R_RISCV_SUB64))

-- The first entry adds an address of the movable part to a field, and the second takes one away from it, so that only a
-- distance is left.
unfoldable pub are_pair : Object → Layout → Rela → Rela → Bool
are_pair o l a b =
    (a.section == b.section) && (a.offset == b.offset) && is_opposite a.typ b.typ && moves o l a && moves o l b

-- entry k stands before another of such a pair, or behind one
abbrev pub before_one : Object → Layout → Rela → ℕ → Bool
before_one o l r k = option_map_or (λ next. are_pair o l r next) (slice_get o.relas (k + 1)) false

abbrev pub behind_one : Object → Layout → Rela → ℕ → Bool
behind_one o l r k = if k == 0 then false else option_map_or (λ last. are_pair o l last r) (slice_get o.relas (k - 1)) false

-- Entry k leaves an address of the movable part in memory: in four bytes, in eight bytes outside the local area, or as a sum
-- or a difference alone.
unfoldable pub leaves_pointer : Object → Layout → Rela → ℕ → Bool
leaves_pointer o l r k =
    moves o l r
    && ((r.typ == R_RISCV_32) || ((r.typ == R_RISCV_64) && not (in_local_area l r))
    || (is_among r.typ (R_RISCV_ADD32 ∷ R_RISCV_ADD64 ∷ []) && not (before_one o l r k))
    || (is_among r.typ (R_RISCV_SUB32 ∷ R_RISCV_SUB64 ∷ []) && not (behind_one o l r k)))

-- a value of this type is outside the type's range
unfoldable pub is_out_of_range : ℕ → ℤ → Bool
is_out_of_range typ v =
    option_map_or (λ (w : Row). option_map_or (λ (b : ℤ × ℤ). int_lt v b.0 || int_le b.1 v) w.range false) (row typ) false

abbrev pub is_even : ℤ → Bool
is_even v = unsigned_abs v % 2 == 0

-- a branch or jump to the middle of two bytes, or a pointer that isn't one word of the local area
unfoldable pub is_misaligned : Object → Layout → Rela → ℤ → Bool
is_misaligned o l r v =
    (is_among r.typ (R_RISCV_BRANCH ∷ R_RISCV_JAL ∷ []) && not (is_even v))
    || ((r.typ == R_RISCV_64) && moves o l r && not (field_offset l r % WORD_BYTES == 0))

-- the value of an entry: its own, or that of its high entry
unfoldable pub value_of : Object → Layout → TableSet → Place → Rela → ℤ
value_of o l t fixed r = if is_low r.typ then option_map_or (own_value o l t fixed) (high_of o r) (pos 0) else own_value o l t fixed r

-- Why the value of an entry can't be had, told with the numbers of the entry that asks for it: it crosses from part to part,
-- or is out of range.
unfoldable pub value_row : Object → Layout → TableSet → Place → Rela → Rela → Option RelocRefusal
value_row o l t fixed asks r =
    if crosses o l r then Some (CrossPart asks.section asks.entry)
    else (if is_out_of_range r.typ (own_value o l t fixed r) then Some (Range asks.section asks.entry (own_value o l t fixed r)) else None)

-- Why a low entry is refused: it has no high entry, or that has no value.
abbrev pub low_row : Object → Layout → TableSet → Place → Rela → Option RelocRefusal
low_row o l t fixed r = option_map_or (value_row o l t fixed r) (high_of o r) (Some (NoHi r.section r.entry))

-- Why another entry is refused, in this order: from part to part, a pointer that moves, out of range, misaligned.
unfoldable pub plain_row : Object → Layout → TableSet → Place → Rela → ℕ → Option RelocRefusal
plain_row o l t fixed r k =
    if crosses o l r then Some (CrossPart r.section r.entry)
    else (if leaves_pointer o l r k then Some (MovablePointer r.section r.entry)
    else (if is_out_of_range r.typ (own_value o l t fixed r) then Some (Range r.section r.entry (own_value o l t fixed r))
    else (if is_misaligned o l r (own_value o l t fixed r) then Some (Misaligned r.section r.entry) else None)))

-- why entry k is refused
unfoldable pub row_of : Object → Layout → TableSet → Place → Rela → ℕ → Option RelocRefusal
row_of o l t fixed r k =
    if is_none (row r.typ) then Some (Unlisted r.typ) else (if is_low r.typ then low_row o l t fixed r else plain_row o l t fixed r k)

abbrev pub entry_row : Object → Layout → TableSet → Place → ℕ → Option RelocRefusal
entry_row o l t fixed k = option_and_then (λ r. row_of o l t fixed r k) (slice_get o.relas k)

-- the first entry that has a row is the refusal
abbrev pub first_row : Object → Layout → TableSet → Place → Option RelocRefusal
first_row o l t fixed = option_and_then (entry_row o l t fixed) (first (λ k. is_some (entry_row o l t fixed k)) (length o.relas))

unfoldable pub IsRefused : Object → Layout → TableSet → Place → RelocRefusal → Type 0
IsRefused o l t fixed r = first_row o l t fixed ≡ Some r
