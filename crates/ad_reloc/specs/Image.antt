-- The image of an object: its sections where they go, with its relocations applied in their order.
use Rattle.std.specs.Prelude.{◌≡◌, ℕ, ◌+◌, ◌-◌, ◌*◌, ◌/◌, ◌%◌, ◌^◌, ◌==◌, ◌&&◌, nat_lt, Bool, true, false, not, pos, ◌+ℤ◌, List, [], ◌∷◌, ◌++◌, drop, find, fold, length, map, reverse, slice_index, take, unsigned_abs, zip, Option, None, Some, if◌then◌else◌}
use Rattle.std.specs.Int.{int_rem_euclid}
use Rattle.std.specs.List.{flat_map}
use Rattle.std.specs.Option.{option_map_or}
use Rattle.byteorder.specs.Endian.{little_bytes}
use Rattle.ad_base.specs.declared.image.Cell.{Cell}
use Rattle.ad_base.specs.declared.image.Cell.TheVariants.{Num, Off}
use Rattle.ad_base.specs.declared.image.Image.{Image}
use Rattle.ad_base.specs.declared.layout.TheConstants.{WORD_BYTES}
use Rattle.ad_base.specs.declared.place.Place.{Place}
use Rattle.ad_base.specs.Image.{zeros}
use Rattle.ad_elf.specs.declared.elf.TheConstants.{R_RISCV_64}
use Rattle.ad_elf.specs.declared.object.Object.{Object}
use Rattle.ad_elf.specs.declared.object.Rela.{Rela}
use Rattle.ad_elf.specs.declared.object.Section.{Section}
use Rattle.ad_elf.specs.Below.{each, joined}
use Rattle.ad_parts.specs.Area.{area_in}
use Rattle.ad_parts.specs.declared.layout.Group.TheVariants as group
use Rattle.ad_parts.specs.declared.layout.Layout.{Layout}
use Rattle.ad_parts.specs.declared.layout.Spot.{Spot}
use Rattle.ad_parts.specs.Layout.{area_from, area_to}
use Rattle.ad_tables.specs.declared.resolved.Resolved.{Resolved}
use Rattle.ad_tables.specs.declared.resolved.Resolved.TheVariants.{Movable}
use Rattle.ad_tables.specs.declared.table_set.TableSet.{TableSet}
use Rattle.ad_tables.specs.Symbols.{resolved}
use Rattle.ad_tables.specs.Tables.{in_movable, section_words, symbol_of}
use Rattle.ad_reloc.specs.declared.row.Row.{Row}
use Rattle.ad_reloc.specs.Addresses.{address_of, field_offset, stub, stubs_from, table_from, table_word}
use Rattle.ad_reloc.specs.Refusals.{first_row, in_local_area, moves, value_of}
use Rattle.ad_reloc.specs.Relocated.{IsSet, number_at}
use Rattle.ad_reloc.specs.Table.{row}

-- the bytes of both parts, each from its first to its last
pub record Parts : Type 0 where
  pub movable : List ℕ
  pub fixed : List ℕ

abbrev pub part_of : Parts → Bool → List ℕ
part_of p true = p.movable
part_of p false = p.fixed

-- The bytes of a part before any relocation: those of its sections where they go, and zeros everywhere else.
abbrev pub with_bytes : ℕ → List ℕ → List ℕ → List ℕ
with_bytes at bytes part = take at part ++ bytes ++ drop (at + length bytes) part

abbrev pub is_in : Bool → Spot → Bool
is_in true t = t.movable
is_in false t = not t.movable

abbrev pub with_section : Bool → List ℕ → (Section × Spot) → List ℕ
with_section movable part s = if is_in movable s.1 then with_bytes s.1.offset s.0.bytes part else part

unfoldable pub laid_out : Object → Layout → Bool → List ℕ
laid_out o l movable = fold (with_section movable) (zeros (area_to l.sizes (area_in movable group.Writable))) (zip o.sections l.spots)

abbrev pub laid_parts : Object → Layout → Parts
laid_parts o l = record { movable = laid_out o l true; fixed = laid_out o l false }

-- An entry that points from the local area to the movable part makes a word of each mapping's own, and changes no byte.
abbrev pub makes_word : Object → Layout → Rela → Bool
makes_word o l r = (r.typ == R_RISCV_64) && (moves o l r && in_local_area l r)

-- What an entry makes of the bytes of its part: its field spells its value, and no other byte changes.
pub record AppliesIn (o : Object) (l : Layout) (t : TableSet) (fixed : Place) (r : Rela) (before after : List ℕ) : Type 0 where
  pub no_byte : makes_word o l r ≡ true → after ≡ before
  pub field : makes_word o l r ≡ false → (w : Row) × (row r.typ ≡ Some w) × IsSet w (value_of o l t fixed r) (field_offset l r) before after

-- What an entry makes of the parts. The part that it doesn't apply to stays as it is.
pub record Applies (o : Object) (l : Layout) (t : TableSet) (fixed : Place) (r : Rela) (before after : Parts) : Type 0 where
  pub part : AppliesIn o l t fixed r (part_of before (in_movable l.spots r.target)) (part_of after (in_movable l.spots r.target))
  pub other_part : part_of after (not (in_movable l.spots r.target)) ≡ part_of before (not (in_movable l.spots r.target))

-- entries that are applied one behind the other
unfoldable pub AreApplied : Object → Layout → TableSet → Place → List Rela → Parts → Parts → Type 0
AreApplied o l t fixed [] before after = before ≡ after
AreApplied o l t fixed (r ∷ rs) before after = (next : Parts) × Applies o l t fixed r before next × AreApplied o l t fixed rs next after

-- The words of the local area: those that entries point from, of which the last counts, those of its sections, and those of
-- the symbols that need one.
abbrev pub movable_offset : Resolved → ℕ
movable_offset (Movable offset) = offset
movable_offset other = 0

abbrev pub offset_of : Option Resolved → ℕ
offset_of s = option_map_or movable_offset s 0

abbrev pub local_at : Layout → ℕ → ℕ
local_at l k = area_from l.sizes (area_in true group.Local) + WORD_BYTES * k

abbrev pub points_to : Object → Layout → ℕ → Rela → Bool
points_to o l k r = makes_word o l r && (field_offset l r == local_at l k)

abbrev pub pointed : Object → Layout → Rela → Cell
pointed o l r = Off (unsigned_abs (int_rem_euclid (pos (offset_of (symbol_of o l r)) +ℤ r.addend) (pos (2 ^ 64))))

abbrev pub other_cell : Object → Layout → TableSet → List ℕ → ℕ → Cell
other_cell o l t movable k =
    if nat_lt k (section_words l) then Num (number_at WORD_BYTES (local_at l k) movable)
    else Off (offset_of (resolved l.spots o.symbols (slice_index t.local (k - section_words l))))

unfoldable pub cell_at : Object → Layout → TableSet → List ℕ → List Rela → ℕ → Cell
cell_at o l t movable rs k = option_map_or (pointed o l) (find (points_to o l k) (reverse rs)) (other_cell o l t movable k)

abbrev pub cells : Object → Layout → TableSet → List ℕ → List Cell
cells o l t movable = each (cell_at o l t movable o.relas) (section_words l + length t.local)

-- the words of the fixed table: the addresses of what its symbols stand for
abbrev pub word_of : Object → Layout → Place → ℕ → ℕ
word_of o l fixed symbol = option_map_or (address_of fixed) (resolved l.spots o.symbols symbol) 0

abbrev pub table : Object → Layout → TableSet → Place → List ℕ
table o l t fixed = map (word_of o l fixed) t.fixed

-- Stub e of a part: it loads word e of the table, which is so many bytes ahead, into register 28, and jumps there
-- (unprivileged ISA, "RV64I": AUIPC, LD, JALR, and ADDI that does nothing).
abbrev pub stub_words : ℕ → List ℕ
stub_words ahead = (0xe17 + (ahead + 0x800) / 2 ^ 12 * 2 ^ 12) ∷ (0xe3e03 + ahead % 2 ^ 12 * 2 ^ 20) ∷ 0xe0067 ∷ 0x13 ∷ []

abbrev pub stub_bytes : Layout → Bool → ℕ → List ℕ
stub_bytes l movable e = flat_map (little_bytes 4) (stub_words (table_word l movable e - stub l movable e))

unfoldable pub stubs : Layout → Bool → ℕ → List ℕ
stubs l movable n = joined (stub_bytes l movable) n

abbrev pub with_stubs : Layout → TableSet → Bool → List ℕ → List ℕ
with_stubs l t movable part = with_bytes (stubs_from l.sizes movable) (stubs l movable (length t.fixed)) part

-- The image of parts to which the entries were applied: the text, the stubs and the read-only data of each, the words of the
-- local area and of the fixed table, and the writable data of each.
abbrev pub code_of : Layout → TableSet → Bool → List ℕ → List ℕ
code_of l t movable part = with_stubs l t movable (take (table_from l.sizes movable) part)

abbrev pub data_of : Layout → Bool → List ℕ → List ℕ
data_of l movable part = drop (area_from l.sizes (area_in movable group.Writable)) part

unfoldable pub image_of : Object → Layout → TableSet → Place → Parts → Image
image_of o l t fixed p = record {
  text_pages = l.sizes.text_pages;
  read_pages = l.sizes.read_pages;
  data_pages = l.sizes.data_pages;
  code = code_of l t true p.movable;
  cells = cells o l t p.movable;
  writable = data_of l true p.movable;
  table = table o l t fixed;
  fixed_text_pages = l.sizes.fixed_text_pages;
  fixed_read_pages = l.sizes.fixed_read_pages;
  fixed_data_pages = l.sizes.fixed_data_pages;
  fixed_code = code_of l t false p.fixed;
  fixed_data = data_of l false p.fixed;
  fixed = fixed;
  exports = l.exports;
}

-- This is the image of the object: no entry is refused, and all are applied to its sections, in their order.
pub record IsImage (o : Object) (l : Layout) (t : TableSet) (fixed : Place) (i : Image) : Type 0 where
  pub no_row : first_row o l t fixed ≡ None
  pub parts : Parts
  pub applied : AreApplied o l t fixed o.relas (laid_parts o l) parts
  pub made : i ≡ image_of o l t fixed parts
