-- Where symbols, fields, words and stubs are. The movable part may lie anywhere, so its addresses count from its start; the
-- immovable part lies at its place.
use Rattle.std.specs.Prelude.{ℕ, ◌+◌, ◌-◌, ◌*◌, ◌/◌, ◌==◌, ◌&&◌, Bool, true, false, ℤ, pos, ◌+ℤ◌, ◌-ℤ◌, List, length, Option, slice_index, unwrap_or, if◌then◌else◌}
use Rattle.std.specs.Option.{option_map_or}
use Rattle.ad_base.specs.declared.layout.TheConstants.{FIRST_SERVICE, PAGE_BYTES, SERVICE_BYTES, WORD_BYTES}
use Rattle.ad_base.specs.declared.place.Place.{Place}
use Rattle.ad_base.specs.Place.{base_of}
use Rattle.ad_elf.specs.Below.{first}
use Rattle.ad_elf.specs.declared.object.Object.{Object}
use Rattle.ad_elf.specs.declared.object.Rela.{Rela}
use Rattle.ad_parts.specs.Area.{area_in}
use Rattle.ad_parts.specs.declared.layout.Group.TheVariants as group
use Rattle.ad_parts.specs.declared.layout.Layout.{Layout}
use Rattle.ad_parts.specs.declared.layout.Sizes.{Sizes}
use Rattle.ad_parts.specs.Layout.{area_from}
use Rattle.ad_parts.specs.Symbols.{spot_of}
use Rattle.ad_tables.specs.declared.resolved.Resolved.{Resolved}
use Rattle.ad_tables.specs.declared.resolved.Resolved.TheVariants.{Immovable, Import, Movable, Number}
use Rattle.ad_tables.specs.declared.table_set.TableSet.{TableSet}
use Rattle.ad_tables.specs.Tables.{in_movable, is_call, is_fixed, is_local, need_of, symbol_of}
use Rattle.ad_reloc.specs.declared.row.Formula.{Formula}
use Rattle.ad_reloc.specs.declared.row.Formula.TheVariants as formula
use Rattle.ad_reloc.specs.declared.row.Row.{Row}
use Rattle.ad_reloc.specs.declared.words.TheConstants.{STUB_BYTES}
use Rattle.ad_reloc.specs.Table.{row}

-- the address of a part's first byte
abbrev pub part_base : Place → Bool → ℕ
part_base fixed true = 0
part_base fixed false = base_of fixed

-- The bytes of its part at which the stubs begin, and the fixed table.
abbrev pub stubs_from : Sizes → Bool → ℕ
stubs_from z true = z.text_pages * PAGE_BYTES
stubs_from z false = z.fixed_text_pages * PAGE_BYTES

abbrev pub table_from : Sizes → Bool → ℕ
table_from z true = area_from z (area_in true group.ReadOnly) + z.read_pages * PAGE_BYTES
table_from z false = area_from z (area_in false group.ReadOnly) + z.fixed_read_pages * PAGE_BYTES

-- the words that so many bytes take
abbrev pub words_of : ℕ → ℕ
words_of bytes = (bytes + (WORD_BYTES - 1)) / WORD_BYTES

-- where the words behind its sections begin in the local area, and the offsets in its part of word e of the local area behind its sections, of word e of the fixed table, and of stub e
abbrev pub local_from : Sizes → ℕ
local_from z = area_from z (area_in true group.Local) + WORD_BYTES * words_of z.local_bytes

abbrev pub local_word : Layout → ℕ → ℕ
local_word l e = local_from l.sizes + WORD_BYTES * e

abbrev pub table_word : Layout → Bool → ℕ → ℕ
table_word l movable e = table_from l.sizes movable + WORD_BYTES * e

abbrev pub stub : Layout → Bool → ℕ → ℕ
stub l movable e = stubs_from l.sizes movable + STUB_BYTES * e

-- the address of what a symbol stands for
abbrev pub address_of : Place → Resolved → ℕ
address_of fixed (Movable offset) = offset
address_of fixed (Immovable offset) = base_of fixed + offset
address_of fixed (Import service) = FIRST_SERVICE + SERVICE_BYTES * service
address_of fixed (Number value) = value

-- where a symbol is in a list
abbrev pub place_in : List ℕ → ℕ → Option ℕ
place_in list symbol = first (λ e. slice_index list e == symbol) (length list)

abbrev pub entry_in : List ℕ → ℕ → ℕ
entry_in list symbol = unwrap_or (place_in list symbol) 0

-- where the field of an entry is in its part
unfoldable pub field_offset : Layout → Rela → ℕ
field_offset l r = option_map_or (λ t. t.offset + r.offset) (spot_of l.spots r.target) 0

-- What a relocation speaks of: the address of its symbol, which for a call that needs a word of the table is that of the
-- stub; the address of the symbol's word; and that of the field (the S, G and P of the standard).
unfoldable pub symbol_address : Object → Layout → TableSet → Place → Rela → ℕ
symbol_address o l t fixed r =
    let movable = in_movable l.spots r.target in
    if is_call r.typ && is_fixed (need_of o l r) then part_base fixed movable + stub l movable (entry_in t.fixed r.symbol)
    else option_map_or (address_of fixed) (symbol_of o l r) 0

unfoldable pub word_address : Object → Layout → TableSet → Place → Rela → ℕ
word_address o l t fixed r =
    let movable = in_movable l.spots r.target in
    if is_local (need_of o l r) then local_word l (entry_in t.local r.symbol) else part_base fixed movable + table_word l movable (entry_in t.fixed r.symbol)

unfoldable pub field_address : Layout → Place → Rela → ℕ
field_address l fixed r = part_base fixed (in_movable l.spots r.target) + field_offset l r

-- The value that a row computes of these addresses and an addend, but for the number that the field has. That of another
-- entry isn't computed here.
abbrev pub computed : Formula → ℕ → ℕ → ℕ → ℤ → ℤ
computed formula.Address s g p a = pos s +ℤ a
computed formula.Distance s g p a = pos s +ℤ a -ℤ pos p
computed formula.EntryDistance s g p a = pos g +ℤ a -ℤ pos p
computed formula.OfHigh s g p a = pos 0
computed formula.Sum s g p a = pos s +ℤ a
computed formula.Difference s g p a = pos s +ℤ a

-- the value of an entry by itself
unfoldable pub own_value : Object → Layout → TableSet → Place → Rela → ℤ
own_value o l t fixed r =
    option_map_or (λ (w : Row). computed w.formula (symbol_address o l t fixed r) (word_address o l t fixed r) (field_address l fixed r) r.addend) (row r.typ) (pos 0)
