-- The words of the local area and of the fixed table that relocations need, and why an object may have none.
use Rattle.std.specs.Prelude.{◌≡◌, ℕ, ◌+◌, ◌-◌, ◌/◌, ◌==◌, ◌&&◌, ◌||◌, not, nat_lt, Bool, true, false, List, [], ◌∷◌, take, filter, map, length, Option, Some, None, option_and_then, is_none, is_some, if◌then◌else◌}
use Rattle.std.specs.List.{slice_get}
use Rattle.std.specs.Option.{option_map_or, option_or}
use Rattle.ad_base.specs.declared.layout.TheConstants.{LOCAL_WORDS, TABLE_WORDS, WORD_BYTES}
use Rattle.ad_elf.specs.declared.elf.TheConstants.{R_RISCV_CALL, R_RISCV_CALL_PLT, R_RISCV_GOT_HI20, R_RISCV_PCREL_LO12_I, R_RISCV_PCREL_LO12_S}
use Rattle.ad_elf.specs.declared.object.Object.{Object}
use Rattle.ad_elf.specs.declared.object.Rela.{Rela}
use Rattle.ad_elf.specs.declared.object.Symbol.{Symbol}
use Rattle.ad_elf.specs.Below.{first}
use Rattle.ad_elf.specs.Relocation.{width}
use Rattle.ad_parts.specs.declared.layout.Layout.{Layout}
use Rattle.ad_parts.specs.declared.layout.Spot.{Spot}
use Rattle.ad_parts.specs.Symbols.{spot_of}
use Rattle.ad_tables.specs.declared.need.Need.{Need}
use Rattle.ad_tables.specs.declared.need.Need.TheVariants.{Fixed, Local, Nothing}
use Rattle.ad_tables.specs.declared.refusal.TableRefusal.{TableRefusal}
use Rattle.ad_tables.specs.declared.refusal.TableRefusal.TheVariants.{FixedFull, LocalFull, Unresolved}
use Rattle.ad_tables.specs.declared.resolved.Resolved.{Resolved}
use Rattle.ad_tables.specs.declared.resolved.Resolved.TheVariants.{Immovable, Import, Movable, Number}
use Rattle.ad_tables.specs.declared.table_set.TableSet.{TableSet}
use Rattle.ad_tables.specs.Symbols.{resolved}

-- The types of calls, those whose value is another entry's, and those that are looked at here: they have a field, and the
-- value that it gets is their own symbol's (RISC-V ELF psABI, "Relocations").
abbrev pub is_call : ℕ → Bool
is_call typ = (typ == R_RISCV_CALL) || (typ == R_RISCV_CALL_PLT)

abbrev pub is_low : ℕ → Bool
is_low typ = (typ == R_RISCV_PCREL_LO12_I) || (typ == R_RISCV_PCREL_LO12_S)

unfoldable pub uses_symbol : ℕ → Bool
uses_symbol typ = not (width typ == 0) && not (is_low typ)

-- Whose word an entry in one of the parts needs, by its type: the address of a symbol is loaded from a word of the local area
-- where it moves with the code, and else from the fixed table. A call needs the table where it can't reach the symbol.
unfoldable pub need : Bool → ℕ → Resolved → Need
need in_movable typ (Movable offset) = if in_movable && (typ == R_RISCV_GOT_HI20) then Local else Nothing
need in_movable typ (Immovable offset) = if (typ == R_RISCV_GOT_HI20) || (in_movable && is_call typ) then Fixed else Nothing
need in_movable typ (Import service) = if (typ == R_RISCV_GOT_HI20) || is_call typ then Fixed else Nothing
need in_movable typ (Number value) = if (typ == R_RISCV_GOT_HI20) || is_call typ then Fixed else Nothing

-- the section of this number is in the movable part
abbrev pub in_movable : List Spot → ℕ → Bool
in_movable spots section = option_map_or (λ (t : Spot). t.movable) (spot_of spots section) false

-- what the symbol of an entry stands for, and what the entry needs
abbrev pub symbol_of : Object → Layout → Rela → Option Resolved
symbol_of o l r = resolved l.spots o.symbols r.symbol

unfoldable pub need_of : Object → Layout → Rela → Need
need_of o l r = option_map_or (need (in_movable l.spots r.target) r.typ) (symbol_of o l r) Nothing

abbrev pub is_local : Need → Bool
is_local Local = true
is_local other = false

abbrev pub is_fixed : Need → Bool
is_fixed Fixed = true
is_fixed other = false

-- the items in order, each where it comes first
unfoldable pub without_repeats : List ℕ → List ℕ
without_repeats [] = []
without_repeats (x ∷ xs) = x ∷ filter (λ y. not (y == x)) (without_repeats xs)

-- The symbols that these entries need a word for, in order of first use, each once: of the local area, and of the table.
abbrev pub needing : (Need → Bool) → Object → Layout → List Rela → List Rela
needing test o l rs = filter (λ r. test (need_of o l r)) rs

abbrev pub symbols_needing : (Need → Bool) → Object → Layout → List Rela → List ℕ
symbols_needing test o l rs = without_repeats (map (λ (r : Rela). r.symbol) (needing test o l rs))

abbrev pub local_symbols : Object → Layout → List Rela → List ℕ
local_symbols = symbols_needing is_local

abbrev pub fixed_symbols : Object → Layout → List Rela → List ℕ
fixed_symbols = symbols_needing is_fixed

-- the words of the local area that its sections take, up to the next multiple of a word
abbrev pub section_words : Layout → ℕ
section_words l = (l.sizes.local_bytes + (WORD_BYTES - 1)) / WORD_BYTES

-- Why words for these symbols can't be had behind so many words of sections: the local area or the table is too long.
abbrev pub too_long : ℕ → List ℕ → List ℕ → Option TableRefusal
too_long words local fixed =
    if nat_lt LOCAL_WORDS (words + length local) then Some LocalFull else (if nat_lt TABLE_WORDS (length fixed) then Some FixedFull else None)

-- why an entry has no value: its symbol is unresolved
abbrev pub name_of_symbol : List Symbol → ℕ → List ℕ
name_of_symbol ys j = option_map_or (λ (y : Symbol). y.name) (slice_get ys j) []

unfoldable pub unresolved_row : Object → Layout → Rela → Option TableRefusal
unresolved_row o l r =
    if uses_symbol r.typ && is_none (symbol_of o l r) then Some (Unresolved (name_of_symbol o.symbols r.symbol)) else None

-- Why entry k is refused: its symbol is unresolved, or the words that are needed up to it are too many.
abbrev pub row_upto : Object → Layout → List Rela → Option TableRefusal
row_upto o l rs = too_long (section_words l) (local_symbols o l rs) (fixed_symbols o l rs)

abbrev pub entry_row : Object → Layout → ℕ → Option TableRefusal
entry_row o l k = option_or (option_and_then (unresolved_row o l) (slice_get o.relas k)) (row_upto o l (take (k + 1) o.relas))

-- The first row that holds: the sections alone are too long, or it is that of the first entry that has one.
abbrev pub first_row : Object → Layout → Option TableRefusal
first_row o l =
    if nat_lt LOCAL_WORDS (section_words l) then Some LocalFull
    else option_and_then (entry_row o l) (first (λ k. is_some (entry_row o l k)) (length o.relas))

-- The object has no tables, for this reason.
unfoldable pub IsRefused : Object → Layout → TableRefusal → Type 0
IsRefused o l r = first_row o l ≡ Some r

-- These are the tables of the object.
pub record AreTables (o : Object) (l : Layout) (t : TableSet) : Type 0 where
  pub no_row : first_row o l ≡ None
  pub local_found : t.local ≡ local_symbols o l o.relas
  pub fixed_found : t.fixed ≡ fixed_symbols o l o.relas
