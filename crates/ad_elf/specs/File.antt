-- What the bytes of an object file say of sections, symbols and relocations.
use Rattle.std.specs.Prelude.{◌≡◌, ℕ, ◌+◌, ◌/◌, ◌%◌, ◌^◌, ◌==◌, ◌||◌, ◌&&◌, Bool, not, nat_eq, nat_le, List, [], ◌∷◌, take, drop, codes, bit_and, is_none, if◌then◌else◌, unwrap_or, Option, Some, None, option_and_then}
use Rattle.std.specs.List.{before_first, list_any, starts_with}
use Rattle.ad_elf.specs.declared.elf.TheConstants.{NAME_BYTES, RELA_BYTES, SHF_ALLOC, SHT_NOBITS, SHT_NULL, SHT_PROGBITS, SHT_RELA, SHT_SYMTAB, SYMBOL_BYTES}
use Rattle.ad_elf.specs.declared.file.SectionHeader.{SectionHeader}
use Rattle.ad_elf.specs.declared.object.Object.{Object}
use Rattle.ad_elf.specs.declared.object.Rela.{Rela}
use Rattle.ad_elf.specs.declared.object.Section.{Section}
use Rattle.ad_elf.specs.declared.object.Symbol.{Symbol}
use Rattle.ad_elf.specs.Below.{each, first, joined}
use Rattle.ad_elf.specs.Fields.{header, names_number, rela_entry, section_count, symbol_entry}

-- the flags have this one
abbrev pub has_flag : ℕ → ℕ → Bool
has_flag flags flag = not (bit_and flags flag == 0)

-- the section has bytes in the file
abbrev pub is_stored : SectionHeader → Bool
is_stored h = not (h.typ == SHT_NULL) && not (h.typ == SHT_NOBITS)

-- the bytes of a section in the file
unfoldable pub content : List ℕ → SectionHeader → List ℕ
content file h = if is_stored h then take h.size (drop h.offset file) else []

-- A string begins at a place among strings and ends with a zero byte (gABI, "String Table").
abbrev pub is_zero : ℕ → Bool
is_zero byte = byte == 0

unfoldable pub string_at : List ℕ → ℕ → List ℕ
string_at strings at = before_first is_zero (drop at strings)

-- It does end, and has at most so many bytes as a name may have: one of the next bytes is a zero byte.
unfoldable pub has_string : List ℕ → ℕ → Bool
has_string strings at = list_any is_zero (take (NAME_BYTES + 1) (drop at strings))

-- the names of the sections
abbrev pub section_names : List ℕ → List ℕ
section_names file = content file (header file (names_number file))

-- the section's name begins with `.eh_frame`
unfoldable pub is_frame : List ℕ → SectionHeader → Bool
is_frame names h = starts_with nat_eq (drop h.name names) (codes ".eh_frame")

-- The section is kept: it is loaded, is of the program or of zeros, and doesn't have such a name.
unfoldable pub is_part : List ℕ → SectionHeader → Bool
is_part names h = has_flag h.flags SHF_ALLOC && ((h.typ == SHT_PROGBITS) || (h.typ == SHT_NOBITS)) && not (is_frame names h)

abbrev pub is_kept : List ℕ → ℕ → Bool
is_kept file i = is_part (section_names file) (header file i)

-- what an object says of section i
unfoldable pub section : List ℕ → ℕ → Section
section file i =
    let h = header file i in
    record { index = i; name = string_at (section_names file) h.name; typ = h.typ; flags = h.flags; size = h.size; align = h.align; bytes = content file h }

-- the sections that are kept, in the order of the file
abbrev pub kept_section : List ℕ → ℕ → List Section
kept_section file i = if is_kept file i then section file i ∷ [] else []

abbrev pub sections : List ℕ → List Section
sections file = joined (kept_section file) (section_count file)

-- the first table of symbols from a section on
abbrev pub table_from : List ℕ → ℕ → Option ℕ
table_from file from = first (λ i. nat_le from i && ((header file i).typ == SHT_SYMTAB)) (section_count file)

-- the first table of symbols, where none comes after it
unfoldable pub one_table : List ℕ → Option ℕ
one_table file = option_and_then (λ k. if is_none (table_from file (k + 1)) then Some k else None) (table_from file 0)

-- the number of the table of symbols, its header, how many symbols it has, and their names
unfoldable pub table_number : List ℕ → ℕ
table_number file = unwrap_or (one_table file) 0

abbrev pub table : List ℕ → SectionHeader
table file = header file (table_number file)

abbrev pub symbol_count : List ℕ → ℕ
symbol_count file = (table file).size / SYMBOL_BYTES

abbrev pub symbol_names : List ℕ → List ℕ
symbol_names file = content file (header file (table file).link)

-- what an object says of symbol j
unfoldable pub symbol : List ℕ → ℕ → Symbol
symbol file j =
    let e = symbol_entry file (table file) j in
    record { name = string_at (symbol_names file) e.name; bind = e.info / 16; kind = e.info % 16; shndx = e.shndx; value = e.value; size = e.size }

-- all symbols, in the order of their table
abbrev pub symbols : List ℕ → List Symbol
symbols file = each (symbol file) (symbol_count file)

-- The section has relocations, and the section that it applies to is kept.
unfoldable pub has_kept_relas : List ℕ → SectionHeader → Bool
has_kept_relas file h = (h.typ == SHT_RELA) && is_kept file h.info

-- what an object says of entry j of section i
unfoldable pub rela : List ℕ → ℕ → ℕ → Rela
rela file i j =
    let h = header file i in
    let e = rela_entry file h j in
    record { section = i; entry = j; target = h.info; offset = e.offset; symbol = e.info / 2 ^ 32; typ = e.info % 2 ^ 32; addend = e.addend }

-- the relocations of section i, and those of all sections whose relocations are kept, in the order of the file
unfoldable pub relas_of : List ℕ → ℕ → List Rela
relas_of file i = each (rela file i) ((header file i).size / RELA_BYTES)

abbrev pub kept_relas : List ℕ → ℕ → List Rela
kept_relas file i = if has_kept_relas file (header file i) then relas_of file i else []

abbrev pub relas : List ℕ → List Rela
relas file = joined (kept_relas file) (section_count file)

-- The object has exactly these sections, symbols and relocations.
pub record Says (file : List ℕ) (o : Object) : Type 0 where
  pub sections_said : o.sections ≡ sections file
  pub symbols_said : o.symbols ≡ symbols file
  pub relas_said : o.relas ≡ relas file
