-- The table of refusals: what a file is refused for, in the order in which it is looked at.
use Rattle.std.specs.Prelude.{◌≡◌, ℕ, ◌+◌, ◌*◌, ◌/◌, ◌%◌, ◌==◌, ◌||◌, ◌&&◌, Bool, not, nat_eq, nat_lt, nat_le, List, [], ◌∷◌, ◌++◌, length, slice_index, is_none, is_some, Option, Some, None, find, if◌then◌else◌}
use Rattle.std.specs.Option.{option_map, option_or}
use Rattle.std.specs.List.{starts_with}
use Rattle.ad_elf.specs.declared.elf.TheConstants.{EF_RISCV_TSO, ELFCLASS64, ELFDATA2LSB, EM_RISCV, ET_REL, EV_CURRENT, FILE_HEADER_BYTES, MAGIC, RELA_BYTES, SECTION_HEADER_BYTES, SHF_ALLOC, SHF_COMPRESSED, SHF_TLS, SHN_ABS, SHN_LORESERVE, SHN_UNDEF, SHT_NOBITS, SHT_NOTE, SHT_PROGBITS, SHT_REL, SHT_RELA, SHT_STRTAB, SYMBOL_BYTES, ZERO_BYTES}
use Rattle.ad_elf.specs.declared.file.SectionHeader.{SectionHeader}
use Rattle.ad_elf.specs.declared.file.SymbolEntry.{SymbolEntry}
use Rattle.ad_elf.specs.declared.object.Object.{Object}
use Rattle.ad_elf.specs.declared.object.Rela.{Rela}
use Rattle.ad_elf.specs.declared.refusal.ElfRefusal.{ElfRefusal}
use Rattle.ad_elf.specs.declared.refusal.ElfRefusal.TheVariants.{Class, Flags, Machine, Magic, NotRelocatable, RelaOffset, RelaSymbol, RelaTarget, SectionBounds, SectionTable, SectionType, Short, StringIndex, SymbolSection, SymbolTable}
use Rattle.ad_elf.specs.Below.{first, total}
use Rattle.ad_elf.specs.Fields.{file_flags, file_type, header, header_size, machine, names_number, section_count, symbol_entry, table_at}
use Rattle.ad_elf.specs.File.{Says, has_flag, has_string, is_kept, is_stored, one_table, relas, section_names, symbol_count, symbol_names, table, table_number}
use Rattle.ad_elf.specs.Relocation.{width}

-- The section of this number is a section of strings.
abbrev pub are_strings : List ℕ → ℕ → Bool
are_strings file i = nat_lt i (section_count file) && ((header file i).typ == SHT_STRTAB)

-- the header of the file
abbrev pub is_short : List ℕ → Bool
is_short file = nat_lt (length file) FILE_HEADER_BYTES

abbrev pub lacks_magic : List ℕ → Bool
lacks_magic file = not (starts_with nat_eq file MAGIC) || not (slice_index file 6 == EV_CURRENT)

abbrev pub is_other_class : List ℕ → Bool
is_other_class file = not (slice_index file 4 == ELFCLASS64) || not (slice_index file 5 == ELFDATA2LSB)

abbrev pub has_other_flags : List ℕ → Bool
has_other_flags file = not (file_flags file == 0) && not (file_flags file == EF_RISCV_TSO)

-- The table of sections ends past the file's end, is empty or too long, or has headers of another size, or the section
-- of the names is none of strings.
unfoldable pub lacks_table : List ℕ → Bool
lacks_table file =
    not (header_size file == SECTION_HEADER_BYTES) || (section_count file == 0) || nat_le SHN_LORESERVE (section_count file)
    || nat_lt (length file) (table_at file + SECTION_HEADER_BYTES * section_count file) || not (are_strings file (names_number file))

-- the bytes that a section has in the file, and those of all sections before number i
abbrev pub stored_size : SectionHeader → ℕ
stored_size h = if is_stored h then h.size else 0

abbrev pub stored_before : List ℕ → ℕ → ℕ
stored_before file i = total (λ k. stored_size (header file k)) i

-- In a file of so many bytes, behind sections that have so many, this one ends past the file's end, or is longer than the
-- file together with them, or is too long a section of zeros.
abbrev pub is_too_long : ℕ → ℕ → SectionHeader → Bool
is_too_long bytes before h =
    (is_stored h && (nat_lt bytes (h.offset + h.size) || nat_lt bytes (before + h.size))) || ((h.typ == SHT_NOBITS) && nat_lt ZERO_BYTES h.size)

-- so it is with section i
unfoldable pub is_out_of_bounds : List ℕ → ℕ → Bool
is_out_of_bounds file i = is_too_long (length file) (stored_before file i) (header file i)

-- The section has relocations without addends, or it is loaded and of another type than these three, or loaded for each
-- thread, or compressed.
abbrev pub is_of_wrong_type : SectionHeader → Bool
is_of_wrong_type h =
    (h.typ == SHT_REL)
    || (has_flag h.flags SHF_ALLOC && (not ((h.typ == SHT_PROGBITS) || (h.typ == SHT_NOBITS) || (h.typ == SHT_NOTE)) || has_flag h.flags SHF_TLS || has_flag h.flags SHF_COMPRESSED))

-- The name of section i doesn't end among the names of the sections, or is too long.
abbrev pub is_unnamed : List ℕ → ℕ → Bool
is_unnamed file i = not (has_string (section_names file) (header file i).name)

-- The entries of a table of symbols have their size, there is a whole number of them, and their names are in a section
-- of strings.
abbrev pub has_form : List ℕ → SectionHeader → Bool
has_form file h = (h.entry_size == SYMBOL_BYTES) && (h.size % SYMBOL_BYTES == 0) && are_strings file h.link

-- the first symbol whose name doesn't end among these, or is too long
abbrev pub first_unnamed : List ℕ → List ℕ → SectionHeader → Option ℕ
first_unnamed file names h = first (λ j. not (has_string names (symbol_entry file h j).name)) (h.size / SYMBOL_BYTES)

-- the first symbol of the file's table whose name is none
abbrev pub unnamed_symbol : List ℕ → Option ℕ
unnamed_symbol file = first_unnamed file (symbol_names file) (table file)

-- There isn't one table of symbols, or it doesn't have its form, or one of its symbols has no name.
unfoldable pub lacks_symbols : List ℕ → Bool
lacks_symbols file = is_none (one_table file) || not (has_form file (table file)) || is_some (unnamed_symbol file)

-- The symbol names a section that isn't there, or a place past the end of its section.
unfoldable pub leaves_section : List ℕ → SymbolEntry → Bool
leaves_section file e =
    not (e.shndx == SHN_UNDEF) && not (e.shndx == SHN_ABS) && (nat_le (section_count file) e.shndx || nat_lt (header file e.shndx).size e.value)

-- so it is with symbol j, which isn't symbol 0
abbrev pub is_astray : List ℕ → ℕ → Bool
is_astray file j = not (j == 0) && leaves_section file (symbol_entry file (table file) j)

-- The section has relocations, and applies to no section, or has another table of symbols, or entries of another size,
-- or no whole number of them, or it is kept and applies to a section of zeros.
unfoldable pub is_misdirected : List ℕ → SectionHeader → Bool
is_misdirected file h =
    (h.typ == SHT_RELA)
    && ((h.info == 0) || nat_le (section_count file) h.info || not (h.link == table_number file) || not (h.entry_size == RELA_BYTES) || not (h.size % RELA_BYTES == 0)
    || (is_kept file h.info && ((header file h.info).typ == SHT_NOBITS)))

-- The relocation names no symbol, or its field ends past the section that it applies to.
abbrev pub names_no_symbol : List ℕ → Rela → Bool
names_no_symbol file r = nat_le (symbol_count file) r.symbol

abbrev pub ends_outside : List ℕ → Rela → Bool
ends_outside file r = nat_lt (header file r.target).size (r.offset + width r.typ)

-- a row that has no number, and one whose number is the first for which it holds
abbrev pub row : Bool → ElfRefusal → Option ElfRefusal
row test r = if test then Some r else None

abbrev pub row_at : Option ℕ → (ℕ → ElfRefusal) → Option ElfRefusal
row_at at r = option_map r at

abbrev pub row_on : Option Rela → (ℕ → ℕ → ElfRefusal) → Option ElfRefusal
row_on found r = option_map (λ (e : Rela). r e.section e.entry) found

-- the first row that holds
abbrev pub first_row : List (Option ElfRefusal) → Option ElfRefusal
first_row [] = None
first_row (r ∷ rs) = option_or r (first_row rs)

-- The rows on the header of the file and on its table of sections.
abbrev pub header_rows : List ℕ → List (Option ElfRefusal)
header_rows file =
    row (is_short file) Short
    ∷ row (lacks_magic file) Magic
    ∷ row (is_other_class file) Class
    ∷ row (not (machine file == EM_RISCV)) Machine
    ∷ row (not (file_type file == ET_REL)) NotRelocatable
    ∷ row (has_other_flags file) (Flags (file_flags file))
    ∷ row (lacks_table file) SectionTable
    ∷ []

-- The rows on the headers of the sections: where they are, of which type, and with which names.
abbrev pub section_rows : List ℕ → List (Option ElfRefusal)
section_rows file =
    row_at (first (is_out_of_bounds file) (section_count file)) SectionBounds
    ∷ row_at (first (λ i. is_of_wrong_type (header file i)) (section_count file)) SectionType
    ∷ row_at (first (is_unnamed file) (section_count file)) StringIndex
    ∷ []

-- The rows on the table of symbols, on symbols and on sections of relocations.
abbrev pub symbol_rows : List ℕ → List (Option ElfRefusal)
symbol_rows file =
    row (lacks_symbols file) SymbolTable
    ∷ row_at (first (is_astray file) (symbol_count file)) SymbolSection
    ∷ row_at (first (λ i. is_misdirected file (header file i)) (section_count file)) RelaTarget
    ∷ []

-- The rows on relocations.
abbrev pub rela_rows : List ℕ → List (Option ElfRefusal)
rela_rows file =
    row_on (find (names_no_symbol file) (relas file)) RelaSymbol
    ∷ row_on (find (ends_outside file) (relas file)) RelaOffset
    ∷ []

-- the whole table
abbrev pub rows : List ℕ → List (Option ElfRefusal)
rows file = header_rows file ++ section_rows file ++ symbol_rows file ++ rela_rows file

-- The file is refused so: this is the first row that holds.
unfoldable pub IsRefused : List ℕ → ElfRefusal → Type 0
IsRefused file r = first_row (rows file) ≡ Some r

-- The bytes are the file of this object: no row holds, and they say these sections, symbols and relocations.
pub record IsObject (file : List ℕ) (o : Object) : Type 0 where
  pub no_row : first_row (rows file) ≡ None
  pub says : Says file o
