-- The fields of an object file: numbers at places, the lowest byte first (gABI, "Object Files").
use Rattle.std.specs.Prelude.{ℕ, ℤ, ◌+◌, ◌*◌, List, drop, slice_index}
use Rattle.byteorder.specs.Endian.{little_number, twos_complement}
use Rattle.ad_elf.specs.declared.file.SectionHeader.{SectionHeader}
use Rattle.ad_elf.specs.declared.file.SymbolEntry.{SymbolEntry}
use Rattle.ad_elf.specs.declared.file.RelaEntry.{RelaEntry}
use Rattle.ad_elf.specs.declared.elf.TheConstants.{RELA_BYTES, SECTION_HEADER_BYTES, SYMBOL_BYTES}

-- the number of 2, of 4 or of 8 bytes that begins at a place, and the signed one of 8 bytes
unfoldable pub u16_at : List ℕ → ℕ → ℕ
u16_at file at = little_number 2 (drop at file)

unfoldable pub u32_at : List ℕ → ℕ → ℕ
u32_at file at = little_number 4 (drop at file)

unfoldable pub u64_at : List ℕ → ℕ → ℕ
u64_at file at = little_number 8 (drop at file)

unfoldable pub i64_at : List ℕ → ℕ → ℤ
i64_at file at = twos_complement 8 (little_number 8 (drop at file))

-- The header of the file (gABI, "ELF Header"): its type, machine and flags, where the section table begins, how long
-- each of its headers is, how many sections there are, and which of them has their names.
abbrev pub file_type : List ℕ → ℕ
file_type file = u16_at file 16

abbrev pub machine : List ℕ → ℕ
machine file = u16_at file 18

abbrev pub table_at : List ℕ → ℕ
table_at file = u64_at file 40

abbrev pub file_flags : List ℕ → ℕ
file_flags file = u32_at file 48

abbrev pub header_size : List ℕ → ℕ
header_size file = u16_at file 58

abbrev pub section_count : List ℕ → ℕ
section_count file = u16_at file 60

abbrev pub names_number : List ℕ → ℕ
names_number file = u16_at file 62

-- the header of a section, which begins at a place (gABI, "Sections")
unfoldable pub header_at : List ℕ → ℕ → SectionHeader
header_at file at = record {
  name = u32_at file at;
  typ = u32_at file (at + 4);
  flags = u64_at file (at + 8);
  offset = u64_at file (at + 24);
  size = u64_at file (at + 32);
  link = u32_at file (at + 40);
  info = u32_at file (at + 44);
  align = u64_at file (at + 48);
  entry_size = u64_at file (at + 56);
}

-- the header of section i
abbrev pub header : List ℕ → ℕ → SectionHeader
header file i = header_at file (table_at file + SECTION_HEADER_BYTES * i)

-- a symbol, which begins at a place (gABI, "Symbol Table")
unfoldable pub symbol_at : List ℕ → ℕ → SymbolEntry
symbol_at file at = record {
  name = u32_at file at;
  info = slice_index file (at + 4);
  shndx = u16_at file (at + 6);
  value = u64_at file (at + 8);
  size = u64_at file (at + 16);
}

-- a relocation with an addend, which begins at a place (gABI, "Relocation")
unfoldable pub rela_at : List ℕ → ℕ → RelaEntry
rela_at file at = record { offset = u64_at file at; info = u64_at file (at + 8); addend = i64_at file (at + 16) }

-- entry j of the symbols, or of the relocations, of a section
abbrev pub symbol_entry : List ℕ → SectionHeader → ℕ → SymbolEntry
symbol_entry file h j = symbol_at file (h.offset + SYMBOL_BYTES * j)

abbrev pub rela_entry : List ℕ → SectionHeader → ℕ → RelaEntry
rela_entry file h j = rela_at file (h.offset + RELA_BYTES * j)
