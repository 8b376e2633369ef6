-- What is known of a file while it is read.
use Rattle.std.specs.Prelude.{◌≡◌, ℕ, ◌+◌, ◌*◌, ◌<◌, ◌≤◌, List, length, IsTrue, false}
use Rattle.ad_elf.specs.declared.elf.TheConstants.{FILE_HEADER_BYTES, SECTION_HEADER_BYTES, SHT_STRTAB}
use Rattle.ad_elf.specs.declared.table.SymbolTable.{SymbolTable}
use Rattle.ad_elf.specs.Fields.{header, names_number, section_count, table_at}
use Rattle.ad_elf.specs.Refusals.{is_misdirected}
use Rattle.ad_elf.specs.File.{is_stored, symbol_names, table, table_number}

-- The table of sections is in the file.
pub record HasTable (file : List ℕ) : Type 0 where
  pub begins : FILE_HEADER_BYTES ≤ length file
  pub there : table_at file + SECTION_HEADER_BYTES * section_count file ≤ length file

-- One of the sections has their names.
pub record HasNames (file : List ℕ) : Type 0 where
  pub number : names_number file < section_count file
  pub strings : (header file (names_number file)).typ ≡ SHT_STRTAB

-- Each section that has bytes has them in the file.
pub record AreInFile (file : List ℕ) : Type 0 where
  pub inside : (i : ℕ) → i < section_count file → IsTrue (is_stored (header file i)) → (header file i).offset + (header file i).size ≤ length file

-- This is the table of symbols, and it is in the file.
pub record IsTable (file : List ℕ) (t : SymbolTable) : Type 0 where
  pub number : t.number ≡ table_number file
  pub header : t.header ≡ table file
  pub names : t.names.now ≡ symbol_names file
  pub inside : t.header.offset + t.header.size ≤ length file

-- No section of relocations is misdirected.
pub record AreDirected (file : List ℕ) : Type 0 where
  pub each_one : (i : ℕ) → i < section_count file → is_misdirected file (header file i) ≡ false
