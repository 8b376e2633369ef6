-- What is known of a file for which rows don't hold.
use Rattle.std.proofs.Common.{◌≡◌, ◌%◌, inl, inr, Some, None, is_none, ℕ, ◌+◌, ◌*◌, ◌<◌, ◌≤◌, Bool, true, false, not, ◌==◌, ◌&&◌, ◌||◌, nat_lt, nat_le, List, length, refl, sym, arith}
use Rattle.std.proofs.lemmas.Bool.{eq-eqb, leb-false, and_parts, cases_Bool, cond-false, cond-true, eqb-true, ltb-false, ltb-true, not-false, or_parts}
use Rattle.ad_elf.specs.declared.elf.TheConstants.{FILE_HEADER_BYTES, SECTION_HEADER_BYTES, SHN_LORESERVE, RELA_BYTES, SHT_NOBITS, SHT_NULL, SHT_RELA, SHT_STRTAB, SHT_SYMTAB, ZERO_BYTES}
use Rattle.ad_elf.specs.declared.table.SymbolTable.{SymbolTable}
use Rattle.ad_elf.specs.Private.Checked.{AreDirected, AreInFile, HasNames, HasTable, IsTable}
use Rattle.ad_elf.specs.Fields.{header, names_number, section_count, table_at}
use Rattle.ad_elf.specs.Refusals.{are_strings, has_form, is_misdirected, is_out_of_bounds, is_too_long, lacks_table, stored_before, stored_size}
use Rattle.ad_elf.specs.Below.{first}
use Rattle.ad_elf.specs.File.{content, has_kept_relas, is_kept, is_stored, one_table, table, table_number}
use Rattle.ad_elf.specs.declared.file.SectionHeader.{SectionHeader}
use Rattle.ad_elf.proofs.Below.{fails_where_none}

pub stored_part : (x y : Bool) → x ≡ true → (x && y) ≡ false → y ≡ false
stored_part true y e f = f
stored_part false y e f = cc

record Parts (file : List ℕ) : Type 0 where
  few : nat_le SHN_LORESERVE (section_count file) ≡ false
  there : nat_lt (length file) (table_at file + SECTION_HEADER_BYTES * section_count file) ≡ false
  names : not (are_strings file (names_number file)) ≡ false

Parts-from : (file : List ℕ) → lacks_table file ≡ false → Parts file
unfolding lacks_table
Parts-from file fine =
    let all = or_parts _ (not (are_strings file (names_number file))) fine in
    let front = or_parts _ (nat_lt (length file) (table_at file + SECTION_HEADER_BYTES * section_count file)) all.0 in
    let counts = or_parts _ (nat_le SHN_LORESERVE (section_count file)) front.0 in
    record { few = counts.1; there = front.1; names = all.1 }

pub HasTable-from : (file : List ℕ) → FILE_HEADER_BYTES ≤ length file → lacks_table file ≡ false → HasTable file
HasTable-from file begins fine = record { begins = begins; there = ltb-false _ _ (Parts-from file fine).there }

pub section_count-below : (file : List ℕ) → lacks_table file ≡ false → section_count file < SHN_LORESERVE
section_count-below file fine = leb-false _ _ (Parts-from file fine).few

pub HasNames-from : (file : List ℕ) → lacks_table file ≡ false → HasNames file
HasNames-from file fine =
    let strings = not-false _ (Parts-from file fine).names in
    let parts = and_parts (nat_lt (names_number file) (section_count file)) ((header file (names_number file)).typ == SHT_STRTAB) strings in
    record { number = ltb-true _ _ parts.0; strings = eqb-true _ _ parts.1 }

-- a section that isn't too long ends inside the file, by itself and together with those before it
pub inside_file : (bytes before : ℕ) (h : SectionHeader) → is_too_long bytes before h ≡ false → is_stored h ≡ true → h.offset + h.size ≤ bytes
inside_file bytes before h fine stored =
    let parts = or_parts (is_stored h && (nat_lt bytes (h.offset + h.size) || nat_lt bytes (before + h.size))) ((h.typ == SHT_NOBITS) && nat_lt ZERO_BYTES h.size) fine in
    let either = stored_part (is_stored h) (nat_lt bytes (h.offset + h.size) || nat_lt bytes (before + h.size)) stored parts.0 in
    ltb-false _ _ (or_parts (nat_lt bytes (h.offset + h.size)) (nat_lt bytes (before + h.size)) either).0

pub together_inside : (bytes before : ℕ) (h : SectionHeader) → before ≤ bytes → is_too_long bytes before h ≡ false → before + stored_size h ≤ bytes
together_inside bytes before h fits fine =
    let parts = or_parts (is_stored h && (nat_lt bytes (h.offset + h.size) || nat_lt bytes (before + h.size))) ((h.typ == SHT_NOBITS) && nat_lt ZERO_BYTES h.size) fine in
    elim (cases_Bool (is_stored h)) [
      | inl stored ↦ (
          let either = stored_part (is_stored h) (nat_lt bytes (h.offset + h.size) || nat_lt bytes (before + h.size)) stored parts.0 in
          let together = ltb-false _ _ (or_parts (nat_lt bytes (h.offset + h.size)) (nat_lt bytes (before + h.size)) either).1 in
          rw (cond-true (is_stored h) h.size 0 stored) together)
      | inr none ↦ rw (cond-false (is_stored h) h.size 0 none) (omega arith)
    ]

pub few_zeros : (bytes before : ℕ) (h : SectionHeader) → is_too_long bytes before h ≡ false → h.typ ≡ SHT_NOBITS → h.size ≤ ZERO_BYTES
few_zeros bytes before h fine zeros =
    let parts = or_parts (is_stored h && (nat_lt bytes (h.offset + h.size) || nat_lt bytes (before + h.size))) ((h.typ == SHT_NOBITS) && nat_lt ZERO_BYTES h.size) fine in
    ltb-false _ _ (stored_part (h.typ == SHT_NOBITS) (nat_lt ZERO_BYTES h.size) (eq-eqb _ _ zeros) parts.1)

pub AreInFile_from : (file : List ℕ) → first (is_out_of_bounds file) (section_count file) ≡ None → AreInFile file
unfolding is_out_of_bounds
AreInFile_from file none = record {
  inside = λ i below stored. inside_file (length file) (stored_before file i) (header file i) (fails_where_none (is_out_of_bounds file) (section_count file) i none below) stored;
}

-- a section of symbols, of strings or of relocations is in the file
pub stored_by_type : (typ : ℕ) (h : SectionHeader) → not (typ == SHT_NULL) && not (typ == SHT_NOBITS) ≡ true → h.typ ≡ typ → is_stored h ≡ true
stored_by_type typ h stored e = rw e stored

pub inside_by_type : (typ : ℕ) (file : List ℕ) (i : ℕ) → AreInFile file → not (typ == SHT_NULL) && not (typ == SHT_NOBITS) ≡ true → i < section_count file → (header file i).typ ≡ typ
    → (header file i).offset + (header file i).size ≤ length file
inside_by_type typ file i inside stored below e = inside.inside i below (stored_by_type typ (header file i) stored e)

-- the section that a section of relocations applies to is there
pub info_below : (file : List ℕ) (h : SectionHeader) → is_misdirected file h ≡ false → h.typ ≡ SHT_RELA → h.info < section_count file
unfolding is_misdirected
info_below file h fine rela =
    let rest = stored_part (h.typ == SHT_RELA) _ (eq-eqb _ _ rela) fine in
    let five = (or_parts _ (is_kept file h.info && ((header file h.info).typ == SHT_NOBITS)) rest).0 in
    let four = (or_parts _ (not (h.size % RELA_BYTES == 0)) five).0 in
    let three = (or_parts _ (not (h.entry_size == RELA_BYTES)) four).0 in
    let two = (or_parts _ (not (h.link == table_number file)) three).0 in
    let one = (or_parts (h.info == 0) (nat_le (section_count file) h.info) two).1 in
    leb-false _ _ one

-- the number of the table of symbols
pub table_is : (file : List ℕ) (n : ℕ) → one_table file ≡ Some n → table_number file ≡ n
unfolding table_number
table_is file n e = rw e refl

pub form_value : (file : List ℕ) (n : ℕ) (b : Bool) → one_table file ≡ Some n → has_form file (header file n) ≡ b → (is_none (one_table file) || not (has_form file (table file))) ≡ not b
form_value file n b e form = rw (table_is file n e, e, form) refl

-- a section whose relocations are kept is one of relocations
pub has_kept_relas-typ : (file : List ℕ) (h : SectionHeader) → has_kept_relas file h ≡ true → h.typ ≡ SHT_RELA
unfolding has_kept_relas
has_kept_relas-typ file h kept = eqb-true _ _ (and_parts (h.typ == SHT_RELA) (is_kept file h.info) kept).0

-- the table of symbols, as it was found
pub IsTable-found : (file : List ℕ) (t : SymbolTable) → AreInFile file → one_table file ≡ Some t.number → t.number < section_count file → (header file t.number).typ ≡ SHT_SYMTAB
    → t.header ≡ header file t.number → t.names.now ≡ content file (header file t.header.link) → IsTable file t
IsTable-found file t inside found below typ same names =
    let number = table_is file t.number found in
    record {
      number = sym number;
      header = rw number same;
      names = rw (number, ← same) names;
      inside = rw same (inside_by_type SHT_SYMTAB file t.number inside refl below typ);
    }

pub AreDirected-from : (file : List ℕ) → first (λ i. is_misdirected file (header file i)) (section_count file) ≡ None → AreDirected file
AreDirected-from file none = record { each_one = λ i below. fails_where_none (λ i. is_misdirected file (header file i)) (section_count file) i none below }
