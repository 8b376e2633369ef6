-- What each row says that doesn't hold.
use Rattle.std.proofs.Common.{◌≡◌, ℕ, ◌≤◌, ◌==◌, not, Bool, true, false, List, [], ◌∷◌, find, length, Option, Some, None, refl, ap, ◌∙◌}
use Rattle.std.specs.List.{AllByRecursion}
use Rattle.std.specs.Option.{option_or}
use Rattle.std.proofs.lemmas.Bool.{le-ltb, ltb-false, not-false, not_from_true}
use Rattle.ad_elf.specs.declared.elf.TheConstants.{EM_RISCV, ET_REL, FILE_HEADER_BYTES}
use Rattle.ad_elf.specs.declared.object.Rela.{Rela}
use Rattle.ad_elf.specs.declared.refusal.ElfRefusal.{ElfRefusal}
use Rattle.ad_elf.specs.declared.refusal.ElfRefusal.TheVariants.{Class, Flags, Machine, Magic, NotRelocatable, RelaOffset, RelaSymbol, RelaTarget, SectionBounds, SectionTable, SectionType, Short, StringIndex, SymbolSection, SymbolTable}
use Rattle.ad_elf.specs.Below.{first}
use Rattle.ad_elf.specs.Fields.{file_flags, file_type, header, machine, section_count}
use Rattle.ad_elf.specs.File.{has_string, relas, section_names, symbol_count}
use Rattle.ad_elf.specs.Refusals.{ends_outside, first_row, has_other_flags, is_astray, is_misdirected, is_of_wrong_type, is_other_class, is_out_of_bounds, lacks_magic, lacks_symbols, lacks_table, names_no_symbol, row, row_at, row_on, rows}

-- no row of a list holds
all_none : (rs : List (Option ElfRefusal)) → first_row rs ≡ None → AllByRecursion (λ (r : Option ElfRefusal). r ≡ None) rs
all_none [] e = tt
all_none (None ∷ rs) e = (refl, all_none rs e)
all_none (Some r ∷ rs) e = cc

row_none : (b : Bool) (r : ElfRefusal) → row b r ≡ None → b ≡ false
row_none true r e = cc
row_none false r e = refl

row_at_none : (o : Option ℕ) (r : ℕ → ElfRefusal) → row_at o r ≡ None → o ≡ None
row_at_none None r e = refl
row_at_none (Some i) r e = cc

row_on_none : (o : Option Rela) (r : ℕ → ℕ → ElfRefusal) → row_on o r ≡ None → o ≡ None
row_on_none None r e = refl
row_on_none (Some i) r e = cc

-- No row of the table holds.
pub record IsSound (file : List ℕ) : Type 0 where
  pub begins : FILE_HEADER_BYTES ≤ length file
  pub magic : lacks_magic file ≡ false
  pub format : is_other_class file ≡ false
  pub machines : (machine file == EM_RISCV) ≡ true
  pub relocatable : (file_type file == ET_REL) ≡ true
  pub flags : has_other_flags file ≡ false
  pub table : lacks_table file ≡ false
  pub bounds : first (is_out_of_bounds file) (section_count file) ≡ None
  pub types : first (λ i. is_of_wrong_type (header file i)) (section_count file) ≡ None
  pub names : first (λ i. not (has_string (section_names file) (header file i).name)) (section_count file) ≡ None
  pub symbols : lacks_symbols file ≡ false
  pub places : first (is_astray file) (symbol_count file) ≡ None
  pub directed : first (λ i. is_misdirected file (header file i)) (section_count file) ≡ None
  pub named : find (names_no_symbol file) (relas file) ≡ None
  pub offsets : find (ends_outside file) (relas file) ≡ None

pub IsSound-from : (file : List ℕ) → first_row (rows file) ≡ None → IsSound file
IsSound-from file e =
    let all = all_none (rows file) e in
    record {
      begins = ltb-false _ _ (row_none _ _ all.0);
      magic = row_none _ _ all.1.0;
      format = row_none _ _ all.1.1.0;
      machines = not-false _ (row_none _ _ all.1.1.1.0);
      relocatable = not-false _ (row_none _ _ all.1.1.1.1.0);
      flags = row_none _ _ all.1.1.1.1.1.0;
      table = row_none _ _ all.1.1.1.1.1.1.0;
      bounds = row_at_none _ _ all.1.1.1.1.1.1.1.0;
      types = row_at_none _ _ all.1.1.1.1.1.1.1.1.0;
      names = row_at_none _ _ all.1.1.1.1.1.1.1.1.1.0;
      symbols = row_none _ _ all.1.1.1.1.1.1.1.1.1.1.0;
      places = row_at_none _ _ all.1.1.1.1.1.1.1.1.1.1.1.0;
      directed = row_at_none _ _ all.1.1.1.1.1.1.1.1.1.1.1.1.0;
      named = row_on_none _ _ all.1.1.1.1.1.1.1.1.1.1.1.1.1.0;
      offsets = row_on_none _ _ all.1.1.1.1.1.1.1.1.1.1.1.1.1.1.0;
    }

-- and back
first_row-none : (rs : List (Option ElfRefusal)) → AllByRecursion (λ (r : Option ElfRefusal). r ≡ None) rs → first_row rs ≡ None
first_row-none [] all = refl
first_row-none (r ∷ rs) all = ap (λ (o : Option ElfRefusal). option_or o (first_row rs)) all.0 ∙ first_row-none rs all.1

no_row : (b : Bool) (r : ElfRefusal) → b ≡ false → row b r ≡ None
no_row b r e = rw e refl

no_row_at : (o : Option ℕ) (r : ℕ → ElfRefusal) → o ≡ None → row_at o r ≡ None
no_row_at o r e = rw e refl

no_row_on : (o : Option Rela) (r : ℕ → ℕ → ElfRefusal) → o ≡ None → row_on o r ≡ None
no_row_on o r e = rw e refl

pub IsSound-rows : (file : List ℕ) → IsSound file → first_row (rows file) ≡ None
IsSound-rows file s =
    first_row-none (rows file) (
      no_row _ Short (le-ltb _ _ s.begins),
      (
        no_row _ Magic s.magic,
        (
          no_row _ Class s.format,
          (
            no_row _ Machine (not_from_true _ s.machines),
            (
              no_row _ NotRelocatable (not_from_true _ s.relocatable),
              (
                no_row _ (Flags (file_flags file)) s.flags,
                (
                  no_row _ SectionTable s.table,
                  (
                    no_row_at _ SectionBounds s.bounds,
                    (
                      no_row_at _ SectionType s.types,
                      (
                        no_row_at _ StringIndex s.names,
                        (
                          no_row _ SymbolTable s.symbols,
                          (
                            no_row_at _ SymbolSection s.places,
                            (
                              no_row_at _ RelaTarget s.directed,
                              (no_row_on _ RelaSymbol s.named, (no_row_on _ RelaOffset s.offsets, tt)),
                            ),
                          ),
                        ),
                      ),
                    ),
                  ),
                ),
              ),
            ),
          ),
        ),
      ),
    )
