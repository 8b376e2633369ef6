-- The first row of the table, part by part.
use Rattle.std.proofs.Common.{◌≡◌, ◌⊎◌, inl, inr, IfErr, Result, Ok, Err, ℕ, List, [], ◌∷◌, ◌++◌, Option, Some, None, is_none, is_some, ◌||◌, not, true, false, refl, subst, sym, ap, ◌∙◌}
use Rattle.ad_elf.specs.declared.refusal.ElfRefusal.{ElfRefusal}
use Rattle.ad_elf.specs.declared.refusal.ElfRefusal.TheVariants.{OutOfMemory, RelaTarget, SymbolSection, SymbolTable}
use Rattle.std.specs.Result.{IsErrAnd}
use Rattle.std.proofs.lemmas.Bool.{or_from, or_right}
use Rattle.ad_elf.specs.Below.{first}
use Rattle.ad_elf.specs.Fields.{header, section_count}
use Rattle.ad_elf.specs.File.{one_table, symbol_count, table}
use Rattle.ad_elf.specs.Refusals.{IsRefused, first_row, has_form, header_rows, is_astray, is_misdirected, lacks_symbols, rela_rows, rows, section_rows, symbol_rows, unnamed_symbol}

front_some : (a b : List (Option ElfRefusal)) (r : ElfRefusal) → first_row a ≡ Some r → first_row (a ++ b) ≡ Some r
front_some [] b r e = cc
front_some (None ∷ a) b r e = front_some a b r e
front_some (Some s ∷ a) b r e = e

front_none : (a b : List (Option ElfRefusal)) → first_row a ≡ None → first_row (a ++ b) ≡ first_row b
front_none [] b e = refl
front_none (None ∷ a) b e = front_none a b e
front_none (Some s ∷ a) b e = cc

-- what the table comes to where a part of it is the first that has a row
pub IsRefused-header : (file : List ℕ) (r : ElfRefusal) → first_row (header_rows file) ≡ Some r → IsRefused file r
unfolding IsRefused
IsRefused-header file r e =
    front_some (header_rows file ++ section_rows file ++ symbol_rows file) (rela_rows file) r
    (front_some (header_rows file ++ section_rows file) (symbol_rows file) r (front_some (header_rows file) (section_rows file) r e))

pub IsRefused-section : (file : List ℕ) (r : ElfRefusal) → first_row (header_rows file) ≡ None → first_row (section_rows file) ≡ Some r → IsRefused file r
unfolding IsRefused
IsRefused-section file r header e =
    front_some (header_rows file ++ section_rows file ++ symbol_rows file) (rela_rows file) r
    (front_some (header_rows file ++ section_rows file) (symbol_rows file) r (front_none (header_rows file) (section_rows file) header ∙ e))

pub IsRefused-symbol : (file : List ℕ) (r : ElfRefusal) → first_row (header_rows file) ≡ None → first_row (section_rows file) ≡ None → first_row (symbol_rows file) ≡ Some r → IsRefused file r
unfolding IsRefused
IsRefused-symbol file r header section e =
    front_some (header_rows file ++ section_rows file ++ symbol_rows file) (rela_rows file) r
    (front_none (header_rows file ++ section_rows file) (symbol_rows file) (front_none (header_rows file) (section_rows file) header ∙ section) ∙ e)

pub first_row-rows : (file : List ℕ) → first_row (header_rows file) ≡ None → first_row (section_rows file) ≡ None → first_row (symbol_rows file) ≡ None → first_row (rows file) ≡ first_row (rela_rows file)
first_row-rows file header section symbol =
    let two = front_none (header_rows file) (section_rows file) header ∙ section in
    let three = front_none (header_rows file ++ section_rows file) (symbol_rows file) two ∙ symbol in
    front_none (header_rows file ++ section_rows file ++ symbol_rows file) (rela_rows file) three

pub IsRefused-rela : (file : List ℕ) (r : ElfRefusal) → first_row (header_rows file) ≡ None → first_row (section_rows file) ≡ None → first_row (symbol_rows file) ≡ None → first_row (rela_rows file) ≡ Some r
    → IsRefused file r
unfolding IsRefused
IsRefused-rela file r header section symbol e = first_row-rows file header section symbol ∙ e

-- where the first three parts have no row, what is said of the fourth is said of the whole table
pub IsRefused-behind : {T : Type 0} (file : List ℕ) (r : Result T ElfRefusal) → first_row (header_rows file) ≡ None → first_row (section_rows file) ≡ None → first_row (symbol_rows file) ≡ None
    → IfErr r (λ e. (e ≡ OutOfMemory) ⊎ (first_row (rela_rows file) ≡ Some e)) → IfErr r (λ e. (e ≡ OutOfMemory) ⊎ IsRefused file e)
IsRefused-behind file (Ok o) header section symbol h = h
IsRefused-behind file (Err e) header section symbol (inl h) = inl h
IsRefused-behind file (Err e) header section symbol (inr h) = inr (IsRefused-rela file e header section symbol h)

-- the rows on symbols and on sections of relocations, one after another
pub symbol_rows-form : (file : List ℕ) → (is_none (one_table file) || not (has_form file (table file))) ≡ true → first_row (symbol_rows file) ≡ Some SymbolTable
unfolding lacks_symbols
symbol_rows-form file e = rw e refl

pub symbol_rows-name : (file : List ℕ) → is_some (unnamed_symbol file) ≡ true → first_row (symbol_rows file) ≡ Some SymbolTable
unfolding lacks_symbols
symbol_rows-name file e = rw (or_right (is_none (one_table file) || not (has_form file (table file))) (is_some (unnamed_symbol file)) e) refl

pub HasSymbols-from : (file : List ℕ) → (is_none (one_table file) || not (has_form file (table file))) ≡ false → unnamed_symbol file ≡ None → lacks_symbols file ≡ false
unfolding lacks_symbols
HasSymbols-from file form named = or_from _ _ form (ap is_some named)

pub symbol_rows-place : (file : List ℕ) (j : ℕ) → lacks_symbols file ≡ false → first (is_astray file) (symbol_count file) ≡ Some j → first_row (symbol_rows file) ≡ Some (SymbolSection j)
symbol_rows-place file j fine e = rw (fine, e) refl

pub symbol_rows-target : (file : List ℕ) (i : ℕ) → lacks_symbols file ≡ false → first (is_astray file) (symbol_count file) ≡ None → first (λ k. is_misdirected file (header file k)) (section_count file) ≡ Some i
    → first_row (symbol_rows file) ≡ Some (RelaTarget i)
symbol_rows-target file i fine placed e = rw (fine, placed, e) refl

pub symbol_rows-none : (file : List ℕ) → lacks_symbols file ≡ false → first (is_astray file) (symbol_count file) ≡ None → first (λ k. is_misdirected file (header file k)) (section_count file) ≡ None → first_row (symbol_rows file) ≡ None
symbol_rows-none file fine placed e = rw (fine, placed, e) refl

-- an error that is handed on
pub IfErr-same : {T : Type 0} (r : Result T ElfRefusal) (e : ElfRefusal) (Q : ElfRefusal → Type 0) → IsErrAnd r (λ x. x ≡ e) → Q e → IfErr r Q
IfErr-same (Ok t) e Q h q = cc
IfErr-same (Err x) e Q h q = subst Q (sym h) q
