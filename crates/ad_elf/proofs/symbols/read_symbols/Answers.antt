use Rattle.std.proofs.Common.{◌≡◌, ◌⊎◌, inl, inr, Some, ap, is_none, sym, ◌∙◌}
use Rattle.ad_elf.specs.declared.refusal.ElfRefusal.TheVariants.{OutOfMemory as MemoryWanted}
use Rattle.ad_elf.specs.Refusals.{first_row, symbol_rows}
use Rattle.ad_elf.proofs.Rows.{HasSymbols-from, IfErr-same, symbol_rows-form, symbol_rows-name, symbol_rows-none, symbol_rows-place, symbol_rows-target}
use Rattle.ad_elf.proofs.Tables.{AreDirected-from}
use Rattle.ad_elf.proofs.symbols.read_symbols.Goals as goal

pub returns-in_default-clause-refused : goal.returns-in_default-clause-refused
returns-in_default-clause-refused c = inr (symbol_rows-form _ (sym c.symbol_table.ensures.value ∙ ap is_none c.in_default.is))

pub returns-in_err-symbols-clause-refused : goal.returns-in_err-symbols-clause-refused
returns-in_err-symbols-clause-refused c =
    IfErr-same c.from_residual.result c.in_err-symbols.field-0.0 (λ r. (r ≡ MemoryWanted) ⊎ (first_row (symbol_rows c.args.file.now) ≡ Some r)) c.from_residual.ensures.1
    (elim c.in_err-symbols.ensures.refused [
      | inl wanted ↦ inl wanted
      | inr unnamed ↦ inr (symbol_rows-name _ unnamed.1 ∙ ap Some (sym unnamed.0))
    ])

pub returns-in-Some-first_astray-clause-refused : goal.returns-in-Some-first_astray-clause-refused
returns-in-Some-first_astray-clause-refused c =
    let fine = HasSymbols-from _ (sym c.symbol_table.ensures.value ∙ ap is_none c.in-Some.is) c.in_ok-symbols.ensures.named in
    inr (symbol_rows-place _ _ fine (sym c.first_astray.ensures ∙ c.in-Some-first_astray.is))

pub returns-in-Some-first_misdirected-clause-refused : goal.returns-in-Some-first_misdirected-clause-refused
returns-in-Some-first_misdirected-clause-refused c =
    let fine = HasSymbols-from _ (sym c.symbol_table.ensures.value ∙ ap is_none c.in-Some.is) c.in_ok-symbols.ensures.named in
    inr (symbol_rows-target _ _ fine (sym c.first_astray.ensures ∙ c.in_default-first_astray.is) (sym c.first_misdirected.ensures ∙ c.in-Some-first_misdirected.is))

pub returns-in-None-clause-directed : goal.returns-in-None-clause-directed
returns-in-None-clause-directed c = AreDirected-from _ (sym c.first_misdirected.ensures ∙ c.in-None.is)

pub returns-in-None-clause-fine : goal.returns-in-None-clause-fine
returns-in-None-clause-fine c =
    let fine = HasSymbols-from _ (sym c.symbol_table.ensures.value ∙ ap is_none c.in-Some.is) c.in_ok-symbols.ensures.named in
    symbol_rows-none _ fine (sym c.first_astray.ensures ∙ c.in_default-first_astray.is) (sym c.first_misdirected.ensures ∙ c.in-None.is)
