use Rattle.std.proofs.Common.{◌≡◌, ◌⊎◌, inl, inr, ap, arith, length, sym, ◌∙◌}
use Rattle.ad_elf.specs.declared.refusal.ElfRefusal.TheVariants.{OutOfMemory as MemoryWanted}
use Rattle.ad_elf.specs.File.{symbol, symbol_count}
use Rattle.ad_elf.specs.Refusals.{IsRefused}
use Rattle.ad_elf.proofs.InRange.{IsInRange-from, length-each}
use Rattle.ad_elf.proofs.Rows.{IfErr-same, IsRefused-header, IsRefused-rela, IsRefused-section, IsRefused-symbol, first_row-rows}
use Rattle.ad_elf.proofs.read.read_object.Goals as goal

pub returns-in-Some-clause-refused : goal.returns-in-Some-clause-refused
returns-in-Some-clause-refused c = inr (IsRefused-header _ _ (sym c.header_refusal.ensures.value ∙ c.in-Some.is))

pub returns-in_err-sections-clause-refused : goal.returns-in_err-sections-clause-refused
returns-in_err-sections-clause-refused c =
    let file = c.args.file.now in
    IfErr-same c.from_residual.result c.in_err-sections.field-0.0 (λ r. (r ≡ MemoryWanted) ⊎ IsRefused file r) c.from_residual.ensures.1
    (elim c.in_err-sections.ensures.refused [
      | inl wanted ↦ inl wanted
      | inr e ↦ inr (IsRefused-section file _ (sym c.header_refusal.ensures.value ∙ c.in_default.is) e)
    ])

pub returns-in_err-symbols-clause-refused : goal.returns-in_err-symbols-clause-refused
returns-in_err-symbols-clause-refused c =
    let file = c.args.file.now in
    IfErr-same c.from_residual-in_err-symbols.result c.in_err-symbols.field-0.0 (λ r. (r ≡ MemoryWanted) ⊎ IsRefused file r) c.from_residual-in_err-symbols.ensures.1
    (elim c.in_err-symbols.ensures.refused [
      | inl wanted ↦ inl wanted
      | inr e ↦ inr (IsRefused-symbol file _ (sym c.header_refusal.ensures.value ∙ c.in_default.is) c.in_ok-sections.ensures.fine e)
    ])

pub read_relas-requires-clause-symbols : goal.read_relas-requires-clause-symbols
read_relas-requires-clause-symbols c =
    let file = c.args.file.now in
    omega (arith, c.len.ensures, ap length c.in_ok-symbols.ensures.symbols, length-each (symbol file) (symbol_count file), c.in_ok-symbols.symbols.ok.0)

pub returns-in_err-relas-clause-refused : goal.returns-in_err-relas-clause-refused
returns-in_err-relas-clause-refused c =
    let file = c.args.file.now in
    IfErr-same c.from_residual-in_err-relas.result c.in_err-relas.field-0.0 (λ r. (r ≡ MemoryWanted) ⊎ IsRefused file r) c.from_residual-in_err-relas.ensures.1
    (elim c.in_err-relas.ensures.refused [
      | inl wanted ↦ inl wanted
      | inr e ↦ inr (IsRefused-rela file _ (sym c.header_refusal.ensures.value ∙ c.in_default.is) c.in_ok-sections.ensures.fine c.in_ok-symbols.ensures.fine e)
    ])

pub returns-clause-object : goal.returns-clause-object
returns-clause-object c = record {
  no_row = first_row-rows c.args.file.now (sym c.header_refusal.ensures.value ∙ c.in_default.is) c.in_ok-sections.ensures.fine c.in_ok-symbols.ensures.fine ∙ c.in_ok-relas.ensures.fine;
  says = record { sections_said = c.of.ensures ∙ c.in_ok-sections.ensures.sections; symbols_said = c.of-2.ensures ∙ c.in_ok-symbols.ensures.symbols; relas_said = c.of-3.ensures ∙ c.in_ok-relas.ensures.relas };
}

pub returns-clause-range : goal.returns-clause-range
returns-clause-range c = IsInRange-from c.args.file.now _ c.header_refusal.ensures.short (returns-clause-object c)
