use Rattle.std.proofs.Common.{ap, sym, true, false, ◌∙◌}
use Rattle.ad_elf.specs.Fields.{header}
use Rattle.ad_elf.specs.File.{content}
use Rattle.ad_elf.specs.Refusals.{has_form}
use Rattle.ad_elf.proofs.Tables.{IsTable-found, form_value}
use Rattle.ad_elf.proofs.symbols.symbol_table.Goals as goal

pub returns-then-not-has_form-clause-value : goal.returns-then-not-has_form-clause-value
returns-then-not-has_form-clause-value c =
    let form = ap (has_form c.args.file.now) (sym c.header-section.ensures) ∙ sym c.has_form.ensures ∙ c.if-not-has_form.true in
    sym (form_value _ _ false (sym c.in_ok-number.ensures.value) form)

pub returns-clause-value : goal.returns-clause-value
returns-clause-value c =
    let form = ap (has_form c.args.file.now) (sym c.header-section.ensures) ∙ sym c.has_form.ensures ∙ c.if-not-has_form.false in
    sym (form_value _ _ true (sym c.in_ok-number.ensures.value) form)

pub returns-clause-table : goal.returns-clause-table
returns-clause-table c =
    let names = c.content.ensures ∙ ap (content c.args.file.now) (c.header.ensures ∙ ap (header c.args.file.now) c.from.ensures) in
    IsTable-found _ _ c.requires.inside (sym c.in_ok-number.ensures.value) c.in_ok-number.ensures.there c.in_ok-number.ensures.typ c.header-section.ensures names
