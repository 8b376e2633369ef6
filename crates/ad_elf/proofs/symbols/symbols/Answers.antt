use Rattle.std.proofs.Common.{◌≡◌, ◌/◌, inr, not, false, ap, ap₂, arith, is_some, refl, sym, ◌∙◌}
use Rattle.std.proofs.lemmas.Bool.{not_from_false}
use Rattle.ad_elf.proofs.Below.{first_here}
use Rattle.ad_elf.specs.Fields.{symbol_entry}
use Rattle.ad_elf.specs.declared.elf.TheConstants.{SYMBOL_BYTES}
use Rattle.ad_elf.specs.File.{has_string, symbol_names, table}
use Rattle.ad_elf.proofs.symbols.symbols.Goals as goal

pub returns-in-None-clause-refused : goal.returns-in-None-clause-refused
returns-in-None-clause-refused c =
    let file = c.args.file.now in
    let entry = c.symbol_entry-entry.ensures ∙ ap (λ h. symbol_entry file h c.loop-j.j) c.requires.header in
    let has : has_string (symbol_names file) (symbol_entry file (table file) c.loop-j.j).name ≡ false = ap₂ has_string (sym c.requires.names) (ap (λ e. e.name) (sym entry)) ∙ sym c.string_at.ensures.there ∙ ap is_some c.in-None.is in
    let count = ap (λ h. h.size / SYMBOL_BYTES) c.requires.header in
    let first = first_here (λ j. not (has_string (symbol_names file) (symbol_entry file (table file) j).name)) _ _ c.loop-j.invariant.named (not_from_false _ has) (omega (arith, count)) in
    inr (refl, ap is_some (sym first))
