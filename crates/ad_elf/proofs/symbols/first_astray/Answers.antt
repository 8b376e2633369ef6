use Rattle.std.proofs.Common.{◌==◌, ◌/◌, ap, sym, ◌∙◌, arith}
use Rattle.std.proofs.lemmas.Bool.{and_from, ne_eqb, not_from_false}
use Rattle.ad_elf.proofs.Below.{first_here}
use Rattle.ad_elf.specs.Fields.{symbol_entry}
use Rattle.ad_elf.specs.declared.elf.TheConstants.{SYMBOL_BYTES}
use Rattle.ad_elf.specs.Refusals.{is_astray, leaves_section}
use Rattle.ad_elf.proofs.symbols.first_astray.Goals as goal

pub returns-then-leaves_section : goal.returns-then-leaves_section
returns-then-leaves_section c =
    let entry = c.symbol_entry.ensures ∙ ap (λ h. symbol_entry c.args.file.now h c.loop-j.j) c.requires.symbols.header in
    let leaves = sym (c.leaves_section.ensures ∙ ap (leaves_section c.args.file.now) entry) ∙ c.if-leaves_section.true in
    let other = not_from_false (c.loop-j.j == 0) (ne_eqb _ _ c.if-j-ne0.true) in
    let count = ap (λ h. h.size / SYMBOL_BYTES) c.requires.symbols.header in
    first_here (is_astray c.args.file.now) _ _ c.loop-j.invariant (and_from _ _ other leaves) (omega (arith, count))
