use Rattle.std.proofs.Common.{◌≡◌, inr, false, ap, ap₂, arith, is_some, sym, ◌∙◌}
use Rattle.std.proofs.lemmas.Bool.{not_from_false}
use Rattle.ad_elf.proofs.Below.{first_here}
use Rattle.ad_elf.specs.declared.refusal.ElfRefusal.TheVariants.{StringIndex}
use Rattle.ad_elf.specs.Fields.{header}
use Rattle.ad_elf.specs.File.{has_string, section_names}
use Rattle.ad_elf.specs.Refusals.{is_unnamed, row_at}
use Rattle.ad_elf.proofs.sections.sections.Goals as goal

pub returns-in-None-clause-refused : goal.returns-in-None-clause-refused
returns-in-None-clause-refused c =
    let file = c.args.file.now in
    let has : has_string (section_names file) (header file c.loop-i.i).name ≡ false = ap₂ has_string (sym c.requires.names) (ap (λ h. h.name) (sym c.header.ensures)) ∙ sym c.string_at.ensures.there ∙ ap is_some c.in-None.is in
    inr (ap (λ o. row_at o StringIndex) (sym (first_here (is_unnamed file) _ _ c.loop-i.invariant.named (not_from_false _ has) (omega arith))))
