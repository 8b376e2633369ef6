use Rattle.std.proofs.Common.{ap, sym, ◌∙◌, arith}
use Rattle.ad_elf.specs.Fields.{header}
use Rattle.ad_elf.specs.Refusals.{is_of_wrong_type}
use Rattle.ad_elf.proofs.Below.{first_here}
use Rattle.ad_elf.proofs.sections.first_of_wrong_type.Goals as goal

pub returns-then-is_of_wrong_type : goal.returns-then-is_of_wrong_type
returns-then-is_of_wrong_type c =
    first_here (λ i. is_of_wrong_type (header c.args.file.now i)) _ _ c.loop-i.invariant (sym (c.is_of_wrong_type.ensures ∙ ap is_of_wrong_type c.header.ensures) ∙ c.if-is_of_wrong_type.true) (omega arith)
