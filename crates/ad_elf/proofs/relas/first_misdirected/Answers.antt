use Rattle.std.proofs.Common.{ap, sym, ◌∙◌, arith}
use Rattle.ad_elf.proofs.Below.{first_here}
use Rattle.ad_elf.specs.Fields.{header}
use Rattle.ad_elf.specs.Refusals.{is_misdirected}
use Rattle.ad_elf.proofs.relas.first_misdirected.Goals as goal

pub returns-then-is_misdirected : goal.returns-then-is_misdirected
returns-then-is_misdirected c =
    first_here (λ i. is_misdirected c.args.file.now (header c.args.file.now i)) _ _ c.loop-i.invariant (sym (c.is_misdirected.ensures ∙ ap (is_misdirected c.args.file.now) c.header.ensures) ∙ c.if-is_misdirected.true) (omega arith)
