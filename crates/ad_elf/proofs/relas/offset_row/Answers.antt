use Rattle.std.proofs.Common.{ap, sym, ◌∙◌}
use Rattle.ad_elf.specs.declared.refusal.ElfRefusal.TheVariants.{RelaOffset}
use Rattle.ad_elf.specs.Refusals.{ends_outside, row_on}
use Rattle.ad_elf.proofs.Found.{find_here, find_more}
use Rattle.ad_elf.proofs.relas.offset_row.Goals as goal

pub returns-then-ends_outside : goal.returns-then-ends_outside
returns-then-ends_outside c =
    let found = find_here (ends_outside c.args.file.now) c.args.relas.now c.loop-k.k _ c.loop-k.invariant c.loop-k-test.true (sym c.ends_outside.ensures ∙ c.if-ends_outside.true) in
    ap (λ o. row_on o RelaOffset) (sym found)

pub loop-k-preserved : goal.loop-k-preserved
loop-k-preserved c =
    find_more (ends_outside c.args.file.now) c.args.relas.now c.loop-k.k _ c.loop-k.invariant c.loop-k-test.true (sym c.ends_outside.ensures ∙ c.if-ends_outside.false)
