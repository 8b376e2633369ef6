use Rattle.std.proofs.Common.{ap, inr, length, ◌∙◌, arith, ◌≡◌}
use Rattle.ad_elf.proofs.Below.{first-zero}
use Rattle.ad_reloc.proofs.Applied.{all_fine, entry_row-as, fine_at, handed_on, refused_at}
use Rattle.ad_reloc.proofs.applicable.check_relocations.Goals as goal

pub loop-k-init : goal.loop-k-init
loop-k-init c = record { same = c.as_slice-relas.ensures; none = first-zero _ }

pub returns-in_err-check-clause-refused : goal.returns-in_err-check-clause-refused
returns-in_err-check-clause-refused c =
    let linked = c.in_ok-linking.ensures in
    let row = entry_row-as c.args.object.now _ c.args.layout.now _ c.args.tables.now _ c.args.fixed _ c.as_slice-relas.result.now c.loop-k.k _ c.loop-k.invariant.same c.loop-k-test.true linked.object linked.layout linked.tables linked.fixed ∙ c.in_err-check.ensures.refused in
    rw (handed_on c.from_residual-in_err-check.result c.in_err-check.field-0.0 c.from_residual-in_err-check.ensures.1)
    (inr (refused_at c.args.object.now c.args.layout.now c.args.tables.now c.args.fixed c.loop-k.k c.in_err-check.field-0.0 c.loop-k.invariant.none (omega (arith, c.loop-k-test.true, ap length c.loop-k.invariant.same)) row))

pub loop-k-preserved : goal.loop-k-preserved
loop-k-preserved c =
    let linked = c.in_ok-linking.ensures in
    let row = entry_row-as c.args.object.now _ c.args.layout.now _ c.args.tables.now _ c.args.fixed _ c.as_slice-relas.result.now c.loop-k.k _ c.loop-k.invariant.same c.loop-k-test.true linked.object linked.layout linked.tables linked.fixed ∙ c.in_ok-check.ensures.fine in
    record { same = c.loop-k.invariant.same; none = fine_at c.args.object.now c.args.layout.now c.args.tables.now c.args.fixed c.loop-k.k c.loop-k.invariant.none row }

pub returns-clause-fine : goal.returns-clause-fine
returns-clause-fine c =
    let ends : c.loop-k.k ≡ length c.args.object.now.relas = omega (arith, c.loop-k.auto.k-end, c.loop-k-test.false, ap length c.loop-k.invariant.same) in
    all_fine c.args.object.now c.args.layout.now c.args.tables.now c.args.fixed c.loop-k.k c.loop-k.invariant.none ends
