use Rattle.std.proofs.Common.{◌∙◌, ap, arith}
use Rattle.std.specs.List.{flat_map}
use Rattle.std.proofs.lemmas.List.{take_all}
use Rattle.ad_base.specs.declared.layout.TheConstants.{PAGE_BYTES}
use Rattle.ad_symbolic.specs.AddressSpace.{cell_bytes}
use Rattle.ad_symbolic.specs.declared.byte.Byte.TheVariants.{Number}
use Rattle.ad_symbolic.proofs.Filled.{filled}
use Rattle.ad_symbolic.proofs.pages.cell_page.Goals as goal

pub returns-clause-items : goal.returns-clause-items
returns-clause-items c =
    let l = c.loop-cell in
    c.in_ok-resize.ensures.items
    ∙ filled PAGE_BYTES l.bytes.len l.bytes.items (flat_map cell_bytes c.args.cells.now) (Number 0) (l.invariant.0 ∙ ap (flat_map cell_bytes) (take_all l.cell-index c.args.cells.now c.loop-cell-test.false)) l.bytes.ok.0 (omega (arith, l.invariant.1, c.requires, l.auto.cell-index-end))
