use Rattle.std.proofs.Common.{◌*◌, ◌∙◌, arith}
use Rattle.ad_base.specs.declared.layout.TheConstants.{PAGE_BYTES, STACK_PAGES}
use Rattle.ad_base.proofs.Zeros.{filled, none-filled}
use Rattle.ad_call.proofs.stack_bytes.StackBytes.new.Goals as goal

pub returns : goal.returns
returns c =
    let n = STACK_PAGES * PAGE_BYTES in
    let none = c.new-bytes.result in
    c.in_ok-resize.ensures.items ∙ filled n none.len none.items none.ok.0 (omega (arith, c.new-bytes.ensures.len, none.ok.0)) ∙ none-filled n none.items c.new-bytes.ensures.items
