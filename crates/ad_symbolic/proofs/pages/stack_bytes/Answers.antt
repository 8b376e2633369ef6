use Rattle.std.proofs.Common.{◌∙◌, [], arith}
use Rattle.ad_symbolic.specs.declared.byte.Byte.TheVariants.{Number}
use Rattle.ad_symbolic.proofs.Filled.{filled}
use Rattle.ad_symbolic.proofs.pages.stack_bytes.Goals as goal

pub returns-clause-items : goal.returns-clause-items
returns-clause-items c =
    c.in_ok-resize.ensures.items ∙ filled 16384 c.new-bytes.result.len c.new-bytes.result.items [] (Number 0) c.new-bytes.ensures.items c.new-bytes.result.ok.0 (omega (arith, c.new-bytes.ensures.len))
