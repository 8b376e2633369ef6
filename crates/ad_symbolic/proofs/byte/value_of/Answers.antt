use Rattle.std.proofs.Common.{◌<◌, ◌∙◌, sym, arith}
use Rattle.ad_symbolic.proofs.Bytes.{value-number}
use Rattle.ad_symbolic.proofs.byte.value_of.Goals as goal

pub returns-in-Number : goal.returns-in-Number
returns-in-Number c =
    let some : 0 < c.args.size = grind (arith, c.requires.size) in
    sym c.number_value.ensures ∙ sym (value-number c.args.size c.args.signed c.args.bytes.now _ c.in-Number.field-0 c.requires.length some c.in-Number.is)
