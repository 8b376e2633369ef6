use Rattle.std.proofs.Common.{arith, string_bytes}
use Rattle.ad_words.proofs.Parsing.{many_operands, one_operand}
use Rattle.ad_words.proofs.parsed.Parsed.with_operands.Goals as goal

pub returns-in-len1 : goal.returns-in-len1
returns-in-len1 c = λ task.
    let same = rw c.as_str.ensures.value at (c.with_operand.ensures task) in
    one_operand string_bytes task _ c.args.words.now c.word-item.result _ (omega arith) (omega arith) c.word-item.is same

pub returns-in_default : goal.returns-in_default
returns-in_default c = λ task. many_operands string_bytes task _ c.args.words.now c.in_default.len_at_least
