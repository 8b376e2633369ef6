use Rattle.std.proofs.Common.{◌∙◌}
use Rattle.ad_script.proofs.Spelling.{decimal_number, hexadecimal, number-in-is}
use Rattle.ad_script.proofs.numbers.number_of.Goals as goal

pub returns-in-Some : goal.returns-in-Some
returns-in-Some c =
    let front = rw c.as_slice.ensures at c.in-Some.ensures.cases in
    number-in-is 16 c.in-Some.digits.now c.number_in.result c.number_in.ensures.form c.number_in.ensures.none ∙ hexadecimal c.args.word.now c.in-Some.digits.now front.0 front.1

pub returns-in-None : goal.returns-in-None
returns-in-None c =
    let front = rw c.as_slice.ensures at c.in-None.ensures.cases in
    number-in-is 10 c.args.word.now c.number_in-in-None.result c.number_in-in-None.ensures.form c.number_in-in-None.ensures.none ∙ decimal_number c.args.word.now front
