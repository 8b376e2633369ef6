use Rattle.std.proofs.Common.{◌∙◌, sym, ap, not}
use Rattle.std.specs.Option.{is_some}
use Rattle.ad_script.specs.Script.{is_bad_number}
use Rattle.ad_script.proofs.Lists.{any_at}
use Rattle.ad_script.proofs.numbers.arguments_of.Goals as goal

pub returns-in_err-number_of : goal.returns-in_err-number_of
returns-in_err-number_of c = rw c.from_residual.ensures (any_at is_bad_number c.args.words.now c.loop-word.word-index _ c.loop-word-test.true (ap (λ n. not (is_some n)) (sym c.number_of.ensures ∙ c.in_err-number_of.was)))
