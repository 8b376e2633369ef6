use Rattle.std.proofs.Common.{◌≢◌, false, get_or, lit<}
use Rattle.std.proofs.lemmas.Bool.{false≢true}
use Rattle.std.proofs.lemmas.Str.Parse.{parse_plain}
use Rattle.std.proofs.lemmas.Str.Pattern.{starts_char}
use Rattle.ad_words.proofs.Digits.{are_numerals, digits_none, digits_some}
use Rattle.ad_words.proofs.setting.digits.Goals as goal

pub returns-clause-some : goal.returns-clause-some
returns-clause-some c =
    let plain : get_or c.args.text.now 0 0 ≢ 43 = λ plus. false≢true ((starts_char 43 c.args.text.now false c.if-starts_with.ensures.cases (lit< tt) (lit< tt)).1 plus) in
    rw c.ok.ensures.value (digits_some _ _ (parse_plain are_numerals 64 c.args.text.now _ c.parse.ensures.value.0 plain))

pub returns-clause-none : goal.returns-clause-none
returns-clause-none c =
    let plain : get_or c.args.text.now 0 0 ≢ 43 = λ plus. false≢true ((starts_char 43 c.args.text.now false c.if-starts_with.ensures.cases (lit< tt) (lit< tt)).1 plus) in
    rw c.ok.ensures.value (digits_none _ _ (parse_plain are_numerals 64 c.args.text.now _ c.parse.ensures.value.0 plain))
