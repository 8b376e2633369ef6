use Rattle.ad_words.proofs.Whole.{operands-behind}
use Rattle.ad_words.proofs.laws.law_end_of_options.Goals as goal

pub returns : goal.returns
returns c = operands-behind
