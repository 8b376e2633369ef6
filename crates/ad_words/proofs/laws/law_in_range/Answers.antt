use Rattle.ad_words.proofs.Ranges.{command_of-in_range}
use Rattle.ad_words.proofs.laws.law_in_range.Goals as goal

pub returns : goal.returns
returns c = command_of-in_range
