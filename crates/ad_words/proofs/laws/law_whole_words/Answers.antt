use Rattle.ad_words.proofs.Split.{words-split}
use Rattle.ad_words.proofs.laws.law_whole_words.Goals as goal

pub returns : goal.returns
returns c = words-split
