use Rattle.ad_generator.proofs.Worked.{AreWordsOf-cnt, AreWordsOf-dev, AreWordsOf-sum, AreWordsOf-tab}
use Rattle.ad_generator.proofs.laws.law_instructions.Goals as goal

pub returns : goal.returns
returns c = record { sum = AreWordsOf-sum; cnt = AreWordsOf-cnt; dev = AreWordsOf-dev; tab = AreWordsOf-tab }
