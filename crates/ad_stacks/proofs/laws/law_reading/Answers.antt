use Rattle.ad_stacks.proofs.ReadingLaws.{reading_law}
use Rattle.ad_stacks.proofs.laws.law_reading.Goals as goal

pub returns : goal.returns
returns c = reading_law
