use Rattle.ad_stacks.proofs.ReadingLaws.{numbers_law}
use Rattle.ad_stacks.proofs.laws.law_numbers.Goals as goal

pub returns : goal.returns
returns c = numbers_law
