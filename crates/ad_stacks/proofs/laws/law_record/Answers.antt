use Rattle.ad_stacks.proofs.StepLaws.{record_law}
use Rattle.ad_stacks.proofs.laws.law_record.Goals as goal

pub returns : goal.returns
returns c = record_law
