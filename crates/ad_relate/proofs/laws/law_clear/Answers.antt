use Rattle.ad_relate.proofs.Clear.{agrees}
use Rattle.ad_relate.proofs.laws.law_clear.Goals as goal

pub returns : goal.returns
returns c = agrees
