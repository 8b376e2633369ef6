use Rattle.ad_maps.proofs.WorkerLaws.{enter_law}
use Rattle.ad_maps.proofs.laws.law_enter.Goals as goal

pub returns : goal.returns
returns c = enter_law
