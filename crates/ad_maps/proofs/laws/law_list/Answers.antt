use Rattle.ad_maps.proofs.ListLaw.{list_law}
use Rattle.ad_maps.proofs.laws.law_list.Goals as goal

pub returns : goal.returns
returns c = list_law
