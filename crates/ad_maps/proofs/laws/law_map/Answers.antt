use Rattle.ad_maps.proofs.MapLaw.{map_law}
use Rattle.ad_maps.proofs.laws.law_map.Goals as goal

pub returns : goal.returns
returns c = map_law
