use Rattle.ad_maps.proofs.FreeLaws.{unmap_law}
use Rattle.ad_maps.proofs.laws.law_unmap.Goals as goal

pub returns : goal.returns
returns c = unmap_law
