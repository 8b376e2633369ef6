use Rattle.ad_maps.proofs.Owners.{owner_law}
use Rattle.ad_maps.proofs.laws.law_owner.Goals as goal

pub returns : goal.returns
returns c = owner_law
