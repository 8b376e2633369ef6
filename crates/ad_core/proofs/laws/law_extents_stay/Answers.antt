use Rattle.ad_core.proofs.Stay.{called_extents}
use Rattle.ad_core.proofs.laws.law_extents_stay.Goals as goal

pub returns : goal.returns
returns c = called_extents
