use Rattle.ad_maps.proofs.SwitchLaw.{switch_law}
use Rattle.ad_maps.proofs.laws.law_switch.Goals as goal

pub returns : goal.returns
returns c = switch_law
