use Rattle.ad_maps.proofs.ReadLaw.{read_law}
use Rattle.ad_maps.proofs.laws.law_read.Goals as goal

pub returns : goal.returns
returns c = read_law
